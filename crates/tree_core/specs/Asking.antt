-- What a pointer shows of a tree, what a reference at a pointer leads to, and which place a pointer names.
use Rattle.std.specs.Prelude.{ℕ, zero, suc, List, [], ◌∷◌, length, Option, Some, None, Ok}
use Rattle.std.specs.Option.{option_map, option_and_then}
use Rattle.snap_core.specs.Value.{Value}
use Rattle.snap_core.specs.declared.ident.Ident.{Ident}
use Rattle.snap_core.specs.declared.number.ModelNo.{ModelNo}
use Rattle.pointer_core.specs.Path.{Path}
use Rattle.pointer_core.specs.declared.refusal.Rule.TheVariants as rule
use Rattle.patch_core.specs.Place.{index_below}
use Rattle.type_table.specs.declared.shape.Shape.{Shape}
use Rattle.type_table.specs.declared.shape.Shape.TheVariants as shape
use Rattle.type_table.specs.Table.{Table, Catalog, shape_at}
use Rattle.type_table.specs.Identifiers.{ident_of}
use Rattle.type_table.specs.Targets.{target_of}
use Rattle.type_core.specs.Making.{Outcome}
use Rattle.edit_core.specs.Labelled.{Labelled, leaf, many, keyed, items_in, entries_in, bare}
use Rattle.edit_core.specs.Edit.{Turn}
use Rattle.edit_core.specs.Typing.{label_of}
use Rattle.edit_core.specs.Template.{entry_at}
use Rattle.edit_core.specs.Ways.{part_at}
use Rattle.tree_core.specs.declared.place.Place.{Place}
use Rattle.tree_core.specs.declared.place.Place.TheVariants as place
use Rattle.tree_core.specs.TypesTyping.{typing_of, root_type}
use Rattle.tree_core.specs.Nodes.{type_at}
use Rattle.tree_core.specs.Reading.{way_along, resolved, node_of, path_to}
use Rattle.tree_core.specs.Listing.{node, entry_place, Named, named_by}
use Rattle.tree_core.specs.Outcome.{◌>>=◌, or_refuse, seen_from}

-- The value at a pointer. Frozen values and references aren't entered.
abbrev pub shown : Path → Labelled → Outcome Value
shown path root = do
  way ← or_refuse (way_along path root) path rule.Path
  part ← or_refuse (part_at way root) path rule.Path
  Ok (bare part)

-- the value of a node, and its path
abbrev pub node_shown : ℕ → Labelled → Outcome Value
node_shown n root = do
  x ← or_refuse (node_of n root) [] rule.Dead
  Ok (bare x)

abbrev pub node_path : ℕ → Labelled → Outcome Path
node_path n root = or_refuse (path_to n root) [] rule.Dead

-- The type that a type is, seen through names, optionals and maybes: one step, and within so many.
abbrev pub inner_step : (ℕ → ℕ) → ℕ → Option Shape → ℕ
inner_step further t (Some (shape.Named u)) = further u.0
inner_step further t (Some (shape.Optional u d)) = further u.0
inner_step further t (Some (shape.Maybe u)) = further u.0
inner_step further t (Some (shape.MaybeNull u)) = further u.0
inner_step further t shape = t

abbrev pub inner_within : Table → ℕ → ℕ → ℕ
inner_within table zero t = t
inner_within table (suc most) t = inner_step (inner_within table most) t (shape_at table t)

abbrev pub inner_type : Table → ℕ → ℕ
inner_type table t = inner_within table (length table.shapes) t

abbrev pub inner_shape : Table → ℕ → Option Shape
inner_shape table t = shape_at table (inner_type table t)

-- the model that a type's references lead to; none where it is no reference's type
abbrev pub referred_by : Table → ℕ → Option ModelNo
referred_by table t = target_of table (inner_shape table t)

-- the path of the node that an identifier of a model leads to; null leads to none
abbrev pub led_by : Catalog → ModelNo → Option Ident → Labelled → Outcome (Option Path)
led_by types m None root = Ok None
led_by types m (Some i) root = do
  n ← or_refuse (resolved (typing_of types.table) m i root) [] rule.Reference
  path ← or_refuse (path_to n root) [] rule.Reference
  Ok (Some path)

-- the model that a reference at the end of a way leads to, if its place is one of references
abbrev pub referred_at : Catalog → List Turn → Labelled → Option ModelNo
referred_at types way root = referred_by types.table (type_at (typing_of types.table) (root_type types) way root)

-- what a reference at a pointer leads to
abbrev pub led_from : Catalog → Path → Labelled → Outcome (Option Path)
led_from types path root = do
  way ← or_refuse (way_along path root) path rule.Path
  part ← or_refuse (part_at way root) path rule.Path
  model ← or_refuse (referred_at types way root) path rule.Kind
  seen_from path (led_by types model (ident_of (Some (bare part))) root)

-- The place that a token names in a node, where something stands there.
abbrev pub place_under : List ℕ → Labelled → Option Place
place_under token (leaf v) = None
place_under token (many l bs) = option_map (place.Item (node l.number)) (index_below (length (items_in bs)) token)
place_under token (keyed l es) = option_map (λ part. entry_place l l.kind token) (entry_at token (entries_in es))

-- the place of a name in the node that holds it
abbrev pub place_by : Named → Labelled → Option Place
place_by named root =
    option_and_then (λ way. option_and_then (place_under named.token) (part_at way root)) (way_along named.holder root)

-- the root's place, where it is a node
abbrev pub root_place : Labelled → Option Place
root_place root = option_map (λ l. place.Whole (node l.number)) (label_of root)

-- the place that a path names: the root itself, or a place in the node that holds it
abbrev pub named_place : Option Named → Labelled → Option Place
named_place None root = root_place root
named_place (Some named) root = place_by named root

abbrev pub place_along : Path → Labelled → Option Place
place_along path root = named_place (named_by path) root

abbrev pub place_at : Path → Labelled → Outcome Place
place_at path root = or_refuse (place_along path root) path rule.Path
