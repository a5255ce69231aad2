-- Lists of patches: writes on the root's behalf, all or nothing; and lists that are put back.
use Rattle.std.specs.Prelude.{ℕ, List, [], ◌∷◌, ◌++◌, length, nat_le, Option, Some, None, Ok}
use Rattle.snap_core.specs.Value.{Value, depth_of}
use Rattle.snap_core.specs.declared.number.NodeNo.{NodeNo}
use Rattle.pointer_core.specs.Path.{Path}
use Rattle.pointer_core.specs.declared.refusal.Rule.TheVariants as rule
use Rattle.patch_core.specs.Application.{index_for, written}
use Rattle.patch_core.specs.declared.patch.PatchOp.{PatchOp}
use Rattle.patch_core.specs.declared.patch.PatchOp.TheVariants.{Add, Replace, Remove}
use Rattle.patch_core.specs.declared.patch.Patch.{Patch}
use Rattle.type_table.specs.Table.{Catalog}
use Rattle.type_core.specs.Making.{Outcome}
use Rattle.edit_core.specs.declared.kind.Kind.{Kind}
use Rattle.edit_core.specs.declared.kind.Kind.TheVariants as kind
use Rattle.edit_core.specs.Labelled.{Label, Labelled, leaf, many, keyed, items_in, bare}
use Rattle.edit_core.specs.Typing.{label_of}
use Rattle.tree_core.specs.declared.place.Place.{Place}
use Rattle.tree_core.specs.declared.place.Place.TheVariants as place
use Rattle.tree_core.specs.Write.{Write, set, insert, remove}
use Rattle.edit_core.specs.Ways.{part_at}
use Rattle.tree_core.specs.Reading.{way_along}
use Rattle.tree_core.specs.Outcome.{◌>>=◌, refuse, provided, or_refuse}
use Rattle.tree_core.specs.Changed.{Changed}
use Rattle.tree_core.specs.Writing.{Tree, place_written, judged}

-- what a patch writes
abbrev pub write_by : PatchOp → Value → Write
write_by Add v = insert v
write_by Replace v = set v
write_by Remove v = remove

abbrev pub write_in : Patch → Write
write_in p = write_by p.op (written p)

-- a number as a node's
abbrev pub node : ℕ → NodeNo
node n = record { 0 = n }

-- the place that a token names in a node
abbrev pub entry_place : Label → Kind → List ℕ → Place
entry_place l (kind.Map t) token = place.Key (node l.number) token
entry_place l kind token = place.Prop (node l.number) token

abbrev pub item_place : Patch → Label → Option ℕ → Outcome Place
item_place p l (Some i) = Ok (place.Item (node l.number) i)
item_place p l None = refuse p.path rule.Index

abbrev pub place_of : Patch → List ℕ → Labelled → Outcome Place
place_of p token (leaf v) = refuse p.path rule.Path
place_of p token (many l bs) = item_place p l (index_for p.op (length (items_in bs)) token)
place_of p token (keyed l es) = Ok (entry_place l l.kind token)

-- the path of the node that holds a place, and the token that leads on to the place
pub record Named : Type 0 where
  pub holder : Path
  pub token : List ℕ

abbrev pub named_below : List ℕ → Option Named → Option Named
named_below token (Some named) = Some (record { holder = token ∷ named.holder; token = named.token })
named_below token None = Some (record { holder = []; token = token })

abbrev pub named_by : Path → Option Named
named_by [] = None
named_by (token ∷ path) = named_below token (named_by path)

-- the place that a patch names
abbrev pub place_in : Patch → Labelled → Outcome Place
place_in p root = do
  named ← or_refuse (named_by p.path) p.path rule.Path
  way ← or_refuse (way_along named.holder root) p.path rule.Path
  holder ← or_refuse (part_at way root) p.path rule.Path
  place_of p named.token holder

-- the root acts
abbrev pub acting : Option Label → List NodeNo
acting (Some l) = node l.number ∷ []
acting None = []

abbrev pub patch_written : Catalog → Patch → Tree → Outcome Changed
patch_written types p tree = do
  place ← place_in p tree.root
  place_written types (record { running = acting (label_of tree.root); place = place; named = Some p.path }) (write_in p) tree

-- each patch in turn; the tree's depth is judged after each
abbrev pub patches_written : Catalog → List Patch → Tree → Outcome Changed
patches_written types [] tree = Ok (record { value = tree.root; edits = []; next = tree.next })
patches_written types (p ∷ ps) tree = do
  first ← patch_written types p tree
  provided (nat_le (depth_of (bare first.value)) 64) [] rule.Large (do
    rest ← patches_written types ps (record { root = first.value; next = first.next })
    Ok (record { value = rest.value; edits = first.edits ++ rest.edits; next = rest.next }))

-- the weight and the identifiers are judged once, at the end
abbrev pub list_written : Catalog → List Patch → Tree → Outcome Changed
list_written types ps tree = do
  changed ← patches_written types ps tree
  judged types changed
