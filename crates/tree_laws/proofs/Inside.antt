-- What a write changes is a part of the tree, and never the root as a value: its node stays.
use Rattle.std.proofs.Common.{◌≡◌, ℕ, List, [], ◌∷◌, length, not, true, Option, Some, None, Ok, IfOk, refl, sym, ap, subst}
use Rattle.std.specs.Prelude.{nat_le, slice_get}
use Rattle.snap_core.specs.Value.{Value, list}
use Rattle.pointer_core.specs.Path.{Path}
use Rattle.type_table.specs.Table.{Catalog}
use Rattle.type_core.specs.Making.{Outcome, making, made_by, maker_of, entry_making}
use Rattle.type_core.specs.Sound.{IsSound}
use Rattle.type_core.proofs.Again.{limited-Ok}
use Rattle.edit_core.specs.declared.kind.Kind.{Kind}
use Rattle.edit_core.specs.declared.kind.Kind.TheVariants as kind
use Rattle.edit_core.specs.Labelled.{Label, Labelled, Entries, leaf, many, keyed, bare, bare_items}
use Rattle.edit_core.specs.Labelling.{IsLabelledBy}
use Rattle.edit_core.specs.Edit.{Turn}
use Rattle.edit_core.specs.Between.{stays, edits_between}
use Rattle.edit_core.specs.Matching.{by_first}
use Rattle.edit_core.specs.Template.{template, numbered}
use Rattle.edit_core.specs.Ways.{way_to, part_at}
use Rattle.edit_core.proofs.Within.{within-stays}
use Rattle.reconcile_core.specs.RealTypes.{kind_by}
use Rattle.tree_core.specs.declared.place.Place.{Place}
use Rattle.tree_core.specs.declared.place.Place.TheVariants as place
use Rattle.tree_core.specs.Changed.{Changed, placed, value_set}
use Rattle.tree_core.specs.Nodes.{may_write, items_of}
use Rattle.tree_core.specs.Outcome.{◌>>=◌, or_refuse, seen_from}
use Rattle.tree_core.specs.TypesTyping.{typing_of, root_type}
use Rattle.tree_core.specs.Write.{Write, set, insert, remove}
use Rattle.tree_core.specs.Writing.{Tree, Target, Writing, Entry, Item, typing_in, setting, entry_type, entry_path, item_making, unless_fixed, other_identifier, held_at, is_model, is_array, is_map, is_renaming, property_set, property_in, property_written, key_set, key_put, key_written, item_written, whole_set, whole_written, kind_written, node_written, node_no, name_for, writing_at, place_written}
use Rattle.tree_core.proofs.WriteKeeping.{bound, if-provided, there}
use Rattle.tree_laws.proofs.Leading.{AllInside, inside-within, inside-outward, outward-none}
use Rattle.tree_laws.proofs.PlaceGoing.{from-Ok}
use Rattle.tree_laws.proofs.RootStays.{root-judged, root-kind, root-stays}
use Rattle.tree_laws.proofs.WriteGoing.{seen-Ok}

abbrev pub Inside : Changed → Type 0
Inside c = AllInside c.edits

-- a place of a part is no node as a whole
abbrev pub IsPart : Place → Type 0
IsPart (place.Whole n) = ⊥
IsPart at = Unit {0}

module _ (w : Writing) where
  set-inside : (e : Entry) (old : Labelled) (v : Value) → IfOk (property_set w e old v) Inside
  set-inside e old v =
      if-provided (not (is_renaming w e (bare old) v)) (entry_path w e) _ _ Inside
      (λ _. bound (seen_from (entry_path w e) (making w.types (entry_type w e) (Some v))) _ Inside (λ made g. inside-outward _ [] _))

  property-inside : (e : Entry) (write : Write) → IfOk (property_written w e write) Inside
  property-inside e write = bound (or_refuse (held_at e) w.named _) _ Inside (λ old h. by write old) where
    by : (write : Write) (old : Labelled) → IfOk (property_in w.named write >>= (λ v. property_set w e old v)) Inside
    by (set v) old = set-inside e old v
    by (insert v) old = set-inside e old v
    by remove old = tt

  put-inside : (e : Entry) (v : Value) → IfOk (key_put w e v) Inside
  put-inside e v = bound (seen_from (entry_path w e) (entry_making w.types (entry_type w e) e.key v)) _ Inside (λ made g. by made (held_at e)) where
    by : (made : Value) (o : Option Labelled) → Inside (key_set w e made o)
    by made (Some old) = inside-outward _ [] _
    by made None = (tt, tt)

  key-inside : (e : Entry) (write : Write) → IfOk (key_written w e write) Inside
  key-inside e (set v) = put-inside e v
  key-inside e (insert v) = put-inside e v
  key-inside e remove = bound (or_refuse (held_at e) w.named _) _ Inside (λ old h. (tt, tt))

  item-inside : (a : Item) (write : Write) → IfOk (item_written w a write) Inside
  item-inside a (set v) =
      bound (or_refuse (slice_get (items_of a.node) a.index) w.named _) _ Inside (λ old h. bound (item_making w a v) _ Inside (λ made g. inside-outward _ [] _))
  item-inside a (insert v) =
      if-provided (nat_le a.index (length (items_of a.node))) w.named _ _ Inside (λ room. bound (item_making w a v) _ Inside (λ made g. (tt, tt)))
  item-inside a remove = bound (or_refuse (slice_get (items_of a.node) a.index) w.named _) _ Inside (λ old h. (tt, tt))

  part-inside : (at : Place) (write : Write) (node : Labelled) (k : Kind) → IsPart at → IfOk (kind_written w at write node k) Inside
  part-inside (place.Whole n) write node k part = absurd part
  part-inside (place.Prop n name) write node k part = if-provided (is_model node) [] _ _ Inside (λ _. property-inside (record { node = node; key = name }) write)
  part-inside (place.Item n i) write node k part = if-provided (is_array node) [] _ _ Inside (λ _. item-inside (record { node = node; index = i }) write)
  part-inside (place.Key n key) write node k part = if-provided (is_map node) [] _ _ Inside (λ _. key-inside (record { node = node; key = key }) write)

named-inside : (w : Writing) (at : Place) (write : Write) (node : Labelled) → IsPart at → IfOk (node_written w at write node) Inside
named-inside w at write (leaf v) part = tt
named-inside w at write (many l bs) part = part-inside w at write (many l bs) l.kind part
named-inside w at write (keyed l es) part = part-inside w at write (keyed l es) l.kind part

-- the root as a whole

pub if-unfixed : (node : Path) (o : Option (List ℕ)) (rest : Outcome Changed) (P : Changed → Type 0) → (o ≡ None → IfOk rest P) → IfOk (unless_fixed node o rest) P
if-unfixed node (Some name) rest P h = tt
if-unfixed node None rest P h = h refl

module _ (w : Writing) (sound : IsSound w.types) (l : Label) (es : Entries Label)
    (labelled : IsLabelledBy (typing_of w.types.table) (root_type w.types) (keyed l es))
    (old : maker_of w.types.table w.types.defaults (bare (keyed l es)) (root_type w.types) ≡ Ok (bare (keyed l es))) where
  stays-inside : (made : Value) → stays (keyed l es) (numbered w.next (template (by_first (typing_in w)) (root_type w.types) (Some (keyed l es)) made)) ≡ true
      → Inside (value_set (typing_in w) (setting (root_type w.types) (keyed l es) made w.next))
  stays-inside made h =
      let y : Labelled = numbered w.next (template (by_first (typing_in w)) (root_type w.types) (Some (keyed l es)) made) in
      inside-within (edits_between (keyed l es) y) (within-stays (keyed l es) y h)

  model-inside : (v : Value) → IfOk (whole_set w (kind.Model w.types.root) v (keyed l es)) Inside
  model-inside v =
      if-unfixed w.node (other_identifier (typing_in w) (kind.Model w.types.root) (keyed l es) v) _ Inside
      (λ fixed. bound (seen_from w.node (making w.types (root_type w.types) (Some v))) _ Inside
      (λ made h. stays-inside made
      (root-stays w.types sound w.next l es v made labelled old
      (limited-Ok (made_by w.types.table w.types.defaults (root_type w.types) (Some v)) made (seen-Ok w.node (making w.types (root_type w.types) (Some v)) made h)).0 fixed)))

  kind-inside : (k : Kind) → k ≡ kind.Model w.types.root → (v : Value) → IfOk (whole_set w k v (keyed l es)) Inside
  kind-inside k is v = let P : Kind → Type 0 = λ k. IfOk (whole_set w k v (keyed l es)) Inside in subst P (sym is) (model-inside v)

  whole-inside : (write : Write) → IfOk (whole_written w l.kind write (keyed l es)) Inside
  whole-inside (set v) = kind-inside l.kind (root-kind w.types sound es l.kind labelled.0) v
  whole-inside (insert v) = tt
  whole-inside remove = tt

-- any place of the root
pub node-inside : (w : Writing) → IsSound w.types → (at : Place) (write : Write) (root : Labelled) → IsLabelledBy (typing_of w.types.table) (root_type w.types) root
    → maker_of w.types.table w.types.defaults (bare root) (root_type w.types) ≡ Ok (bare root) → IfOk (node_written w at write root) Inside
node-inside w sound at write (leaf v) labelled old = tt
node-inside w sound (place.Whole n) write (keyed l es) labelled old = whole-inside w sound l es labelled old write
node-inside w sound (place.Whole n) write (many l bs) labelled old =
    let none : (typing_of w.types.table).kind_of (root_type w.types) (list tt (bare_items bs)) ≡ None = ap (λ s. kind_by s (list tt (bare_items bs))) (root-judged w.types sound (list tt (bare_items bs))) in
    absurd (no none labelled.0) where
      no : (typing_of w.types.table).kind_of (root_type w.types) (list tt (bare_items bs)) ≡ None → (typing_of w.types.table).kind_of (root_type w.types) (list tt (bare_items bs)) ≡ Some l.kind → ⊥
      no e f = cc
node-inside w sound (place.Prop n name) write root labelled old = named-inside w (place.Prop n name) write root tt
node-inside w sound (place.Item n i) write root labelled old = named-inside w (place.Item n i) write root tt
node-inside w sound (place.Key n key) write root labelled old = named-inside w (place.Key n key) write root tt

-- a write of a tree
module _ (types : Catalog) (target : Target) (write : Write) (tree : Tree)
    (root : IfOk (node_written (writing_at types target [] tree) target.place write tree.root) Inside) where
  at-way : (way : List Turn) (node : Labelled) → part_at way tree.root ≡ Some node → (c : Changed)
      → node_written (writing_at types target way tree) target.place write node ≡ Ok c → Inside (placed way tree.root c)
  at-way (turn ∷ way) node g c h = inside-outward turn way c.edits
  at-way [] node g c h =
      let P : Labelled → Type 0 = λ x. IfOk (node_written (writing_at types target [] tree) target.place write x) Inside in
      subst AllInside (sym (outward-none c.edits)) (from-Ok (node_written (writing_at types target [] tree) target.place write node) Inside c (subst P (cc) root) h)

  pub write-inside : IfOk (place_written types target write tree) Inside
  write-inside =
      bound (or_refuse (way_to (node_no target.place) tree.root) [] _) _ Inside
      (λ way e. if-provided (may_write target.running way tree.root) (name_for way target) _ _ Inside
      (λ _. bound (or_refuse (part_at way tree.root) [] _) _ Inside
      (λ node g. bound (node_written (writing_at types target way tree) target.place write node) _ Inside
      (λ c h. at-way way node (there _ [] _ node g) c h))))

-- of a tree that is made of itself, and at a place of a part
pub place-inside : (types : Catalog) → IsSound types → (target : Target) (write : Write) (tree : Tree) → IsLabelledBy (typing_of types.table) (root_type types) tree.root
    → maker_of types.table types.defaults (bare tree.root) (root_type types) ≡ Ok (bare tree.root) → IfOk (place_written types target write tree) Inside
place-inside types sound target write tree labelled made =
    write-inside types target write tree (node-inside (writing_at types target [] tree) sound target.place write tree.root labelled made)

pub part-written-inside : (types : Catalog) (target : Target) (write : Write) (tree : Tree) → IsPart target.place → IfOk (place_written types target write tree) Inside
part-written-inside types target write tree part = write-inside types target write tree (named-inside (writing_at types target [] tree) target.place write tree.root part)
