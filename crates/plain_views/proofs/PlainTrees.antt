-- What is seen of a plain tree is plain, and so are the answers of its views.
use Rattle.std.proofs.Common.{ℕ, zero, suc, List, [], ◌∷◌, map, Bool, true, false, Option, Some, None, if◌then◌else◌}
use Rattle.std.specs.Prelude.{IfSome, slice_get, unwrap_or, option_and_then}
use Rattle.std.specs.Option.{option_map}
use Rattle.std.specs.List.{range_with_len}
use Rattle.std.specs.Str.{bytes_eq}
use Rattle.snap_core.specs.Value.{Value, null, integer, text, IsPlain, ArePlain, ArePlainMembers}
use Rattle.snap_core.specs.declared.number.NodeNo.{NodeNo}
use Rattle.type_table.specs.Identifiers.{ident_of}
use Rattle.edit_core.specs.declared.kind.Kind.{Kind}
use Rattle.edit_core.specs.declared.kind.Kind.TheVariants as kind
use Rattle.edit_core.specs.Labelled.{Label, Labelled, Branches, Entries, many, keyed, no_branches, branch, no_entries, entry, items_in, entries_in, bare, bare_items, bare_fields}
use Rattle.edit_core.specs.Edit.{Turn, to_item, to_entry}
use Rattle.edit_core.specs.Template.{entry_at}
use Rattle.edit_core.specs.Ways.{part_at_turn, part_at, way_to}
use Rattle.tree_core.specs.declared.place.Place.{Place}
use Rattle.tree_core.specs.declared.place.Place.TheVariants as place
use Rattle.tree_core.specs.Reading.{node_of, node_no, property_in, value_in, part_of, part_at_place, kind_at, size_at, key_at}
use Rattle.tree_core.specs.TypesTyping.{typing_of}
use Rattle.tree_reading.specs.declared.held.Held.{Held}
use Rattle.tree_reading.specs.declared.held.Held.TheVariants as what
use Rattle.tree_reading.specs.Held.{held_at}
use Rattle.eval_core.specs.Sight.{Entry, holds}
use Rattle.eval_core.specs.Reading.{ident_value}
use Rattle.eval_core.specs.Scope.{Viewing}
use Rattle.plain_answers.specs.Plainness.{IsPlainHeld, IsPlainLevel, HasPlainIdentifier, IsPlainSight, HasPlainBodies}
use Rattle.plain_answers.specs.Laws.{GivePlainAnswers}
use Rattle.plain_answers.proofs.Evaluations.{answers-plain}
use Rattle.view_engine.specs.TreeSight.{Whole, value_at_place, held_as, held_there, identifier_under, being_by, item_entry, key_entry, map_size, level_by, sight_of}

abbrev IsPlainPart : Labelled → Type 0
IsPlainPart x = IsPlain (bare x)

-- options
mapped : {A B : Type 0} (P : A → Type 0) (Q : B → Type 0) (f : A → B) (o : Option A) → ((x : A) → P x → Q (f x)) → IfSome o P → IfSome (option_map f o) Q
mapped P Q f (Some x) h fine = h x fine
mapped P Q f None h fine = tt

then_plain : {A B : Type 0} (P : A → Type 0) (Q : B → Type 0) (f : A → Option B) (o : Option A) → ((x : A) → P x → IfSome (f x) Q) → IfSome o P → IfSome (option_and_then f o) Q
then_plain P Q f (Some x) h fine = h x fine
then_plain P Q f None h fine = tt

or_else : {A : Type 0} (P : A → Type 0) (o : Option A) (other : A) → P other → IfSome o P → P (unwrap_or o other)
or_else P (Some x) other h fine = fine
or_else P None other h fine = h

abbrev Anything : {A : Type 0} → A → Type 0
Anything x = Unit {0}

anyhow : {A : Type 0} (o : Option A) → IfSome o Anything
anyhow (Some x) = tt
anyhow None = tt

-- parts of a plain value
item-plain : (bs : Branches Label) (i : ℕ) → ArePlain (bare_items bs) → IfSome (slice_get (items_in bs) i) IsPlainPart
item-plain no_branches i h = tt
item-plain (branch x bs) zero h = h.0
item-plain (branch x bs) (suc i) h = item-plain bs i h.1

entry-plain : (es : Entries Label) (i : ℕ) → ArePlainMembers (bare_fields es) → IfSome (option_map (λ e. e.1) (slice_get (entries_in es) i)) IsPlainPart
entry-plain no_entries i h = tt
entry-plain (entry k x es) zero h = h.0
entry-plain (entry k x es) (suc i) h = entry-plain es i h.2

key-plain : (key : List ℕ) (es : Entries Label) → ArePlainMembers (bare_fields es) → IfSome (entry_at key (entries_in es)) IsPlainPart
key-plain key no_entries h = tt
key-plain key (entry k x es) h = by_test (bytes_eq key k) (key-plain key es h.2)
  where
    by_test : (b : Bool) → IfSome (entry_at key (entries_in es)) IsPlainPart → IfSome (if b then Some x else entry_at key (entries_in es)) IsPlainPart
    by_test true later = h.0
    by_test false later = later

turn-plain : (turn : Turn) (x : Labelled) → IsPlain (bare x) → IfSome (part_at_turn turn x) IsPlainPart
turn-plain (to_item i) (many l bs) h = item-plain bs i h
turn-plain (to_entry i key) (keyed l es) h = entry-plain es i h
turn-plain turn x h = tt

way-plain : (way : List Turn) (x : Labelled) → IsPlain (bare x) → IfSome (part_at way x) IsPlainPart
way-plain [] x h = h
way-plain (turn ∷ way) x h = then_plain IsPlainPart IsPlainPart (part_at way) (part_at_turn turn x) (λ y fine. way-plain way y fine) (turn-plain turn x h)

-- nodes, and what stands at places
node-plain : (n : ℕ) (root : Labelled) → IsPlain (bare root) → IfSome (node_of n root) IsPlainPart
node-plain n root h = then_plain Anything IsPlainPart (λ way. part_at way root) (way_to n root) (λ way any. way-plain way root h) (anyhow (way_to n root))

property-plain : (name : List ℕ) (k : Kind) (es : Entries Label) → ArePlainMembers (bare_fields es) → IfSome (property_in name k (entries_in es)) IsPlainPart
property-plain name (kind.Model m) es h = key-plain name es h
property-plain name k es h = tt

value-plain : (key : List ℕ) (k : Kind) (es : Entries Label) → ArePlainMembers (bare_fields es) → IfSome (value_in key k (entries_in es)) IsPlainPart
value-plain key (kind.Map t) es h = key-plain key es h
value-plain key k es h = tt

part-plain : (p : Place) (x : Labelled) → IsPlain (bare x) → IfSome (part_of p x) IsPlainPart
part-plain (place.Whole n) x h = h
part-plain (place.Prop n name) (keyed l es) h = property-plain name l.kind es h
part-plain (place.Item n i) (many l bs) h = item-plain bs i h
part-plain (place.Key n key) (keyed l es) h = value-plain key l.kind es h
part-plain p x h = tt

place-plain : (p : Place) (root : Labelled) → IsPlain (bare root) → IfSome (part_at_place p root) IsPlainPart
place-plain p root h = then_plain IsPlainPart IsPlainPart (part_of p) (node_of (node_no p) root) (λ x fine. part-plain p x fine) (node-plain (node_no p) root h)

bare-plain : (o : Option Labelled) → IfSome o IsPlainPart → IfSome (option_map bare o) IsPlain
bare-plain (Some x) h = h
bare-plain None h = tt

-- what is seen there
held_as-plain : (v : Value) (h : Held) → IsPlain v → IsPlainHeld (held_as v h)
held_as-plain v (what.Node n) fine = tt
held_as-plain v (what.Target m) fine = tt
held_as-plain v (what.Safe m) fine = tt
held_as-plain v what.Plain fine = fine

there-plain : (whole : Whole) (p : Place) → IsPlain (bare whole.tree) → IfSome (held_there whole p) IsPlainHeld
there-plain whole p h =
    let v-plain : IsPlain (value_at_place whole p) = or_else IsPlain (option_map bare (part_at_place p whole.tree)) null tt (bare-plain (part_at_place p whole.tree) (place-plain p whole.tree h)) in
    mapped Anything IsPlainHeld (held_as (value_at_place whole p)) (held_at whole.table p whole.tree) (λ held any. held_as-plain (value_at_place whole p) held v-plain) (anyhow (held_at whole.table p whole.tree))

entry_of-plain : (whole : Whole) (p : Place) → IsPlain (bare whole.tree) → IsPlainHeld (unwrap_or (held_there whole p) (holds null))
entry_of-plain whole p h = or_else IsPlainHeld (held_there whole p) (holds null) tt (there-plain whole p h)

entries-plain : (f : ℕ → Entry) (is : List ℕ) → ((i : ℕ) → IsPlainHeld (f i).held) → IsPlainLevel (map f is)
entries-plain f [] h = tt
entries-plain f (i ∷ is) h = (h i, entries-plain f is h)

level-plain : (whole : Whole) (n : NodeNo) (o : Option Kind) → IsPlain (bare whole.tree) → IsPlainLevel (level_by whole n o)
level-plain whole n (Some (kind.Array t)) h =
    entries-plain (item_entry whole n) (range_with_len 0 (unwrap_or (size_at n.0 whole.tree) 0)) (λ i. entry_of-plain whole (place.Item n i) h)
level-plain whole n (Some (kind.Map t)) h =
    entries-plain (key_entry whole n) (range_with_len 0 (map_size whole n)) (λ i. entry_of-plain whole (place.Key n (unwrap_or (key_at n.0 i whole.tree) [])) h)
level-plain whole n (Some (kind.Model m)) h = tt
level-plain whole n None h = tt

ident-plain : (o : Option Value) → IfSome o IsPlain → IsPlain (ident_value (ident_of o))
ident-plain None h = tt
ident-plain (Some (text s)) h = tt
ident-plain (Some (integer z)) h = h
ident-plain (Some v) h = tt

under-plain : (whole : Whole) (n : NodeNo) (name : Option (List ℕ)) → IsPlain (bare whole.tree) → IsPlain (ident_value (identifier_under whole n name))
under-plain whole n (Some name) h =
    ident-plain (option_map bare (part_at_place (place.Prop n name) whole.tree)) (bare-plain (part_at_place (place.Prop n name) whole.tree) (place-plain (place.Prop n name) whole.tree h))
under-plain whole n None h = tt

identifier-plain : (whole : Whole) (n : NodeNo) (k : Kind) → IsPlain (bare whole.tree) → HasPlainIdentifier (being_by whole n k)
identifier-plain whole n (kind.Model m) h = under-plain whole n ((typing_of whole.table).identifier_of m) h
identifier-plain whole n (kind.Array t) h = tt
identifier-plain whole n (kind.Map t) h = tt

pub sight-plain : (whole : Whole) → IsPlain (bare whole.tree) → IsPlainSight (sight_of whole)
unfolding sight_of
sight-plain whole h = record {
  props = λ n p. there-plain whole (place.Prop n p) h;
  levels = λ n. level-plain whole n (kind_at n.0 whole.tree) h;
  wholes = λ n. or_else IsPlain (option_map bare (node_of n.0 whole.tree)) null tt (bare-plain (node_of n.0 whole.tree) (node-plain n.0 whole.tree h));
  identifiers = λ n. mapped Anything HasPlainIdentifier (being_by whole n) (kind_at n.0 whole.tree) (λ k any. identifier-plain whole n k h) (anyhow (kind_at n.0 whole.tree));
}

pub trees-plain : (viewing : Viewing) (whole : Whole) → HasPlainBodies viewing → IsPlain (bare whole.tree) → GivePlainAnswers viewing (sight_of whole)
trees-plain viewing whole bodies h = answers-plain viewing (sight_of whole) bodies (sight-plain whole h)
