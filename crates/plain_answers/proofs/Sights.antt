-- What is seen of a plain labelled snapshot is plain.
use Rattle.std.proofs.Common.{ℕ, suc, List, [], ◌∷◌, ◌++◌, Bool, true, false, Option, Some, None, if◌then◌else◌}
use Rattle.std.specs.Prelude.{IfSome, nat_eq, decimal}
use Rattle.std.specs.Str.{bytes_eq}
use Rattle.snap_core.specs.Value.{Value, null, integer, text, IsPlain, ArePlain, ArePlainMembers}
use Rattle.snap_core.specs.declared.number.NodeNo.{NodeNo}
use Rattle.pointer_core.specs.Path.{Path}
use Rattle.edit_core.specs.declared.kind.Kind.{Kind}
use Rattle.edit_core.specs.declared.kind.Kind.TheVariants.{Model, Array, Map}
use Rattle.edit_core.specs.Labelled.{Label, Labelled, Branches, Entries, leaf, many, keyed, no_branches, branch, no_entries, entry, bare, bare_items, bare_fields}
use Rattle.edit_core.specs.Typing.{Typing}
use Rattle.eval_core.specs.Sight.{Being, Held}
use Rattle.eval_core.specs.Reading.{ident_value}
use Rattle.eval_core.specs.Seen.{Target, Seeing, Spot, spots_in, item_spots, entry_spots, spot_of, ident_in, leaf_held, held_in, items_held, entries_held, part_under, held_part, prop_in, level_in, ident_part, ident_under, identifier_in, of_spot, sight_of}
use Rattle.plain_answers.specs.Plainness.{IsPlainHeld, IsPlainLevel, HasPlainIdentifier, IsPlainSight}

abbrev IsPlainPart : Labelled → Type 0
IsPlainPart x = IsPlain (bare x)

-- the nodes in document order, and the node of a number
abbrev IsPlainSpot : Spot → Type 0
IsPlainSpot spot = IsPlainPart spot.value

abbrev ArePlainSpots : List Spot → Type 0
ArePlainSpots [] = Unit {0}
ArePlainSpots (spot ∷ spots) = IsPlainSpot spot × ArePlainSpots spots

both-spots : (before after : List Spot) → ArePlainSpots before → ArePlainSpots after → ArePlainSpots (before ++ after)
both-spots [] after h k = k
both-spots (spot ∷ before) after h k = (h.0, both-spots before after h.1 k)

mutual
  spots-plain : (path : Path) (x : Labelled) → IsPlain (bare x) → ArePlainSpots (spots_in path x)
  spots-plain path (leaf v) h = tt
  spots-plain path (many l bs) h = (h, item_spots-plain path 0 bs h)
  spots-plain path (keyed l es) h = (h, entry_spots-plain path es h)

  item_spots-plain : (path : Path) (i : ℕ) (bs : Branches Label) → ArePlain (bare_items bs) → ArePlainSpots (item_spots path i bs)
  item_spots-plain path i no_branches h = tt
  item_spots-plain path i (branch x bs) h =
      both-spots (spots_in (path ++ decimal i ∷ []) x) (item_spots path (suc i) bs) (spots-plain (path ++ decimal i ∷ []) x h.0) (item_spots-plain path (suc i) bs h.1)

  entry_spots-plain : (path : Path) (es : Entries Label) → ArePlainMembers (bare_fields es) → ArePlainSpots (entry_spots path es)
  entry_spots-plain path no_entries h = tt
  entry_spots-plain path (entry k x es) h =
      both-spots (spots_in (path ++ k ∷ []) x) (entry_spots path es) (spots-plain (path ++ k ∷ []) x h.0) (entry_spots-plain path es h.2)

spot-plain : (n : NodeNo) (spots : List Spot) → ArePlainSpots spots → IfSome (spot_of n spots) IsPlainSpot
spot-plain n [] h = tt
spot-plain n (spot ∷ spots) h = by_test (nat_eq spot.label.number n.0) (spot-plain n spots h.1)
  where
    by_test : (b : Bool) → IfSome (spot_of n spots) IsPlainSpot → IfSome (if b then Some spot else spot_of n spots) IsPlainSpot
    by_test true later = h.0
    by_test false later = later

by_spot : {A : Type 0} (P : A → Type 0) (otherwise : A) (seen : Spot → A) (o : Option Spot)
    → P otherwise → ((spot : Spot) → IsPlainSpot spot → P (seen spot)) → IfSome o IsPlainSpot → P (of_spot otherwise seen o)
by_spot P otherwise seen (Some spot) h k fine = k spot fine
by_spot P otherwise seen None h k fine = h

-- what parts hold
leaf-plain : (o : Option Target) (v : Value) → IsPlain v → IsPlainHeld (leaf_held o v)
leaf-plain (Some t) v h = tt
leaf-plain None v h = h

held-plain : (seeing : Seeing) (t : ℕ) (x : Labelled) → IsPlain (bare x) → IsPlainHeld (held_in seeing t x)
held-plain seeing t (leaf v) h = leaf-plain (seeing.target_of t) v h
held-plain seeing t (many l bs) h = tt
held-plain seeing t (keyed l es) h = tt

items-plain : (seeing : Seeing) (t i : ℕ) (bs : Branches Label) → ArePlain (bare_items bs) → IsPlainLevel (items_held seeing t i bs)
items-plain seeing t i no_branches h = tt
items-plain seeing t i (branch x bs) h = (held-plain seeing t x h.0, items-plain seeing t (suc i) bs h.1)

entries-plain : (seeing : Seeing) (kind : Kind) (es : Entries Label) → ArePlainMembers (bare_fields es) → IsPlainLevel (entries_held seeing kind es)
entries-plain seeing kind no_entries h = tt
entries-plain seeing kind (entry k x es) h = (held-plain seeing (seeing.typing.type_under kind k) x h.0, entries-plain seeing kind es h.2)

under-plain : (key : List ℕ) (es : Entries Label) → ArePlainMembers (bare_fields es) → IfSome (part_under key es) IsPlainPart
under-plain key no_entries h = tt
under-plain key (entry k x es) h = by_test (bytes_eq key k) (under-plain key es h.2)
  where
    by_test : (b : Bool) → IfSome (part_under key es) IsPlainPart → IfSome (if b then Some x else part_under key es) IsPlainPart
    by_test true later = h.0
    by_test false later = later

-- what is seen of one node
part-plain : (seeing : Seeing) (t : ℕ) (o : Option Labelled) → IfSome o IsPlainPart → IfSome (held_part seeing t o) IsPlainHeld
part-plain seeing t (Some x) h = held-plain seeing t x h
part-plain seeing t None h = tt

prop-plain : (seeing : Seeing) (p : List ℕ) (kind : Kind) (x : Labelled) → IsPlain (bare x) → IfSome (prop_in seeing p kind x) IsPlainHeld
prop-plain seeing p (Model m) (keyed l es) h = part-plain seeing (seeing.typing.type_under (Model m) p) (part_under p es) (under-plain p es h)
prop-plain seeing p kind x h = tt

level-plain : (seeing : Seeing) (kind : Kind) (x : Labelled) → IsPlain (bare x) → IsPlainLevel (level_in seeing kind x)
level-plain seeing (Array t) (many l bs) h = items-plain seeing (seeing.typing.type_under (Array t) []) 0 bs h
level-plain seeing (Map t) (keyed l es) h = entries-plain seeing (Map t) es h
level-plain seeing kind x h = tt

ident-plain : (v : Value) → IsPlain v → IsPlain (ident_value (ident_in v))
ident-plain (text t) h = tt
ident-plain (integer z) h = h
ident-plain _ h = tt

ident_part-plain : (o : Option Labelled) → IfSome o IsPlainPart → IsPlain (ident_value (ident_part o))
ident_part-plain (Some x) h = ident-plain (bare x) h
ident_part-plain None h = tt

ident_under-plain : (name : Option (List ℕ)) (x : Labelled) → IsPlain (bare x) → IsPlain (ident_value (ident_under name x))
ident_under-plain (Some name) (keyed l es) h = ident_part-plain (part_under name es) (under-plain name es h)
ident_under-plain name x h = tt

identifier-plain : (typing : Typing) (kind : Kind) (x : Labelled) → IsPlain (bare x) → IsPlain (ident_value (identifier_in typing kind x))
identifier-plain typing (Model m) x h = ident_under-plain (typing.identifier_of m) x h
identifier-plain typing (Array t) x h = tt
identifier-plain typing (Map t) x h = tt

pub sight-plain : (seeing : Seeing) (x : Labelled) → IsPlain (bare x) → IsPlainSight (sight_of seeing x)
sight-plain seeing x h =
    let there : (n : NodeNo) → IfSome (spot_of n (spots_in [] x)) IsPlainSpot = λ n. spot-plain n (spots_in [] x) (spots-plain [] x h) in
    let IsPlainProp : Option Held → Type 0 = λ o. IfSome o IsPlainHeld in
    let IsPlainBeing : Option Being → Type 0 = λ o. IfSome o HasPlainIdentifier in
    record {
      props = λ n p. by_spot IsPlainProp None _ _ tt (λ spot fine. prop-plain seeing p spot.label.kind spot.value fine) (there n);
      levels = λ n. by_spot IsPlainLevel [] _ _ tt (λ spot fine. level-plain seeing spot.label.kind spot.value fine) (there n);
      wholes = λ n. by_spot IsPlain null _ _ tt (λ spot fine. fine) (there n);
      identifiers = λ n. by_spot IsPlainBeing None _ _ tt (λ spot fine. identifier-plain seeing.typing spot.label.kind spot.value fine) (there n);
    }
