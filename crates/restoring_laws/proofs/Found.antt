-- Where a patch fits what a node holds, it changes the node when it is put back.
use Rattle.std.proofs.Common.{◌≡◌, ℕ, ◌+◌, ◌<◌, ◌≤◌, zero, suc, List, length, true, Option, Some, None, refl, sym, ap, subst, ◌∙◌, arith}
use Rattle.std.specs.Prelude.{slice_get, option_and_then, codes, nat_lt}
use Rattle.std.specs.Option.{option_map}
use Rattle.std.proofs.lemmas.Bool.{lt-ltb}
use Rattle.snap_core.specs.Value.{Value, list, dict}
use Rattle.snap_core.specs.Level.{Step, at_index, count_of, item_at, child, CanInsert}
use Rattle.snap_core.proofs.Levels.{same_key, item_at-within}
use Rattle.pointer_core.specs.Index.{index_of}
use Rattle.patch_core.specs.Place.{index_below, new_index, part_under}
use Rattle.patch_core.specs.Fits.{FitsPart}
use Rattle.patch_core.specs.declared.patch.PatchOp.{PatchOp}
use Rattle.patch_core.specs.declared.patch.PatchOp.TheVariants.{Add, Replace, Remove}
use Rattle.patch_core.proofs.Steps.{StepTo, step_to}
use Rattle.edit_core.specs.Labelled.{Label, Labelled, Branches, Entries, leaf, many, keyed, no_branches, branch, items_in, entries_in, bare, bare_items, bare_fields}
use Rattle.edit_core.specs.Template.{entry_at}
use Rattle.tree_core.specs.Changed.{Changed}
use Rattle.tree_core.specs.Nodes.{to_key}
use Rattle.tree_lists.specs.Restoring.{Putting, Spot, item_spot, spot_in, value_put, spot_restored}
use Rattle.tree_lists.proofs.Spots.{came-map, some-one}
use Rattle.restoring_laws.specs.Places.{IsNode}
use Rattle.restoring_laws.proofs.Levels.{count-bare, value-bare}

-- what is found
pub record There {A : Type 0} (o : Option A) : Type 0 where
  pub of : A
  pub is : o ≡ Some of

there-map : {A B : Type 0} → (o : Option A) (f : A → B) → There o → There (option_map f o)
there-map o f t = record { of = f t.of; is = ap (option_map f) t.is }

-- an index that is below a bound, and one where a new item can go
pub below : (i bound : ℕ) (token : List ℕ) → index_of token ≡ Some i → i < bound → index_below bound token ≡ Some i
below i bound token is within = let test : nat_lt i bound ≡ true = lt-ltb i bound within in rw (is, test) refl

new-place : (i length : ℕ) (token : List ℕ) → index_of token ≡ Some i → i ≤ length → new_index length token ≡ Some i
new-place i length token is within = same_key token (codes "-")
    (λ same e. let none : index_of token ≡ None = ap index_of same in absurd (cc))
    (λ e. rw e (below i (length + 1) token is (omega arith)))

-- an item of the plain list is one of the array
item-back : (i : ℕ) (bs : Branches Label) (v : Value) → item_at i (bare_items bs) ≡ Some v → There (slice_get (items_in bs) i)
item-back i no_branches v h = absurd (cc)
item-back zero (branch x bs) v h = record { of = x; is = refl }
item-back (suc i) (branch x bs) v h = item-back i bs v h

module _ (by : Putting) (v : Value) (token : List ℕ) where
  abbrev restored : PatchOp → Labelled → Option Changed
  restored op node = option_and_then (spot_restored by v op) (spot_in op token node)

  -- at a spot
  from-spot : (op : PatchOp) (o : Option Spot) (spot : Spot) → o ≡ Some spot → There (spot_restored by v op spot) → There (option_and_then (spot_restored by v op) o)
  from-spot op o spot e t = record { of = t.of; is = ap (option_and_then (spot_restored by v op)) e ∙ t.is }

  new-item : (l : Label) (bs : Branches Label) (old : Option Value) → FitsPart Add token old (list tt (bare_items bs)) → There (restored Add (many l bs))
  new-item l bs old fits =
      let named = came-map (index_of token) at_index fits.0 fits.1 in
      let Room : Step → Type 0 = λ s. CanInsert s (list tt (bare_items bs)) in
      let room : named.of ≤ count_of (bare_items bs) = subst Room (sym (some-one (at_index named.of) fits.0 named.gives)) fits.2 in
      let index : new_index (length (items_in bs)) token ≡ Some named.of = new-place named.of (length (items_in bs)) token named.is (omega (arith, room, count-bare bs)) in
      from-spot Add (spot_in Add token (many l bs)) (item_spot Add (items_in bs) named.of) (ap (option_map (item_spot Add (items_in bs))) index)
      (record { of = value_put by v (item_spot Add (items_in bs) named.of); is = refl })

  -- the index of an item that is held
  record HeldItem (bs : Branches Label) : Type 0 where
    at : ℕ
    index : index_below (length (items_in bs)) token ≡ Some at
    item : There (slice_get (items_in bs) at)

  held-item : (bs : Branches Label) (o : Value) → part_under token (list tt (bare_items bs)) ≡ Some o → HeldItem bs
  held-item bs o h =
      let step : StepTo token (list tt (bare_items bs)) o = step_to token (list tt (bare_items bs)) o h in
      let named = came-map (index_of token) at_index step.step step.is in
      let Part : Step → Type 0 = λ s. child s (list tt (bare_items bs)) ≡ Some o in
      let part : item_at named.of (bare_items bs) ≡ Some o = subst Part (sym (some-one (at_index named.of) step.step named.gives)) step.part in
      let within : named.of < length (items_in bs) = omega (arith, item_at-within named.of (bare_items bs) o part, count-bare bs) in
      record { at = named.of; index = below named.of (length (items_in bs)) token named.is within; item = item-back named.of bs o part }

  old-item : (op : PatchOp) (l : Label) (bs : Branches Label) (old : Option Value) → FitsPart op token old (list tt (bare_items bs)) → There (restored op (many l bs))
  old-item Add l bs old fits = new-item l bs old fits
  old-item Replace l bs None fits = absurd fits
  old-item Replace l bs (Some o) fits =
      let held = held-item bs o fits in
      from-spot Replace (spot_in Replace token (many l bs)) (item_spot Replace (items_in bs) held.at) (ap (option_map (item_spot Replace (items_in bs))) held.index)
      (there-map (slice_get (items_in bs) held.at) _ held.item)
  old-item Remove l bs None fits = absurd fits
  old-item Remove l bs (Some o) fits =
      let held = held-item bs o fits in
      from-spot Remove (spot_in Remove token (many l bs)) (item_spot Remove (items_in bs) held.at) (ap (option_map (item_spot Remove (items_in bs))) held.index)
      (there-map (slice_get (items_in bs) held.at) _ held.item)

  held-entry : (es : Entries Label) (o : Value) → part_under token (dict tt (bare_fields es)) ≡ Some o → There (entry_at token (entries_in es))
  held-entry es o h = let found = came-map (entry_at token (entries_in es)) bare o (sym (value-bare token es) ∙ h) in record { of = found.of; is = found.is }

  old-entry : (op : PatchOp) (l : Label) (es : Entries Label) (old : Option Value) → FitsPart op token old (dict tt (bare_fields es)) → There (restored op (keyed l es))
  old-entry Add l es old fits = record { of = value_put by v (record { turn = to_key token (entries_in es); held = entry_at token (entries_in es) }); is = refl }
  old-entry Replace l es None fits = absurd fits
  old-entry Replace l es (Some o) fits = there-map (entry_at token (entries_in es)) _ (held-entry es o fits)
  old-entry Remove l es None fits = absurd fits
  old-entry Remove l es (Some o) fits = there-map (entry_at token (entries_in es)) _ (held-entry es o fits)

  pub node-changes : (op : PatchOp) (node : Labelled) (old : Option Value) → IsNode (Some node) → FitsPart op token old (bare node) → There (restored op node)
  node-changes op (leaf w) old node fits = absurd node
  node-changes op (many l bs) old node fits = old-item op l bs old fits
  node-changes op (keyed l es) old node fits = old-entry op l es old fits
