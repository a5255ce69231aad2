-- The patches of reconciling lead to the new value at its place.
use Rattle.std.proofs.Common.{◌≡◌, ℕ, ◌<◌, ◌^◌, List, [], ◌∷◌, ◌++◌, length, map, refl, sym, ap, subst, arith, length-append}
use Rattle.snap_core.specs.Value.{Value, ComesBefore, IsOrdered, AreOrdered, AreOrderedMembers, keys_of}
use Rattle.snap_core.specs.Level.{count_of}
use Rattle.patch_core.specs.Fits.{LeadsTo}
use Rattle.patch_core.specs.declared.patch.Patch.{Patch}
use Rattle.edit_core.specs.Labelled.{Label, Labelled, Entry, Branches, Entries, leaf, many, keyed, no_branches, branch, no_entries, entry, branches, entries, items_in, entries_in, bare, bare_items, bare_fields}
use Rattle.edit_core.specs.Edit.{Edit}
use Rattle.edit_core.specs.Around.{Around, in_array, in_record, filled, moved_out, standing_in, seen_from}
use Rattle.edit_core.specs.Plain.{IsShort, AreShort, HoldShort, patch_of}
use Rattle.edit_core.specs.Typing.{Rules}
use Rattle.edit_core.specs.Reconciling.{Setting, Written, reconciled}
use Rattle.edit_core.specs.Laws.{HasPaths, ReconcilingIsPatching}
use Rattle.edit_core.proofs.Leading.{Conditions, FineIn, FineItems, FineEntries, RunIn}
use Rattle.edit_core.proofs.Runs.{lifted, lifted_entry}
use Rattle.edit_core.proofs.Between.{between-runs_in}
use Rattle.edit_core.proofs.Ascending.{AllAfter, Ascend, after-further, spelled}
use Rattle.edit_core.proofs.Patches.{patches-lead}
use Rattle.edit_core.proofs.Within.{within-stays, within-outside}
use Rattle.edit_core.proofs.Reconciling.{reconciled-leads}

-- what is asked of plain values holds of labelled ones

count-items : (bs : Branches Label) → count_of (bare_items bs) ≡ length (items_in bs)
count-items no_branches = refl
count-items (branch x bs) = omega (arith, count-items bs)

after-plain : (k : List ℕ) (es : Entries Label) → ComesBefore k (keys_of (bare_fields es)) → AreOrderedMembers (bare_fields es) → AllAfter k (entries_in es)
after-plain k no_entries before ordered = tt
after-plain k (entry j x es) before ordered = (before, after-further k j (entries_in es) before (after-plain j es ordered.1 ordered.2))

pub ascend-plain : (es : Entries Label) → AreOrderedMembers (bare_fields es) → Ascend (entries_in es)
ascend-plain no_entries ordered = tt
ascend-plain (entry k x es) ordered = (after-plain k es ordered.1 ordered.2, ascend-plain es ordered.2)

mutual
  fine-plain : (x : Labelled) → IsOrdered (bare x) → IsShort (bare x) → FineIn spelled x
  fine-plain (leaf v) ordered short = tt
  fine-plain (many l bs) ordered short = (let few : length (items_in bs) < 2 ^ 32 = omega (arith, count-items bs, short.0) in few, fine-plain_items bs ordered short.1)
  fine-plain (keyed l es) ordered short = (ascend-plain es ordered, fine-plain_entries es ordered short)

  fine-plain_items : (bs : Branches Label) → AreOrdered (bare_items bs) → AreShort (bare_items bs) → FineItems spelled bs
  fine-plain_items no_branches ordered short = tt
  fine-plain_items (branch x bs) ordered short = (fine-plain x ordered.0 short.0, fine-plain_items bs ordered.1 short.1)

  fine-plain_entries : (es : Entries Label) → AreOrderedMembers (bare_fields es) → HoldShort (bare_fields es) → FineEntries spelled es
  fine-plain_entries no_entries ordered short = tt
  fine-plain_entries (entry k x es) ordered short = (fine-plain x ordered.0 short.0, fine-plain_entries es ordered.2 short.1)

pub fine-paths : (x : Labelled) → HasPaths (bare x) → FineIn spelled x
fine-paths x h = fine-plain x h.ordered h.short

items-branches : (xs : List Labelled) → items_in (branches xs) ≡ xs
items-branches [] = refl
items-branches (x ∷ xs) = ap (λ ys. x ∷ ys) (items-branches xs)

in-entries : (es : List Entry) → entries_in (entries es) ≡ es
in-entries [] = refl
in-entries (e ∷ es) = ap (λ fs. e ∷ fs) (in-entries es)

-- edits of a value, seen from outside, and what is asked there

module _ (C : Conditions) where
  fine-item : (before after : List Labelled) (x : Labelled) → FineItems C (branches (before ++ x ∷ after)) → FineIn C x
  fine-item [] after x fine = fine.0
  fine-item (b ∷ before) after x fine = fine-item before after x fine.1

  fine-entry : (before after : List Entry) (k : List ℕ) (x : Labelled) → FineEntries C (entries (before ++ (k, x) ∷ after)) → FineIn C x
  fine-entry [] after k x fine = fine.0
  fine-entry (b ∷ before) after k x fine = fine-entry before after k x fine.1

  fine-filled : (a : Around) (x : Labelled) → FineIn C (filled a x) → FineIn C x
  fine-filled (in_array l before after) x fine = fine-item before after x fine.1
  fine-filled (in_record l before key after) x fine = fine-entry before after key x fine.1

  pub fine-inside : (around : List Around) (x : Labelled) → FineIn C (standing_in around x) → FineIn C x
  fine-inside [] x fine = fine
  fine-inside (a ∷ around) x fine = fine-filled a x (fine-inside around (filled a x) fine)

  filled-run : (a : Around) (x y : Labelled) (es : List Edit) → FineIn C (filled a x) → RunIn C x es y → RunIn C (filled a x) (map (moved_out a) es) (filled a y)
  filled-run (in_array l before after) x y es fine run =
      let Counted : List Labelled → Type 0 = λ xs. C.index (length xs) in
      lifted C l before after x y es
      (C.fewer (length before) (length (before ++ x ∷ after)) (omega (arith, length-append before (x ∷ after))) (subst Counted (items-branches (before ++ x ∷ after)) fine.0)) run
  filled-run (in_record l before key after) x y es fine run =
      lifted_entry C l before after key x y es (subst C.keys (in-entries (before ++ (key, x) ∷ after)) fine.0) run

  map-seen : (a : Around) (around : List Around) (es : List Edit) → map (seen_from around) (map (moved_out a) es) ≡ map (seen_from (a ∷ around)) es
  map-seen a around [] = refl
  map-seen a around (e ∷ es) = ap (λ fs. seen_from around (moved_out a e) ∷ fs) (map-seen a around es)

  map-none : (es : List Edit) → map (seen_from []) es ≡ es
  map-none [] = refl
  map-none (e ∷ es) = ap (λ fs. e ∷ fs) (map-none es)

  pub seen-run : (around : List Around) (x y : Labelled) (es : List Edit) → FineIn C (standing_in around x) → RunIn C x es y
      → RunIn C (standing_in around x) (map (seen_from around) es) (standing_in around y)
  seen-run [] x y es fine run = let P : List Edit → Type 0 = λ fs. RunIn C x fs y in subst P (sym (map-none es)) run
  seen-run (a ∷ around) x y es fine run =
      let P : List Edit → Type 0 = λ fs. RunIn C (standing_in (a ∷ around) x) fs (standing_in (a ∷ around) y) in
      subst P (map-seen a around es)
      (seen-run around (filled a x) (filled a y) (map (moved_out a) es) fine (filled-run a x y es (fine-inside around (filled a x) fine) run))

map-patches : (a : Around) (around : List Around) (es : List Edit) → map patch_of (map (seen_from (a ∷ around)) es) ≡ map (λ e. patch_of (seen_from (a ∷ around) e)) es
map-patches a around [] = refl
map-patches a around (e ∷ es) = ap (λ ps. patch_of (seen_from (a ∷ around) e) ∷ ps) (map-patches a around es)

pub patching : (r : Rules) (s : Setting) → ReconcilingIsPatching s (reconciled r s)
patching r s =
    let w : Written = reconciled r s in
    let given : bare w.value ≡ s.new = (reconciled-leads r s).given in
    let fine-new : HasPaths s.new → FineIn spelled w.value = λ h. fine-paths w.value (subst HasPaths (sym given) h) in
    record {
      inside = λ a around before after.
          let fine : FineIn spelled (standing_in (a ∷ around) s.old) = fine-paths (standing_in (a ∷ around) s.old) before in
          let P : List Patch → Type 0 = λ ps. LeadsTo ps (bare (standing_in (a ∷ around) s.old)) (bare (standing_in (a ∷ around) w.value)) in
          subst P (map-patches a around w.edits)
          (patches-lead (standing_in (a ∷ around) s.old) (standing_in (a ∷ around) w.value) (map (seen_from (a ∷ around)) w.edits) (within-outside a around w.edits)
          (seen-run spelled (a ∷ around) s.old w.value w.edits fine (between-runs_in spelled s.old w.value (fine-inside spelled (a ∷ around) s.old fine) (fine-new after))));
      at_root = λ before after same.
          let P : Value → Type 0 = λ v. LeadsTo (map patch_of w.edits) (bare s.old) v in
          subst P given
          (patches-lead s.old w.value w.edits (within-stays s.old w.value same) (between-runs_in spelled s.old w.value (fine-paths s.old before) (fine-new after)));
    }
