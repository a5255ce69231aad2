-- Another part leaves the whole fine.
use Rattle.std.proofs.Common.{List, [], ◌∷◌, ◌++◌, length, sym, subst, arith, length-append}
use Rattle.edit_core.specs.Labelled.{Labelled, Entry, branches, entries}
use Rattle.edit_core.specs.Edit.{Turn}
use Rattle.edit_core.specs.Around.{Around, in_array, in_record, filled, standing_in}
use Rattle.edit_core.specs.Ways.{with_part}
use Rattle.edit_core.proofs.Leading.{Conditions, FineIn, FineItems, FineEntries}
use Rattle.edit_core.proofs.Logged.{items-in, entries-in}
use Rattle.edit_core.proofs.Patching.{fine-inside}
use Rattle.tree_core.proofs.Moving.{Stands, Standing, standing}

module _ (C : Conditions) where
  pub fine-front : (before after : List Labelled) → FineItems C (branches (before ++ after)) → FineItems C (branches before)
  fine-front [] after fine = tt
  fine-front (x ∷ before) after fine = (fine.0, fine-front before after fine.1)

  pub fine-back : (before after : List Labelled) → FineItems C (branches (before ++ after)) → FineItems C (branches after)
  fine-back [] after fine = fine
  fine-back (x ∷ before) after fine = fine-back before after fine.1

  pub fine-both : (before after : List Labelled) → FineItems C (branches before) → FineItems C (branches after) → FineItems C (branches (before ++ after))
  fine-both [] after fine more = more
  fine-both (x ∷ before) after fine more = (fine.0, fine-both before after fine.1 more)

  pub fine-front_entries : (before after : List Entry) → FineEntries C (entries (before ++ after)) → FineEntries C (entries before)
  fine-front_entries [] after fine = tt
  fine-front_entries (e ∷ before) after fine = (fine.0, fine-front_entries before after fine.1)

  pub fine-back_entries : (before after : List Entry) → FineEntries C (entries (before ++ after)) → FineEntries C (entries after)
  fine-back_entries [] after fine = fine
  fine-back_entries (e ∷ before) after fine = fine-back_entries before after fine.1

  pub fine-both_entries : (before after : List Entry) → FineEntries C (entries before) → FineEntries C (entries after) → FineEntries C (entries (before ++ after))
  fine-both_entries [] after fine more = more
  fine-both_entries (e ∷ before) after fine more = (fine.0, fine-both_entries before after fine.1 more)

  fine-refilled : (a : Around) (x y : Labelled) → FineIn C (filled a x) → FineIn C y → FineIn C (filled a y)
  fine-refilled (in_array l before after) x y fine other =
      let Counted : List Labelled → Type 0 = λ xs. C.index (length xs) in
      let old : C.index (length (before ++ x ∷ after)) = subst Counted (items-in (before ++ x ∷ after)) fine.0 in
      let new : C.index (length (before ++ y ∷ after)) =
      C.fewer (length (before ++ y ∷ after)) (length (before ++ x ∷ after)) (omega (arith, length-append before (x ∷ after), length-append before (y ∷ after))) old in (
        subst Counted (sym (items-in (before ++ y ∷ after))) new,
        fine-both before (y ∷ after) (fine-front before (x ∷ after) fine.1) (other, (fine-back before (x ∷ after) fine.1).1),
      )
  fine-refilled (in_record l before key after) x y fine other = (
    subst C.keys (sym (entries-in (before ++ (key, y) ∷ after))) (C.other before after key x y (subst C.keys (entries-in (before ++ (key, x) ∷ after)) fine.0)),
    fine-both_entries before ((key, y) ∷ after) (fine-front_entries before ((key, x) ∷ after) fine.1) (other, (fine-back_entries before ((key, x) ∷ after) fine.1).1),
  )

  fine-other : (around : List Around) (x y : Labelled) → FineIn C (standing_in around x) → FineIn C y → FineIn C (standing_in around y)
  fine-other [] x y fine other = other
  fine-other (a ∷ around) x y fine other =
      fine-other around (filled a x) (filled a y) fine (fine-refilled a x y (fine-inside C around (filled a x) fine) other)

  -- with another part at the end of a way, and that part before
  pub fine-with_part : (way : List Turn) (x part y : Labelled) → Stands way x part → FineIn C x → FineIn C y → FineIn C (with_part way y x)
  fine-with_part way x part y stands fine other =
      let s : Standing way x part = standing way x part stands in
      let Fine : Labelled → Type 0 = λ z. FineIn C z in
      subst Fine (sym (s.other y)) (fine-other s.around part y (subst Fine (sym s.whole) fine) other)

  pub fine-part : (way : List Turn) (x part : Labelled) → Stands way x part → FineIn C x → FineIn C part
  fine-part way x part stands fine =
      let s : Standing way x part = standing way x part stands in
      let Fine : Labelled → Type 0 = λ z. FineIn C z in
      fine-inside C s.around part (subst Fine (sym s.whole) fine)
