-- The edits between two labelled snapshots lead from the one to the other.
use Rattle.std.proofs.Common.{◌≡◌, List, [], ◌∷◌, length, Bool, true, false, refl, sym, ◌∙◌, ap, subst}
use Rattle.std.specs.Prelude.{if◌then◌else◌}
use Rattle.snap_core.specs.Value.{Value}
use Rattle.edit_core.specs.Labelled.{Label, Labelled, Branches, Entries, leaf, many, keyed, no_branches, branch, no_entries, entry, branches, items_in, entries, entries_in}
use Rattle.edit_core.specs.Edit.{Edit, whole, LeadInTurn}
use Rattle.edit_core.specs.Comparing.{is_equal, same_label}
use Rattle.edit_core.specs.Between.{values, entries_of, item_edits, entry_edits, leaf_edits, array_edits, record_edits, edits_between, olds_in, old_entries_in}
use Rattle.edit_core.proofs.Equal.{equal-is, label-is}
use Rattle.edit_core.proofs.Leading.{Conditions, FineIn, FineItems, FineEntries, AllFine, EachFine, replaced, RunIn, no_edits, run-in, free, fine-free}
use Rattle.edit_core.proofs.Runs.{one}
use Rattle.edit_core.proofs.ItemEdits.{AreGood, item_edits-run}
use Rattle.edit_core.proofs.EntryEdits.{AreGoodEntries, entry_edits-run}

branches-items : (bs : Branches Label) → branches (items_in bs) ≡ bs
branches-items no_branches = refl
branches-items (branch x bs) = ap (branch x) (branches-items bs)

entries-in : (es : Entries Label) → entries (entries_in es) ≡ es
entries-in no_entries = refl
entries-in (entry k x es) = ap (entry k x) (entries-in es)

values-olds : (bs : Branches Label) → values (olds_in bs) ≡ items_in bs
values-olds no_branches = refl
values-olds (branch x bs) = ap (λ xs. x ∷ xs) (values-olds bs)

entries-olds : (es : Entries Label) → entries_of (old_entries_in es) ≡ entries_in es
entries-olds no_entries = refl
entries-olds (entry k x es) = ap (λ xs. (k, x) ∷ xs) (entries-olds es)

module _ (C : Conditions) where
  fine-items : (bs : Branches Label) → FineItems C bs → AllFine C (items_in bs)
  fine-items no_branches fine = tt
  fine-items (branch x bs) fine = (fine.0, fine-items bs fine.1)

  fine-entries : (es : Entries Label) → FineEntries C es → EachFine C (entries_in es)
  fine-entries no_entries fine = tt
  fine-entries (entry k x es) fine = (fine.0, fine-entries es fine.1)

  whole-run : (old new : Labelled) → RunIn C old (whole old new ∷ []) new
  whole-run old new = one C old new (whole old new) (replaced old new)

  leaf-run : (v : Value) (new : Labelled) → RunIn C (leaf v) (leaf_edits v new) new
  leaf-run v (leaf w) = go (is_equal v w) refl where
    go : (b : Bool) → is_equal v w ≡ b → RunIn C (leaf v) (if b then [] else whole (leaf v) (leaf w) ∷ []) (leaf w)
    go true same = let P : Value → Type 0 = λ u. RunIn C (leaf v) [] (leaf u) in subst P (equal-is v w same) (no_edits (leaf v))
    go false other = whole-run (leaf v) (leaf w)
  leaf-run v (many k bs) = whole-run (leaf v) (many k bs)
  leaf-run v (keyed k es) = whole-run (leaf v) (keyed k es)

  array-run : (l : Label) (bs : Branches Label) (new : Labelled) → C.index (length (items_in bs)) → AreGood C (olds_in bs) → FineIn C new
      → RunIn C (many l bs) (array_edits l (many l bs) (olds_in bs) new) new
  array-run l bs (leaf w) i good fine = whole-run (many l bs) (leaf w)
  array-run l bs (keyed k es) i good fine = whole-run (many l bs) (keyed k es)
  array-run l bs (many k cs) i good fine = go (same_label l k) refl where
    go : (b : Bool) → same_label l k ≡ b → RunIn C (many l bs) (if b then item_edits (olds_in bs) (items_in cs) else whole (many l bs) (many k cs) ∷ []) (many k cs)
    go true same =
        let es : List Edit = item_edits (olds_in bs) (items_in cs) in
        let Start : Branches Label → Type 0 = λ xs. RunIn C (many l xs) es (many k cs) in
        let End : Branches Label → Type 0 = λ xs. RunIn C (many l (branches (values (olds_in bs)))) es (many l xs) in
        let Named : Label → Type 0 = λ m. RunIn C (many l (branches (values (olds_in bs)))) es (many m cs) in
        let Counted : List Labelled → Type 0 = λ xs. C.index (length xs) in
        subst Start (ap branches (values-olds bs) ∙ branches-items bs)
        (subst Named (label-is l k same)
        (subst End (branches-items cs)
        (item_edits-run C l (olds_in bs) (items_in cs) (subst Counted (sym (values-olds bs)) i) fine.0 good (fine-items cs fine.1))))
    go false other = whole-run (many l bs) (many k cs)

  record-run : (l : Label) (es : Entries Label) (new : Labelled) → C.keys (entries_in es) → AreGoodEntries C (old_entries_in es) → FineIn C new
      → RunIn C (keyed l es) (record_edits l (keyed l es) (old_entries_in es) new) new
  record-run l es (leaf w) p good fine = whole-run (keyed l es) (leaf w)
  record-run l es (many k cs) p good fine = whole-run (keyed l es) (many k cs)
  record-run l es (keyed k fs) p good fine = go (same_label l k) refl where
    go : (b : Bool) → same_label l k ≡ b → RunIn C (keyed l es) (if b then entry_edits (old_entries_in es) (entries_in fs) else whole (keyed l es) (keyed k fs) ∷ []) (keyed k fs)
    go true same =
        let edits : List Edit = entry_edits (old_entries_in es) (entries_in fs) in
        let Start : Entries Label → Type 0 = λ xs. RunIn C (keyed l xs) edits (keyed k fs) in
        let End : Entries Label → Type 0 = λ xs. RunIn C (keyed l (entries (entries_of (old_entries_in es)))) edits (keyed l xs) in
        let Named : Label → Type 0 = λ m. RunIn C (keyed l (entries (entries_of (old_entries_in es)))) edits (keyed m fs) in
        subst Start (ap entries (entries-olds es) ∙ entries-in es)
        (subst Named (label-is l k same)
        (subst End (entries-in fs)
        (entry_edits-run C l (old_entries_in es) (entries_in fs) (subst C.keys (sym (entries-olds es)) p) fine.0 good (fine-entries fs fine.1))))
    go false other = whole-run (keyed l es) (keyed k fs)

  mutual
    pub between-runs_in : (old new : Labelled) → FineIn C old → FineIn C new → RunIn C old (edits_between old new) new
    between-runs_in (leaf v) new f g = leaf-run v new
    between-runs_in (many l bs) new f g = array-run l bs new f.0 (olds-good bs f.1) g
    between-runs_in (keyed l es) new f g = record-run l es new f.0 (old_entries-good es f.1) g

    olds-good : (bs : Branches Label) → FineItems C bs → AreGood C (olds_in bs)
    olds-good no_branches fine = tt
    olds-good (branch x bs) fine = (λ n g. between-runs_in x n fine.0 g, olds-good bs fine.1)

    old_entries-good : (es : Entries Label) → FineEntries C es → AreGoodEntries C (old_entries_in es)
    old_entries-good no_entries fine = tt
    old_entries-good (entry k x es) fine = (λ n g. between-runs_in x n fine.0 g, old_entries-good es fine.1)

pub between-runs : (old new : Labelled) → LeadInTurn old (edits_between old new) new
between-runs old new = run-in free old new (edits_between old new) (between-runs_in free old new (fine-free old) (fine-free new))
