-- Edits that lead from one labelled snapshot to another, where something is asked of each array and record on the way.
use Rattle.std.proofs.Common.{ℕ, ◌≤◌, List, [], ◌∷◌, ◌++◌, length}
use Rattle.edit_core.specs.Labelled.{Label, Labelled, Entry, Branches, Entries, leaf, many, keyed, no_branches, branch, no_entries, entry, branches, entries, items_in, entries_in}
use Rattle.edit_core.specs.Edit.{Edit, Turn, Change, Operation, whole, within, to_item, to_entry, at_item, at_entry, old_in, new_in, entries_at, Leads, LeadInTurn}
use Rattle.edit_core.specs.Edit as edit
use Rattle.edit_core.specs.Between.{OldPart, entries_of, parted}

-- What is asked of an array's length and of a record's entries, so that it holds all along where it holds at both ends.
pub record Conditions : Type 1 where
  pub index : ℕ → Type 0
  pub keys : List Entry → Type 0
  pub fewer : (m n : ℕ) → m ≤ n → index n → index m
  -- without some entries, and with another value under a key
  pub fewer_keys : (xs ys zs : List Entry) → keys (xs ++ (ys ++ zs)) → keys (xs ++ zs)
  pub other : (xs zs : List Entry) (k : List ℕ) (x y : Labelled) → keys (xs ++ (k, x) ∷ zs) → keys (xs ++ (k, y) ∷ zs)
  -- with a new entry put among old ones
  pub set : (done : List Entry) (n : Entry) (olds : List (List ℕ × OldPart)) (ns : List Entry) → keys (done ++ entries_of olds) → keys (done ++ n ∷ ns)
      → keys ((done ++ entries_of (parted n.0 olds).below) ++ n ∷ entries_of (parted n.0 olds).above)
      × keys (((done ++ entries_of (parted n.0 olds).below) ++ n ∷ []) ++ ns)

abbrev mutual
  -- it holds of each array and record
  pub FineIn : Conditions → Labelled → Type 0
  FineIn C (leaf v) = Unit {0}
  FineIn C (many l bs) = C.index (length (items_in bs)) × FineItems C bs
  FineIn C (keyed l es) = C.keys (entries_in es) × FineEntries C es

  pub FineItems : Conditions → Branches Label → Type 0
  FineItems C no_branches = Unit {0}
  FineItems C (branch x bs) = FineIn C x × FineItems C bs

  pub FineEntries : Conditions → Entries Label → Type 0
  FineEntries C no_entries = Unit {0}
  FineEntries C (entry k x es) = FineIn C x × FineEntries C es

abbrev pub AllFine : Conditions → List Labelled → Type 0
AllFine C [] = Unit {0}
AllFine C (x ∷ xs) = FineIn C x × AllFine C xs

abbrev pub EachFine : Conditions → List Entry → Type 0
EachFine C [] = Unit {0}
EachFine C (e ∷ es) = FineIn C e.1 × EachFine C es

pub data LeadsIn (C : Conditions) : Labelled → Edit → Labelled → Type 0 where
  replaced : (old new : Labelled) → LeadsIn C old (whole old new) new
  one_item : (label : Label) (before after : List Labelled) (op : Operation) → C.index (length before)
      → LeadsIn C (many label (branches (before ++ (old_in op ++ after)))) (within [] (at_item before op after))
      (many label (branches (before ++ (new_in op ++ after))))
  one_entry : (label : Label) (before after : List Entry) (key : List ℕ) (op : Operation)
      → C.keys (before ++ (entries_at key (old_in op) ++ after)) → C.keys (before ++ (entries_at key (new_in op) ++ after))
      → LeadsIn C (keyed label (entries (before ++ (entries_at key (old_in op) ++ after)))) (within [] (at_entry before key op after))
      (keyed label (entries (before ++ (entries_at key (new_in op) ++ after))))
  in_item : (label : Label) (before after : List Labelled) (x y : Labelled) (way : List Turn) (change : Change) → C.index (length before)
      → LeadsIn C x (within way change) y
      → LeadsIn C (many label (branches (before ++ x ∷ after))) (within (to_item (length before) ∷ way) change)
      (many label (branches (before ++ y ∷ after)))
  in_entry : (label : Label) (before after : List Entry) (key : List ℕ) (x y : Labelled) (way : List Turn) (change : Change) → C.keys (before ++ (key, x) ∷ after)
      → LeadsIn C x (within way change) y
      → LeadsIn C (keyed label (entries (before ++ (key, x) ∷ after))) (within (to_entry (length before) key ∷ way) change)
      (keyed label (entries (before ++ (key, y) ∷ after)))

pub data RunIn (C : Conditions) : Labelled → List Edit → Labelled → Type 0 where
  no_edits : (x : Labelled) → RunIn C x [] x
  one_edit : (x y z : Labelled) (e : Edit) (es : List Edit) → LeadsIn C x e y → RunIn C y es z → RunIn C x (e ∷ es) z

pub leads-in : (C : Conditions) (x y : Labelled) (e : Edit) → LeadsIn C x e y → Leads x e y
leads-in C x y e (replaced old new) = edit.replaced old new
leads-in C x y e (one_item l before after op i) = edit.one_item l before after op
leads-in C x y e (one_entry l before after key op p q) = edit.one_entry l before after key op
leads-in C x y e (in_item l before after v w way change i lead) = edit.in_item l before after v w way change (leads-in C v w (within way change) lead)
leads-in C x y e (in_entry l before after key v w way change p lead) = edit.in_entry l before after key v w way change (leads-in C v w (within way change) lead)

pub run-in : (C : Conditions) (x y : Labelled) (es : List Edit) → RunIn C x es y → LeadInTurn x es y
run-in C x y es (no_edits w) = edit.no_edits w
run-in C x y es (one_edit a b c e rest lead run) = edit.one_edit a b c e rest (leads-in C a b e lead) (run-in C b c rest run)

-- nothing is asked
abbrev pub free : Conditions
free = record {
  index = λ n. Unit {0};
  keys = λ es. Unit {0};
  fewer = λ m n le h. tt;
  fewer_keys = λ xs ys zs h. tt;
  other = λ xs zs k x y h. tt;
  set = λ done n olds ns h g. (tt, tt);
}

mutual
  pub fine-free : (x : Labelled) → FineIn free x
  fine-free (leaf v) = tt
  fine-free (many l bs) = (tt, fine-items_free bs)
  fine-free (keyed l es) = (tt, fine-entries_free es)

  fine-items_free : (bs : Branches Label) → FineItems free bs
  fine-items_free no_branches = tt
  fine-items_free (branch x bs) = (fine-free x, fine-items_free bs)

  fine-entries_free : (es : Entries Label) → FineEntries free es
  fine-entries_free no_entries = tt
  fine-entries_free (entry k x es) = (fine-free x, fine-entries_free es)
