-- Edits one after the other, and edits of a part as edits of the whole.
use Rattle.std.proofs.Common.{ℕ, List, [], ◌∷◌, ◌++◌, length, map, subst, append_assoc}
use Rattle.edit_core.specs.Labelled.{Label, Labelled, Entry, many, keyed, branches, entries}
use Rattle.edit_core.specs.Edit.{Edit, Turn, Change, Operation, whole, within, to_item, to_entry, at_item, at_entry, replace, LeadInTurn, moved_to_item, moved_to_entry}
use Rattle.edit_core.specs.Edit as edit
use Rattle.edit_core.proofs.Leading.{Conditions, LeadsIn, replaced, one_item, one_entry, in_item, in_entry, RunIn, no_edits, one_edit}

pub joined : (x y z : Labelled) (es fs : List Edit) → LeadInTurn x es y → LeadInTurn y fs z → LeadInTurn x (es ++ fs) z
joined x y z es fs (edit.no_edits w) more = more
joined x y z es fs (edit.one_edit a b c e rest lead run) more = edit.one_edit a b z e (rest ++ fs) lead (joined b c z rest fs run more)

module _ (C : Conditions) where
  pub joined_in : (x y z : Labelled) (es fs : List Edit) → RunIn C x es y → RunIn C y fs z → RunIn C x (es ++ fs) z
  joined_in x y z es fs (no_edits w) more = more
  joined_in x y z es fs (one_edit a b c e rest lead run) more = one_edit a b z e (rest ++ fs) lead (joined_in b c z rest fs run more)

  pub one : (x y : Labelled) (e : Edit) → LeadsIn C x e y → RunIn C x (e ∷ []) y
  one x y e lead = one_edit x y y e [] lead (no_edits y)

  -- an edit of an item is one of its array
  placed : (l : Label) (before after : List Labelled) (x y : Labelled) (e : Edit) → C.index (length before) → LeadsIn C x e y
      → LeadsIn C (many l (branches (before ++ x ∷ after))) (moved_to_item before after e) (many l (branches (before ++ y ∷ after)))
  placed l before after x y e i (replaced old new) = one_item l before after (replace old new) i
  placed l before after x y e i (one_item k b a op j) = in_item l before after _ _ [] (at_item b op a) i (one_item k b a op j)
  placed l before after x y e i (one_entry k b a key op p q) = in_item l before after _ _ [] (at_entry b key op a) i (one_entry k b a key op p q)
  placed l before after x y e i (in_item k b a v w way change j lead) = in_item l before after _ _ (to_item (length b) ∷ way) change i (in_item k b a v w way change j lead)
  placed l before after x y e i (in_entry k b a key v w way change p lead) = in_item l before after _ _ (to_entry (length b) key ∷ way) change i (in_entry k b a key v w way change p lead)

  pub lifted : (l : Label) (before after : List Labelled) (x y : Labelled) (es : List Edit) → C.index (length before) → RunIn C x es y
      → RunIn C (many l (branches (before ++ x ∷ after))) (map (moved_to_item before after) es) (many l (branches (before ++ y ∷ after)))
  lifted l before after x y es i (no_edits w) = no_edits _
  lifted l before after x y es i (one_edit a b c e rest lead run) =
      one_edit _ (many l (branches (before ++ b ∷ after))) _ _ _ (placed l before after a b e i lead) (lifted l before after b c rest i run)

  -- an edit of an entry is one of its model or map
  placed_entry : (l : Label) (before after : List Entry) (k : List ℕ) (x y : Labelled) (e : Edit) → C.keys (before ++ (k, x) ∷ after) → LeadsIn C x e y
      → LeadsIn C (keyed l (entries (before ++ (k, x) ∷ after))) (moved_to_entry before k after e) (keyed l (entries (before ++ (k, y) ∷ after)))
  placed_entry l before after k x y e p (replaced old new) = one_entry l before after k (replace old new) p (C.other before after k old new p)
  placed_entry l before after k x y e p (one_item m b a op j) = in_entry l before after k _ _ [] (at_item b op a) p (one_item m b a op j)
  placed_entry l before after k x y e p (one_entry m b a key op q r) = in_entry l before after k _ _ [] (at_entry b key op a) p (one_entry m b a key op q r)
  placed_entry l before after k x y e p (in_item m b a v w way change j lead) = in_entry l before after k _ _ (to_item (length b) ∷ way) change p (in_item m b a v w way change j lead)
  placed_entry l before after k x y e p (in_entry m b a key v w way change q lead) = in_entry l before after k _ _ (to_entry (length b) key ∷ way) change p (in_entry m b a key v w way change q lead)

  pub lifted_entry : (l : Label) (before after : List Entry) (k : List ℕ) (x y : Labelled) (es : List Edit) → C.keys (before ++ (k, x) ∷ after) → RunIn C x es y
      → RunIn C (keyed l (entries (before ++ (k, x) ∷ after))) (map (moved_to_entry before k after) es) (keyed l (entries (before ++ (k, y) ∷ after)))
  lifted_entry l before after k x y es p (no_edits w) = no_edits _
  lifted_entry l before after k x y es p (one_edit a b c e rest lead run) =
      one_edit _ (keyed l (entries (before ++ (k, b) ∷ after))) _ _ _ (placed_entry l before after k a b e p lead)
      (lifted_entry l before after k b c rest (C.other before after k a b p) run)

  -- one more part is done
  pub shifted : (l : Label) (done : List Labelled) (n : Labelled) (xs ys : List Labelled) (es : List Edit)
      → RunIn C (many l (branches ((done ++ n ∷ []) ++ xs))) es (many l (branches ((done ++ n ∷ []) ++ ys)))
      → RunIn C (many l (branches (done ++ n ∷ xs))) es (many l (branches (done ++ n ∷ ys)))
  shifted l done n xs ys es run =
      let Start : List Labelled → Type 0 = λ parts. RunIn C (many l (branches parts)) es (many l (branches ((done ++ n ∷ []) ++ ys))) in
      let End : List Labelled → Type 0 = λ parts. RunIn C (many l (branches (done ++ n ∷ xs))) es (many l (branches parts)) in
      subst End (append_assoc done (n ∷ []) ys) (subst Start (append_assoc done (n ∷ []) xs) run)

  pub shifted_entry : (l : Label) (done : List Entry) (n : Entry) (xs ys : List Entry) (es : List Edit)
      → RunIn C (keyed l (entries ((done ++ n ∷ []) ++ xs))) es (keyed l (entries ((done ++ n ∷ []) ++ ys)))
      → RunIn C (keyed l (entries (done ++ n ∷ xs))) es (keyed l (entries (done ++ n ∷ ys)))
  shifted_entry l done n xs ys es run =
      let Start : List Entry → Type 0 = λ parts. RunIn C (keyed l (entries parts)) es (keyed l (entries ((done ++ n ∷ []) ++ ys))) in
      let End : List Entry → Type 0 = λ parts. RunIn C (keyed l (entries (done ++ n ∷ xs))) es (keyed l (entries parts)) in
      subst End (append_assoc done (n ∷ []) ys) (subst Start (append_assoc done (n ∷ []) xs) run)
