-- The array rule leads from the old items to the new ones.
use Rattle.std.proofs.Common.{◌≡◌, List, [], ◌∷◌, ◌++◌, length, map, Bool, true, false, Option, Some, None, unwrap_or, refl, arith, length-append}
use Rattle.std.specs.Prelude.{if◌then◌else◌}
use Rattle.std.specs.List.{find}
use Rattle.edit_core.specs.Labelled.{Label, Labelled, many, branches}
use Rattle.edit_core.specs.Edit.{within, at_item, add, remove, moved_to_item}
use Rattle.edit_core.specs.Between.{OldPart, values, stays, all_stay, one_by_one, match_of, edits_to, becomes, edits_in_place, removals, additions, moved, item_edits}
use Rattle.edit_core.proofs.Equal.{and-right}
use Rattle.edit_core.proofs.Leading.{Conditions, FineIn, AllFine, one_item, RunIn, no_edits, one_edit}
use Rattle.edit_core.proofs.Runs.{joined_in, one, lifted, shifted}

module _ (C : Conditions) where
  -- the edits of an old part lead from it to each new value
  abbrev pub IsGood : OldPart → Type 0
  IsGood o = (n : Labelled) → FineIn C n → RunIn C o.value (o.edits n) n

  abbrev pub AreGood : List OldPart → Type 0
  AreGood [] = Unit {0}
  AreGood (o ∷ os) = IsGood o × AreGood os

  -- what is asked of a length holds of fewer
  index-done : (done : List Labelled) (x : Labelled) (xs : List Labelled) → C.index (length (done ++ x ∷ xs)) → C.index (length done)
  index-done done x xs h = C.fewer (length done) (length (done ++ x ∷ xs)) (omega (arith, length-append done (x ∷ xs))) h

  index-next : (done : List Labelled) (x y : Labelled) (xs : List Labelled) → C.index (length (done ++ x ∷ xs)) → C.index (length ((done ++ y ∷ []) ++ xs))
  index-next done x y xs h =
      C.fewer (length ((done ++ y ∷ []) ++ xs)) (length (done ++ x ∷ xs))
      (omega (arith, length-append done (x ∷ xs), length-append (done ++ y ∷ []) xs, length-append done (y ∷ []))) h

  pub one_by_one-runs : (l : Label) (done : List Labelled) (olds : List OldPart) (news : List Labelled) → C.index (length (done ++ values olds)) → AreGood olds → AllFine C news → all_stay olds news ≡ true
      → RunIn C (many l (branches (done ++ values olds))) (one_by_one done olds news) (many l (branches (done ++ news)))
  one_by_one-runs l done [] [] i good fine same = no_edits _
  one_by_one-runs l done [] (n ∷ ns) i good fine same = cc
  one_by_one-runs l done (o ∷ os) [] i good fine same = cc
  one_by_one-runs l done (o ∷ os) (n ∷ ns) i good fine same =
      joined_in C _ _ _ (map (moved_to_item done (values os)) (o.edits n)) (one_by_one (done ++ n ∷ []) os ns)
      (lifted C l done (values os) o.value n (o.edits n) (index-done done o.value (values os) i) (good.0 n fine.0))
      (shifted C l done n (values os) ns (one_by_one (done ++ n ∷ []) os ns)
      (one_by_one-runs l (done ++ n ∷ []) os ns (index-next done o.value n (values os) i) good.1 fine.1 (and-right (stays o.value n) (all_stay os ns) same)))

  abbrev IfFine : Option Labelled → Type 0
  IfFine (Some n) = FineIn C n
  IfFine None = Unit {0}

  find-fine : (p : Labelled → Bool) (news : List Labelled) → AllFine C news → IfFine (find p news)
  find-fine p [] fine = tt
  find-fine p (n ∷ ns) fine = elim (p n) as (λ b. IfFine (if b then Some n else find p ns)) [ true ↦ fine.0 | false ↦ find-fine p ns fine.1 ]

  edits_to-runs : (o : OldPart) (m : Option Labelled) → IsGood o → IfFine m → RunIn C o.value (edits_to o m) (unwrap_or m o.value)
  edits_to-runs o (Some n) good fine = good n fine
  edits_to-runs o None good fine = no_edits o.value

  pub in_place-runs : (l : Label) (done : List Labelled) (olds : List OldPart) (news : List Labelled) → C.index (length (done ++ values olds)) → AreGood olds → AllFine C news
      → RunIn C (many l (branches (done ++ values olds))) (edits_in_place done olds news) (many l (branches (done ++ map (λ o. becomes o news) olds)))
  in_place-runs l done [] news i good fine = no_edits _
  in_place-runs l done (o ∷ os) news i good fine =
      joined_in C _ _ _ (map (moved_to_item done (values os)) (edits_to o (match_of o news))) (edits_in_place (done ++ becomes o news ∷ []) os news)
      (lifted C l done (values os) o.value (becomes o news) (edits_to o (match_of o news)) (index-done done o.value (values os) i)
      (edits_to-runs o (match_of o news) good.0 (find-fine (stays o.value) news fine)))
      (shifted C l done (becomes o news) (values os) (map (λ o. becomes o news) os) (edits_in_place (done ++ becomes o news ∷ []) os news)
      (in_place-runs l (done ++ becomes o news ∷ []) os news (index-next done o.value (becomes o news) (values os) i) good.1 fine))

  pub removals-run : (l : Label) (before xs : List Labelled) → C.index (length (before ++ xs)) → RunIn C (many l (branches (before ++ xs))) (removals before xs) (many l (branches (before ++ [])))
  removals-run l before [] i = no_edits _
  removals-run l before (x ∷ xs) i =
      joined_in C _ _ _ (removals (before ++ x ∷ []) xs) (within [] (at_item before (remove x) []) ∷ [])
      (shifted C l before x xs [] (removals (before ++ x ∷ []) xs) (removals-run l (before ++ x ∷ []) xs (index-next before x x xs i)))
      (one C _ _ _ (one_item l before [] (remove x) (index-done before x xs i)))

  pub additions-run : (l : Label) (before xs : List Labelled) → C.index (length (before ++ xs)) → RunIn C (many l (branches (before ++ []))) (additions before xs) (many l (branches (before ++ xs)))
  additions-run l before [] i = no_edits _
  additions-run l before (x ∷ xs) i =
      one_edit _ (many l (branches (before ++ x ∷ []))) _ _ _ (one_item l before [] (add x) (index-done before x xs i))
      (shifted C l before x [] xs (additions (before ++ x ∷ []) xs) (additions-run l (before ++ x ∷ []) xs (index-next before x x xs i)))

  length-becomes : (olds : List OldPart) (news : List Labelled) → length (map (λ o. becomes o news) olds) ≡ length (values olds)
  length-becomes [] news = refl
  length-becomes (o ∷ os) news = omega (arith, length-becomes os news)

  pub moved-runs : (l : Label) (olds : List OldPart) (news : List Labelled) → C.index (length (values olds)) → C.index (length news) → AreGood olds → AllFine C news
      → RunIn C (many l (branches (values olds))) (moved olds news) (many l (branches news))
  moved-runs l olds news i j good fine =
      joined_in C _ _ _ (edits_in_place [] olds news) (removals [] (map (λ o. becomes o news) olds) ++ additions [] news)
      (in_place-runs l [] olds news i good fine)
      (joined_in C _ _ _ (removals [] (map (λ o. becomes o news) olds)) (additions [] news)
      (removals-run l [] (map (λ o. becomes o news) olds) (C.fewer _ (length (values olds)) (omega (arith, length-becomes olds news)) i))
      (additions-run l [] news j))

  pub item_edits-run : (l : Label) (olds : List OldPart) (news : List Labelled) → C.index (length (values olds)) → C.index (length news) → AreGood olds → AllFine C news
      → RunIn C (many l (branches (values olds))) (item_edits olds news) (many l (branches news))
  item_edits-run l olds news i j good fine = go (all_stay olds news) refl where
    go : (b : Bool) → all_stay olds news ≡ b → RunIn C (many l (branches (values olds))) (if b then one_by_one [] olds news else moved olds news) (many l (branches news))
    go true same = one_by_one-runs l [] olds news i good fine same
    go false other = moved-runs l olds news i j good fine
