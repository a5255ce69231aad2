-- The edits of settling with what stands around them: they lead to the settled value.
use Rattle.std.proofs.Common.{◌≡◌, ℕ, ◌+◌, List, [], ◌∷◌, ◌++◌, length, map, Bool, true, false, if◌then◌else◌, Option, Some, None, refl, sym, ◌∙◌, ap, subst, arith, length-append, append_assoc}
use Rattle.std.proofs.lemmas.List.{map-append}
use Rattle.snap_core.specs.Value.{null, list, dict}
use Rattle.snap_core.specs.declared.number.ModelNo.{ModelNo}
use Rattle.edit_core.specs.declared.kind.Kind.{Kind}
use Rattle.edit_core.specs.declared.kind.Kind.TheVariants as kind
use Rattle.edit_core.specs.Labelled.{Label, Labelled, Branches, Entries, Entry, leaf, many, keyed, no_branches, branch, no_entries, entry, branches, entries, items_in, entries_in, bare_items, bare_fields}
use Rattle.edit_core.specs.Edit.{Edit, whole, within, at_item, at_entry, to_item, to_entry, remove, replace, moved_to_item, moved_to_entry}
use Rattle.edit_core.specs.Logged.{logged, behind}
use Rattle.edit_core.proofs.Leading.{Conditions, FineIn, FineItems, FineEntries, one_item, one_entry, RunIn, no_edits, one_edit}
use Rattle.edit_core.proofs.Runs.{joined_in, one, lifted, lifted_entry, shifted, shifted_entry}
use Rattle.tree_core.specs.TypesTyping.{type_under}
use Rattle.tree_core.specs.Settling.{Settling, is_loose, safe_target, leads_nowhere, item_type, item_removal, item_removals, cleared, behind_cleared, settling_edits, items_settling, entries_settling}
use Rattle.tree_reading.specs.Settled.{left_of, settled_value, settled_items, settled_entries}

-- the removal of a loose item
abbrev pub removal : Bool → List Labelled → Labelled → List Labelled → List Edit
removal true before x after = within [] (at_item before (remove x) after) ∷ []
removal false before x after = []

abbrev pub removals : Settling → ℕ → List Labelled → Branches Label → List Edit
removals s t before no_branches = []
removals s t before (branch x bs) =
    removals s t (before ++ settled_value s x ∷ []) bs ++ removal (is_loose s t x) before x (settled_items s t bs)

-- the clearing of a loose entry, and the entries before the next one
abbrev pub clearing : Kind → List Entry → List ℕ → Labelled → List Entry → Edit
clearing (kind.Map t) done k x after = within [] (at_entry done k (remove x) after)
clearing (kind.Model m) done k x after = within [] (at_entry done k (replace x (leaf null)) after)
clearing (kind.Array t) done k x after = within [] (at_entry done k (replace x (leaf null)) after)

abbrev pub done_cleared : Kind → List Entry → List ℕ → List Entry
done_cleared (kind.Map t) done k = done
done_cleared (kind.Model m) done k = done ++ (k, leaf null) ∷ []
done_cleared (kind.Array t) done k = done ++ (k, leaf null) ∷ []

abbrev mutual
  pub moves : Settling → Labelled → List Edit
  moves s (leaf v) = []
  moves s (many l bs) = item_moves s [] bs ++ removals s (item_type l.kind) [] bs
  moves s (keyed l es) = entry_moves s l.kind [] es

  pub item_moves : Settling → List Labelled → Branches Label → List Edit
  item_moves s done no_branches = []
  item_moves s done (branch x bs) = map (moved_to_item done (items_in bs)) (moves s x) ++ item_moves s (done ++ settled_value s x ∷ []) bs

  pub entry_moves : Settling → Kind → List Entry → Entries Label → List Edit
  entry_moves s kind done no_entries = []
  entry_moves s kind done (entry k x es) =
      if is_loose s (type_under s.table kind k) x
      then clearing kind done k x (entries_in es) ∷ entry_moves s kind (done_cleared kind done k) es
      else map (moved_to_entry done k (entries_in es)) (moves s x) ++ entry_moves s kind (done ++ (k, settled_value s x) ∷ []) es

-- the items once all are settled, the loose ones still there
abbrev pub each_settled : Settling → Branches Label → List Labelled
each_settled s no_branches = []
each_settled s (branch x bs) = settled_value s x ∷ each_settled s bs

-- what is loose is no node, so that settling leaves it
nowhere-list : (s : Settling) (m : Option ModelNo) (bs : Branches Label) → leads_nowhere s.keys m (list tt (bare_items bs)) ≡ false
nowhere-list s None bs = refl
nowhere-list s (Some m) bs = refl

nowhere-dict : (s : Settling) (m : Option ModelNo) (es : Entries Label) → leads_nowhere s.keys m (dict tt (bare_fields es)) ≡ false
nowhere-dict s None es = refl
nowhere-dict s (Some m) es = refl

pub loose-settled : (s : Settling) (t : ℕ) (x : Labelled) → is_loose s t x ≡ true → settled_value s x ≡ x
loose-settled s t (leaf v) loose = refl
loose-settled s t (many l bs) loose = absurd (cc (nowhere-list s (safe_target s.table t) bs, loose))
loose-settled s t (keyed l es) loose = absurd (cc (nowhere-dict s (safe_target s.table t) es, loose))

branches-in : (bs : Branches Label) → branches (items_in bs) ≡ bs
branches-in no_branches = refl
branches-in (branch x bs) = ap (branch x) (branches-in bs)

entries-kept : (es : Entries Label) → entries (entries_in es) ≡ es
entries-kept no_entries = refl
entries-kept (entry k x es) = ap (entry k x) (entries-kept es)

module _ (C : Conditions) (s : Settling) where
  index-done : (done : List Labelled) (x : Labelled) (xs : List Labelled) → C.index (length (done ++ x ∷ xs)) → C.index (length done)
  index-done done x xs i = C.fewer (length done) (length (done ++ x ∷ xs)) (omega (arith, length-append done (x ∷ xs))) i

  index-next : (done : List Labelled) (x y : Labelled) (xs : List Labelled) → C.index (length (done ++ x ∷ xs)) → C.index (length ((done ++ y ∷ []) ++ xs))
  index-next done x y xs i =
      C.fewer (length ((done ++ y ∷ []) ++ xs)) (length (done ++ x ∷ xs))
      (omega (arith, length-append done (x ∷ xs), length-append (done ++ y ∷ []) xs, length-append done (y ∷ []))) i

  removed-one : (l : Label) (before : List Labelled) (t : ℕ) (x : Labelled) (after : List Labelled) → C.index (length before)
      → RunIn C (many l (branches (before ++ settled_value s x ∷ after))) (removal (is_loose s t x) before x after)
      (many l (branches (before ++ (if is_loose s t x then after else settled_value s x ∷ after))))
  removed-one l before t x after i = go (is_loose s t x) refl where
    go : (b : Bool) → is_loose s t x ≡ b
        → RunIn C (many l (branches (before ++ settled_value s x ∷ after))) (removal b before x after)
        (many l (branches (before ++ (if b then after else settled_value s x ∷ after))))
    go false e = no_edits _
    go true e =
        let From : Labelled → Type 0 = λ y. RunIn C (many l (branches (before ++ y ∷ after))) (within [] (at_item before (remove x) after) ∷ []) (many l (branches (before ++ after))) in
        subst From (sym (loose-settled s t x e)) (one C _ _ _ (one_item l before after (remove x) i))

  removals-run : (l : Label) (t : ℕ) (before : List Labelled) (bs : Branches Label) → C.index (length (before ++ each_settled s bs))
      → RunIn C (many l (branches (before ++ each_settled s bs))) (removals s t before bs) (many l (branches (before ++ settled_items s t bs)))
  removals-run l t before no_branches i = no_edits _
  removals-run l t before (branch x bs) i =
      joined_in C _ _ _ (removals s t (before ++ settled_value s x ∷ []) bs) (removal (is_loose s t x) before x (settled_items s t bs))
      (shifted C l before (settled_value s x) (each_settled s bs) (settled_items s t bs) (removals s t (before ++ settled_value s x ∷ []) bs)
      (removals-run l t (before ++ settled_value s x ∷ []) bs (index-next before (settled_value s x) (settled_value s x) (each_settled s bs) i)))
      (removed-one l before t x (settled_items s t bs) (index-done before (settled_value s x) (each_settled s bs) i))

  each-length : (done : List Labelled) (bs : Branches Label) → C.index (length (done ++ items_in bs)) → C.index (length (done ++ each_settled s bs))
  each-length done no_branches i = i
  each-length done (branch x bs) i =
      let Next : ℕ → Type 0 = λ n. C.index n in
      let same : length ((done ++ settled_value s x ∷ []) ++ each_settled s bs) ≡ length (done ++ settled_value s x ∷ each_settled s bs) =
      omega (arith, length-append (done ++ settled_value s x ∷ []) (each_settled s bs), length-append done (settled_value s x ∷ []), length-append done (settled_value s x ∷ each_settled s bs)) in
      subst Next same (each-length (done ++ settled_value s x ∷ []) bs (index-next done x (settled_value s x) (items_in bs) i))

  keys-next : (done : List Entry) (k : List ℕ) (x y : Labelled) (after : List Entry) → C.keys (done ++ (k, x) ∷ after) → C.keys ((done ++ (k, y) ∷ []) ++ after)
  keys-next done k x y after p = subst C.keys (sym (append_assoc done ((k, y) ∷ []) after)) (C.other done after k x y p)

  keys-cleared : (kind : Kind) (done : List Entry) (k : List ℕ) (x : Labelled) (after : List Entry) → C.keys (done ++ (k, x) ∷ after) → C.keys (done_cleared kind done k ++ after)
  keys-cleared (kind.Map t) done k x after p = C.fewer_keys done ((k, x) ∷ []) after p
  keys-cleared (kind.Model m) done k x after p = keys-next done k x (leaf null) after p
  keys-cleared (kind.Array t) done k x after p = keys-next done k x (leaf null) after p

  cleared-one : (l : Label) (kind : Kind) (done : List Entry) (k : List ℕ) (x : Labelled) (after after' : List Entry) (es : List Edit) → C.keys (done ++ (k, x) ∷ after)
      → RunIn C (keyed l (entries (done_cleared kind done k ++ after))) es (keyed l (entries (done_cleared kind done k ++ after')))
      → RunIn C (keyed l (entries (done ++ (k, x) ∷ after))) (clearing kind done k x after ∷ es) (keyed l (entries (done ++ (left_of kind k ++ after'))))
  cleared-one l (kind.Map t) done k x after after' es p more =
      one_edit _ (keyed l (entries (done ++ after))) _ _ es (one_entry l done after k (remove x) p (C.fewer_keys done ((k, x) ∷ []) after p)) more
  cleared-one l (kind.Model m) done k x after after' es p more =
      one_edit _ (keyed l (entries (done ++ (k, leaf null) ∷ after))) _ _ es (one_entry l done after k (replace x (leaf null)) p (C.other done after k x (leaf null) p))
      (shifted_entry C l done (k, leaf null) after after' es more)
  cleared-one l (kind.Array t) done k x after after' es p more =
      one_edit _ (keyed l (entries (done ++ (k, leaf null) ∷ after))) _ _ es (one_entry l done after k (replace x (leaf null)) p (C.other done after k x (leaf null) p))
      (shifted_entry C l done (k, leaf null) after after' es more)

  entry-run : (l : Label) (kind : Kind) (done : List Entry) (k : List ℕ) (x : Labelled) (es : Entries Label) (b : Bool) → C.keys (done ++ (k, x) ∷ entries_in es)
      → RunIn C x (moves s x) (settled_value s x)
      → RunIn C (keyed l (entries (done_cleared kind done k ++ entries_in es))) (entry_moves s kind (done_cleared kind done k) es) (keyed l (entries (done_cleared kind done k ++ settled_entries s kind es)))
      → RunIn C (keyed l (entries ((done ++ (k, settled_value s x) ∷ []) ++ entries_in es))) (entry_moves s kind (done ++ (k, settled_value s x) ∷ []) es) (keyed l (entries ((done ++ (k, settled_value s x) ∷ []) ++ settled_entries s kind es)))
      → RunIn C (keyed l (entries (done ++ (k, x) ∷ entries_in es)))
      (if b then clearing kind done k x (entries_in es) ∷ entry_moves s kind (done_cleared kind done k) es
      else map (moved_to_entry done k (entries_in es)) (moves s x) ++ entry_moves s kind (done ++ (k, settled_value s x) ∷ []) es)
      (keyed l (entries (done ++ (if b then left_of kind k ++ settled_entries s kind es else (k, settled_value s x) ∷ settled_entries s kind es))))
  entry-run l kind done k x es true p run loose kept =
      cleared-one l kind done k x (entries_in es) (settled_entries s kind es) (entry_moves s kind (done_cleared kind done k) es) p loose
  entry-run l kind done k x es false p run loose kept =
      joined_in C _ _ _ (map (moved_to_entry done k (entries_in es)) (moves s x)) (entry_moves s kind (done ++ (k, settled_value s x) ∷ []) es)
      (lifted_entry C l done (entries_in es) k x (settled_value s x) (moves s x) p run)
      (shifted_entry C l done (k, settled_value s x) (entries_in es) (settled_entries s kind es) (entry_moves s kind (done ++ (k, settled_value s x) ∷ []) es) kept)

  mutual
    pub moves-run : (x : Labelled) → FineIn C x → RunIn C x (moves s x) (settled_value s x)
    moves-run (leaf v) fine = no_edits _
    moves-run (many l bs) fine =
        let same : many l bs ≡ many l (branches (items_in bs)) = ap (many l) (sym (branches-in bs)) in
        let Start : Labelled → Type 0 = λ y. RunIn C y (item_moves s [] bs ++ removals s (item_type l.kind) [] bs) (many l (branches (settled_items s (item_type l.kind) bs))) in
        subst Start (sym same)
        (joined_in C _ _ _ (item_moves s [] bs) (removals s (item_type l.kind) [] bs)
        (items-run l [] bs fine.0 fine.1)
        (removals-run l (item_type l.kind) [] bs (each-length [] bs fine.0)))
    moves-run (keyed l es) fine =
        let same : keyed l es ≡ keyed l (entries (entries_in es)) = ap (keyed l) (sym (entries-kept es)) in
        let Start : Labelled → Type 0 = λ y. RunIn C y (entry_moves s l.kind [] es) (keyed l (entries (settled_entries s l.kind es))) in
        subst Start (sym same) (entries-run l l.kind [] es fine.0 fine.1)

    items-run : (l : Label) (done : List Labelled) (bs : Branches Label) → C.index (length (done ++ items_in bs)) → FineItems C bs
        → RunIn C (many l (branches (done ++ items_in bs))) (item_moves s done bs) (many l (branches (done ++ each_settled s bs)))
    items-run l done no_branches i fine = no_edits _
    items-run l done (branch x bs) i fine =
        joined_in C _ _ _ (map (moved_to_item done (items_in bs)) (moves s x)) (item_moves s (done ++ settled_value s x ∷ []) bs)
        (lifted C l done (items_in bs) x (settled_value s x) (moves s x) (index-done done x (items_in bs) i) (moves-run x fine.0))
        (shifted C l done (settled_value s x) (items_in bs) (each_settled s bs) (item_moves s (done ++ settled_value s x ∷ []) bs)
        (items-run l (done ++ settled_value s x ∷ []) bs (index-next done x (settled_value s x) (items_in bs) i) fine.1))

    entries-run : (l : Label) (kind : Kind) (done : List Entry) (es : Entries Label) → C.keys (done ++ entries_in es) → FineEntries C es
        → RunIn C (keyed l (entries (done ++ entries_in es))) (entry_moves s kind done es) (keyed l (entries (done ++ settled_entries s kind es)))
    entries-run l kind done no_entries p fine = no_edits _
    entries-run l kind done (entry k x es) p fine =
        entry-run l kind done k x es (is_loose s (type_under s.table kind k) x) p (moves-run x fine.0)
        (entries-run l kind (done_cleared kind done k) es (keys-cleared kind done k x (entries_in es) p) fine.1)
        (entries-run l kind (done ++ (k, settled_value s x) ∷ []) es (keys-next done k x (settled_value s x) (entries_in es) p) fine.1)

-- What a log keeps of the moves.

logged-items : (before after : List Labelled) (es : List Edit) → map logged (map (moved_to_item before after) es) ≡ map (behind (to_item (length before))) (map logged es)
logged-items before after [] = refl
logged-items before after (whole old new ∷ es) = ap (λ rest. logged (moved_to_item before after (whole old new)) ∷ rest) (logged-items before after es)
logged-items before after (within way change ∷ es) = ap (λ rest. logged (moved_to_item before after (within way change)) ∷ rest) (logged-items before after es)

logged-entries : (before : List Entry) (k : List ℕ) (after : List Entry) (es : List Edit)
    → map logged (map (moved_to_entry before k after) es) ≡ map (behind (to_entry (length before) k)) (map logged es)
logged-entries before k after [] = refl
logged-entries before k after (whole old new ∷ es) = ap (λ rest. logged (moved_to_entry before k after (whole old new)) ∷ rest) (logged-entries before k after es)
logged-entries before k after (within way change ∷ es) = ap (λ rest. logged (moved_to_entry before k after (within way change)) ∷ rest) (logged-entries before k after es)

one-more : {A : Type 0} (xs : List A) (x : A) → length (xs ++ x ∷ []) ≡ length xs + 1
one-more xs x = omega (arith, length-append xs (x ∷ []))

logged-removal : (b : Bool) (before : List Labelled) (x : Labelled) (after : List Labelled) → map logged (removal b before x after) ≡ item_removal b (length before) x
logged-removal true before x after = refl
logged-removal false before x after = refl

logged-removals : (s : Settling) (t : ℕ) (before : List Labelled) (bs : Branches Label) → map logged (removals s t before bs) ≡ item_removals s t (length before) bs
logged-removals s t before no_branches = refl
logged-removals s t before (branch x bs) =
    let rest : map logged (removals s t (before ++ settled_value s x ∷ []) bs) ≡ item_removals s t (length before + 1) bs =
    logged-removals s t (before ++ settled_value s x ∷ []) bs ∙ ap (λ i. item_removals s t i bs) (one-more before (settled_value s x)) in
    map-append logged (removals s t (before ++ settled_value s x ∷ []) bs) (removal (is_loose s t x) before x (settled_items s t bs))
    ∙ ap (λ es. es ++ map logged (removal (is_loose s t x) before x (settled_items s t bs))) rest
    ∙ ap (λ es. item_removals s t (length before + 1) bs ++ es) (logged-removal (is_loose s t x) before x (settled_items s t bs))

logged-clearing : (kind : Kind) (done : List Entry) (k : List ℕ) (x : Labelled) (after : List Entry) → logged (clearing kind done k x after) ≡ cleared kind (length done) k x
logged-clearing (kind.Map t) done k x after = refl
logged-clearing (kind.Model m) done k x after = refl
logged-clearing (kind.Array t) done k x after = refl

length-cleared : (kind : Kind) (done : List Entry) (k : List ℕ) → length (done_cleared kind done k) ≡ behind_cleared kind (length done)
length-cleared (kind.Map t) done k = refl
length-cleared (kind.Model m) done k = one-more done (k, leaf null)
length-cleared (kind.Array t) done k = one-more done (k, leaf null)

logged-entry : (s : Settling) (kind : Kind) (done : List Entry) (k : List ℕ) (x : Labelled) (es : Entries Label) (b : Bool)
    → map logged (moves s x) ≡ settling_edits s x
    → map logged (entry_moves s kind (done_cleared kind done k) es) ≡ entries_settling s kind (length (done_cleared kind done k)) es
    → map logged (entry_moves s kind (done ++ (k, settled_value s x) ∷ []) es) ≡ entries_settling s kind (length (done ++ (k, settled_value s x) ∷ [])) es
    → map logged (if b then clearing kind done k x (entries_in es) ∷ entry_moves s kind (done_cleared kind done k) es
    else map (moved_to_entry done k (entries_in es)) (moves s x) ++ entry_moves s kind (done ++ (k, settled_value s x) ∷ []) es)
    ≡ (if b then cleared kind (length done) k x ∷ entries_settling s kind (behind_cleared kind (length done)) es
    else map (behind (to_entry (length done) k)) (settling_edits s x) ++ entries_settling s kind (length done + 1) es)
logged-entry s kind done k x es true inner loose kept =
    let rest : map logged (entry_moves s kind (done_cleared kind done k) es) ≡ entries_settling s kind (behind_cleared kind (length done)) es =
    loose ∙ ap (λ i. entries_settling s kind i es) (length-cleared kind done k) in
    ap (λ first. first ∷ map logged (entry_moves s kind (done_cleared kind done k) es)) (logged-clearing kind done k x (entries_in es))
    ∙ ap (λ es'. cleared kind (length done) k x ∷ es') rest
logged-entry s kind done k x es false inner loose kept =
    let first : map logged (map (moved_to_entry done k (entries_in es)) (moves s x)) ≡ map (behind (to_entry (length done) k)) (settling_edits s x) =
    logged-entries done k (entries_in es) (moves s x) ∙ ap (map (behind (to_entry (length done) k))) inner in
    let rest : map logged (entry_moves s kind (done ++ (k, settled_value s x) ∷ []) es) ≡ entries_settling s kind (length done + 1) es =
    kept ∙ ap (λ i. entries_settling s kind i es) (one-more done (k, settled_value s x)) in
    map-append logged (map (moved_to_entry done k (entries_in es)) (moves s x)) (entry_moves s kind (done ++ (k, settled_value s x) ∷ []) es)
    ∙ ap (λ fs. fs ++ map logged (entry_moves s kind (done ++ (k, settled_value s x) ∷ []) es)) first
    ∙ ap (λ fs. map (behind (to_entry (length done) k)) (settling_edits s x) ++ fs) rest

mutual
  pub logged-moves : (s : Settling) (x : Labelled) → map logged (moves s x) ≡ settling_edits s x
  logged-moves s (leaf v) = refl
  logged-moves s (many l bs) =
      map-append logged (item_moves s [] bs) (removals s (item_type l.kind) [] bs)
      ∙ ap (λ es. es ++ map logged (removals s (item_type l.kind) [] bs)) (logged-item_moves s [] bs)
      ∙ ap (λ es. items_settling s 0 bs ++ es) (logged-removals s (item_type l.kind) [] bs)
  logged-moves s (keyed l es) = logged-entry_moves s l.kind [] es

  logged-item_moves : (s : Settling) (done : List Labelled) (bs : Branches Label) → map logged (item_moves s done bs) ≡ items_settling s (length done) bs
  logged-item_moves s done no_branches = refl
  logged-item_moves s done (branch x bs) =
      let first : map logged (map (moved_to_item done (items_in bs)) (moves s x)) ≡ map (behind (to_item (length done))) (settling_edits s x) =
      logged-items done (items_in bs) (moves s x) ∙ ap (map (behind (to_item (length done)))) (logged-moves s x) in
      let rest : map logged (item_moves s (done ++ settled_value s x ∷ []) bs) ≡ items_settling s (length done + 1) bs =
      logged-item_moves s (done ++ settled_value s x ∷ []) bs ∙ ap (λ i. items_settling s i bs) (one-more done (settled_value s x)) in
      map-append logged (map (moved_to_item done (items_in bs)) (moves s x)) (item_moves s (done ++ settled_value s x ∷ []) bs)
      ∙ ap (λ fs. fs ++ map logged (item_moves s (done ++ settled_value s x ∷ []) bs)) first
      ∙ ap (λ fs. map (behind (to_item (length done))) (settling_edits s x) ++ fs) rest

  logged-entry_moves : (s : Settling) (kind : Kind) (done : List Entry) (es : Entries Label) → map logged (entry_moves s kind done es) ≡ entries_settling s kind (length done) es
  logged-entry_moves s kind done no_entries = refl
  logged-entry_moves s kind done (entry k x es) =
      logged-entry s kind done k x es (is_loose s (type_under s.table kind k) x) (logged-moves s x)
      (logged-entry_moves s kind (done_cleared kind done k) es) (logged-entry_moves s kind (done ++ (k, settled_value s x) ∷ []) es)
