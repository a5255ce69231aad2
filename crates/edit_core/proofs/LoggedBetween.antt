-- The edits between two labelled snapshots, as a log keeps them, are the edits between them without what stands around.
use Rattle.std.proofs.Common.{◌≡◌, ℕ, suc, ◌+◌, List, [], ◌∷◌, ◌++◌, length, map, take, drop, Bool, true, false, ◌&&◌, Option, Some, None, if◌then◌else◌, refl, sym, ◌∙◌, ap, arith, length-append}
use Rattle.std.proofs.lemmas.List.{map-append}
use Rattle.std.proofs.Math.Path.{fun_ext}
use Rattle.std.specs.Option.{option_map}
use Rattle.std.specs.declared.cmp.Ordering.{Ordering}
use Rattle.std.specs.declared.cmp.Ordering.TheVariants.{Less, Equal, Greater}
use Rattle.std.specs.Ordering.{nat_cmp}
use Rattle.std.specs.Cmp.Lexicographic.{slice_cmp}
use Rattle.edit_core.specs.Labelled.{Label, Labelled, Entry, Branches, Entries, leaf, many, keyed, no_branches, branch, no_entries, entry, items_in, entries_in}
use Rattle.edit_core.specs.Edit.{Edit, whole, within, at_item, remove, to_item, to_entry, moved_to_item, moved_to_entry}
use Rattle.edit_core.specs.Comparing.{is_equal, same_label}
use Rattle.edit_core.specs.Between.{OldPart, Parting, values, entries_of, stays, all_stay, one_by_one, match_of, edits_to, becomes, edits_in_place, removals, additions, moved, item_edits, parted, parted_after, edits_at, settings, united, cuts, cleared, entry_edits, leaf_edits, array_edits, record_edits, edits_between, olds_in, old_entries_in}
use Rattle.edit_core.specs.Logged.{LoggedEdit, logged, behind}
use Rattle.edit_core.specs.LoggedBetween.{LoggedPart, all_behind, of_whole, each_stays, logged_one_by_one, logged_edits_to, remains, logged_in_place, logged_removals, logged_additions, logged_moved, logged_items, count_below, held_first, past, logged_at, logged_settings, logged_cuts, logged_cleared, logged_entries, logged_leaf, logged_array, logged_record, logged_between, logged_olds, logged_fields}

abbrev all_logged : List Edit → List LoggedEdit
all_logged es = map logged es

-- an old part of edits, as one of logged edits
abbrev pub stripped : OldPart → LoggedPart
stripped o = record { value = o.value; edits = λ n. all_logged (o.edits n) }

abbrev pub stripped_entry : List ℕ × OldPart → List ℕ × LoggedPart
stripped_entry e = (e.0, stripped e.1)

-- edits of a part

behind-item : (before after : List Labelled) (e : Edit) → logged (moved_to_item before after e) ≡ behind (to_item (length before)) (logged e)
behind-item before after (whole old new) = refl
behind-item before after (within way change) = refl

behind-entry : (before : List Entry) (key : List ℕ) (after : List Entry) (e : Edit) → logged (moved_to_entry before key after e) ≡ behind (to_entry (length before) key) (logged e)
behind-entry before key after (whole old new) = refl
behind-entry before key after (within way change) = refl

all-items : (before after : List Labelled) (es : List Edit) → all_logged (map (moved_to_item before after) es) ≡ all_behind (to_item (length before)) (all_logged es)
all-items before after [] = refl
all-items before after (e ∷ es) = let one = behind-item before after e in let more = all-items before after es in cc

all-entries : (before : List Entry) (key : List ℕ) (after : List Entry) (es : List Edit)
    → all_logged (map (moved_to_entry before key after) es) ≡ all_behind (to_entry (length before) key) (all_logged es)
all-entries before key after [] = refl
all-entries before key after (e ∷ es) = let one = behind-entry before key after e in let more = all-entries before key after es in cc

one-more : {A : Type 0} (xs : List A) (x : A) → length (xs ++ x ∷ []) ≡ suc (length xs)
one-more xs x = omega (arith, length-append xs (x ∷ []))

-- the array rule

each-stays : (olds : List OldPart) (news : List Labelled) → each_stays (map stripped olds) news ≡ all_stay olds news
each-stays [] [] = refl
each-stays [] (n ∷ ns) = refl
each-stays (o ∷ os) [] = refl
each-stays (o ∷ os) (n ∷ ns) = ap (λ b. stays o.value n && b) (each-stays os ns)

logged-one_by_one : (done : List Labelled) (olds : List OldPart) (news : List Labelled)
    → logged_one_by_one (length done) (map stripped olds) news ≡ all_logged (one_by_one done olds news)
logged-one_by_one done [] news = refl
logged-one_by_one done (o ∷ os) [] = refl
logged-one_by_one done (o ∷ os) (n ∷ ns) =
    let here = all-items done (values os) (o.edits n) in
    let rest = logged-one_by_one (done ++ n ∷ []) os ns in
    let count = one-more done n in
    let parts = map-append logged (map (moved_to_item done (values os)) (o.edits n)) (one_by_one (done ++ n ∷ []) os ns) in
    cc

edits-to : (o : OldPart) (match : Option Labelled) → logged_edits_to (stripped o) match ≡ all_logged (edits_to o match)
edits-to o (Some n) = refl
edits-to o None = refl

logged-in_place : (done : List Labelled) (olds : List OldPart) (news : List Labelled)
    → logged_in_place (length done) (map stripped olds) news ≡ all_logged (edits_in_place done olds news)
logged-in_place done [] news = refl
logged-in_place done (o ∷ os) news =
    let to = edits-to o (match_of o news) in
    let here = all-items done (values os) (edits_to o (match_of o news)) in
    let rest = logged-in_place (done ++ becomes o news ∷ []) os news in
    let count = one-more done (becomes o news) in
    let parts = map-append logged (map (moved_to_item done (values os)) (edits_to o (match_of o news))) (edits_in_place (done ++ becomes o news ∷ []) os news) in
    cc

logged-removals : (before xs : List Labelled) → logged_removals (length before) xs ≡ all_logged (removals before xs)
logged-removals before [] = refl
logged-removals before (x ∷ xs) =
    let rest = logged-removals (before ++ x ∷ []) xs in
    let count = one-more before x in
    let parts = map-append logged (removals (before ++ x ∷ []) xs) (within [] (at_item before (remove x) []) ∷ []) in
    cc

logged-additions : (before xs : List Labelled) → logged_additions (length before) xs ≡ all_logged (additions before xs)
logged-additions before [] = refl
logged-additions before (x ∷ xs) = let rest = logged-additions (before ++ x ∷ []) xs in let count = one-more before x in cc

remaining : (olds : List OldPart) (news : List Labelled) → map (λ o. remains o.value news) (map stripped olds) ≡ map (λ o. becomes o news) olds
remaining [] news = refl
remaining (o ∷ os) news = ap (λ xs. becomes o news ∷ xs) (remaining os news)

logged-moved : (olds : List OldPart) (news : List Labelled) → logged_moved (map stripped olds) news ≡ all_logged (moved olds news)
logged-moved olds news =
    let left : List Labelled = map (λ o. becomes o news) olds in
    let same = remaining olds news in
    let inner = logged-in_place [] olds news in
    let outs = logged-removals [] left in
    let ins = logged-additions [] news in
    let parts = map-append logged (edits_in_place [] olds news) (removals [] left ++ additions [] news) in
    let more = map-append logged (removals [] left) (additions [] news) in
    cc

logged-items : (olds : List OldPart) (news : List Labelled) → logged_items (map stripped olds) news ≡ all_logged (item_edits olds news)
logged-items olds news = go (all_stay olds news) (each-stays olds news) where
  go : (b : Bool) → each_stays (map stripped olds) news ≡ b
      → (if each_stays (map stripped olds) news then logged_one_by_one 0 (map stripped olds) news else logged_moved (map stripped olds) news)
      ≡ all_logged (if b then one_by_one [] olds news else moved olds news)
  go true e = rw e (logged-one_by_one [] olds news)
  go false e = rw e (logged-moved olds news)

-- the rule of maps and models

-- what stands about a key, by how many entries come before it
record IsPartedAt (key : List ℕ) (olds : List (List ℕ × OldPart)) (p : Parting) : Type 0 where
  below : take (count_below key (map stripped_entry olds)) (map stripped_entry olds) ≡ map stripped_entry p.below
  count : count_below key (map stripped_entry olds) ≡ length p.below
  held : held_first key (drop (count_below key (map stripped_entry olds)) (map stripped_entry olds)) ≡ option_map stripped p.held
  above : past (held_first key (drop (count_below key (map stripped_entry olds)) (map stripped_entry olds))) (drop (count_below key (map stripped_entry olds)) (map stripped_entry olds)) ≡ map stripped_entry p.above

parted-at : (key : List ℕ) (olds : List (List ℕ × OldPart)) → IsPartedAt key olds (parted key olds)
parted-at key [] = record { below = refl; count = refl; held = refl; above = refl }
parted-at key (e ∷ es) = go (slice_cmp nat_cmp e.0 key) refl (parted-at key es) where
  go : (o : Ordering) → slice_cmp nat_cmp e.0 key ≡ o → IsPartedAt key es (parted key es) → IsPartedAt key (e ∷ es) (parted_after e es (parted key es) o)
  go Less is rest = record { below = rw is (ap (λ xs. stripped_entry e ∷ xs) rest.below); count = rw is (ap suc rest.count); held = rw is rest.held; above = rw is rest.above }
  go Equal is rest = record { below = rw is refl; count = rw is refl; held = rw (is, is) refl; above = rw (is, is) refl }
  go Greater is rest = record { below = rw is refl; count = rw is refl; held = rw (is, is) refl; above = rw (is, is) refl }

logged-at : (before : List Entry) (key : List ℕ) (held : Option OldPart) (new : Labelled) (after : List Entry)
    → logged_at (length before) key (option_map stripped held) new ≡ all_logged (edits_at before key held new after)
logged-at before key (Some old) new after = sym (all-entries before key after (old.edits new))
logged-at before key None new after = refl

length-entries_of : (olds : List (List ℕ × OldPart)) → length (entries_of olds) ≡ length olds
length-entries_of [] = refl
length-entries_of (e ∷ es) = ap suc (length-entries_of es)

logged-settings : (done : List Entry) (olds : List (List ℕ × OldPart)) (news : List Entry)
    → logged_settings (length done) (map stripped_entry olds) news ≡ all_logged (settings done olds news)
logged-settings done olds [] = refl
logged-settings done olds (n ∷ ns) =
    let p : Parting = parted n.0 olds in
    let is : IsPartedAt n.0 olds p = parted-at n.0 olds in
    let before : List Entry = done ++ entries_of p.below in
    let at : length done + count_below n.0 (map stripped_entry olds) ≡ length before =
    omega (arith, is.count, length-append done (entries_of p.below), length-entries_of p.below) in
    let next : suc (length before) ≡ length (before ++ n ∷ []) = sym (one-more before n) in
    let here = logged-at before n.0 p.held n.1 (entries_of p.above) in
    let rest = logged-settings (before ++ n ∷ []) p.above ns in
    let parts = map-append logged (edits_at before n.0 p.held n.1 (entries_of p.above)) (settings (before ++ n ∷ []) p.above ns) in
    rw (is.above, is.held, at, next, here, rest) (sym parts)

logged-cuts : (before es after : List Entry) (olds : List (List ℕ × OldPart)) → es ≡ entries_of olds
    → logged_cuts (length before) (map stripped_entry olds) ≡ all_logged (cuts before es after)
logged-cuts before es after olds same = rw same (go olds) where
  go : (olds : List (List ℕ × OldPart)) → logged_cuts (length before) (map stripped_entry olds) ≡ all_logged (cuts before (entries_of olds) after)
  go [] = refl
  go (o ∷ os) = let rest = go os in cc

logged-cleared : (done : List Entry) (olds : List (List ℕ × OldPart)) (news : List Entry)
    → logged_cleared (length done) (map stripped_entry olds) news ≡ all_logged (cleared done olds news)
logged-cleared done olds [] = logged-cuts done (entries_of olds) [] olds refl
logged-cleared done olds (n ∷ ns) =
    let p : Parting = parted n.0 olds in
    let is : IsPartedAt n.0 olds p = parted-at n.0 olds in
    let next : suc (length done) ≡ length (done ++ n ∷ []) = sym (one-more done n) in
    let here = logged-cuts done (entries_of p.below) (n ∷ united p.above ns) p.below refl in
    let rest = logged-cleared (done ++ n ∷ []) p.above ns in
    let parts = map-append logged (cuts done (entries_of p.below) (n ∷ united p.above ns)) (cleared (done ++ n ∷ []) p.above ns) in
    rw (is.above, is.below, next, here, rest) (sym parts)

logged-entries : (olds : List (List ℕ × OldPart)) (news : List Entry) → logged_entries (map stripped_entry olds) news ≡ all_logged (entry_edits olds news)
logged-entries olds news =
    let sets = logged-settings [] olds news in
    let clears = logged-cleared [] olds news in
    let parts = map-append logged (settings [] olds news) (cleared [] olds news) in
    cc

-- all

logged-leaf : (v w : _) → logged_leaf v w ≡ all_logged (leaf_edits v w)
logged-leaf v (leaf w) = go (is_equal v w) where
  go : (b : Bool) → (if b then [] else of_whole (leaf v) (leaf w) ∷ []) ≡ all_logged (if b then [] else whole (leaf v) (leaf w) ∷ [])
  go true = refl
  go false = refl
logged-leaf v (many k bs) = refl
logged-leaf v (keyed k es) = refl

logged-array : (l : Label) (old : Labelled) (olds : List OldPart) (new : Labelled) → logged_array l old (map stripped olds) new ≡ all_logged (array_edits l old olds new)
logged-array l old olds (many k bs) = go (same_label l k) where
  go : (b : Bool) → (if b then logged_items (map stripped olds) (items_in bs) else of_whole old (many k bs) ∷ []) ≡ all_logged (if b then item_edits olds (items_in bs) else whole old (many k bs) ∷ [])
  go true = logged-items olds (items_in bs)
  go false = refl
logged-array l old olds (leaf w) = refl
logged-array l old olds (keyed k es) = refl

logged-record : (l : Label) (old : Labelled) (olds : List (List ℕ × OldPart)) (new : Labelled)
    → logged_record l old (map stripped_entry olds) new ≡ all_logged (record_edits l old olds new)
logged-record l old olds (keyed k es) = go (same_label l k) where
  go : (b : Bool) → (if b then logged_entries (map stripped_entry olds) (entries_in es) else of_whole old (keyed k es) ∷ []) ≡ all_logged (if b then entry_edits olds (entries_in es) else whole old (keyed k es) ∷ [])
  go true = logged-entries olds (entries_in es)
  go false = refl
logged-record l old olds (leaf w) = refl
logged-record l old olds (many k bs) = refl

mutual
  pub between-logged : (old new : Labelled) → logged_between old new ≡ all_logged (edits_between old new)
  between-logged (leaf v) new = logged-leaf v new
  between-logged (many l bs) new = ap (λ olds. logged_array l (many l bs) olds new) (olds-stripped bs) ∙ logged-array l (many l bs) (olds_in bs) new
  between-logged (keyed l es) new = ap (λ olds. logged_record l (keyed l es) olds new) (fields-stripped es) ∙ logged-record l (keyed l es) (old_entries_in es) new

  olds-stripped : (bs : Branches Label) → logged_olds bs ≡ map stripped (olds_in bs)
  olds-stripped no_branches = refl
  olds-stripped (branch x bs) =
      let part : (Labelled → List LoggedEdit) → LoggedPart = λ edits. record { value = x; edits = edits } in
      ap (λ edits. part edits ∷ logged_olds bs) (fun_ext (between-logged x)) ∙ ap (λ olds. part (λ n. all_logged (edits_between x n)) ∷ olds) (olds-stripped bs)

  fields-stripped : (es : Entries Label) → logged_fields es ≡ map stripped_entry (old_entries_in es)
  fields-stripped no_entries = refl
  fields-stripped (entry k x es) =
      let part : (Labelled → List LoggedEdit) → List ℕ × LoggedPart = λ edits. (k, record { value = x; edits = edits }) in
      ap (λ edits. part edits ∷ logged_fields es) (fun_ext (between-logged x)) ∙ ap (λ olds. part (λ n. all_logged (edits_between x n)) ∷ olds) (fields-stripped es)
