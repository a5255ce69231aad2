-- The steps of the loops that find the edits between two labelled values.
use Rattle.std.proofs.Common.{◌≡◌, ℕ, zero, suc, ◌+◌, ◌-◌, ◌<◌, ◌≤◌, List, [], ◌∷◌, ◌++◌, length, get_or, take, drop, drop-cons, add-one, Bool, true, false, ◌&&◌, if◌then◌else◌, Option, Some, None, map, refl, sym, ◌∙◌, ap, append_assoc, arith}
use Rattle.std.specs.Prelude.{is_some, min, nat_le}
use Rattle.std.proofs.lemmas.Bool.Decides.{nat_tests}
use Rattle.std.proofs.Math.ListN.{drop_of_length-le}
use Rattle.std.proofs.lemmas.List.{drop-drop}
use Rattle.std.specs.List.{find}
use Rattle.std.specs.Ordering.{nat_cmp, is_lt, is_eq}
use Rattle.std.specs.Cmp.Lexicographic.{slice_cmp}
use Rattle.snap_core.specs.View.{view}
use Rattle.snap_core.specs.declared.snap.Snap.{Snap}
use Rattle.edit_core.specs.Labelled as edits
use Rattle.edit_core.specs.Labelled.{branches, entries, Entry}
use Rattle.edit_core.specs.Edit.{to_item, to_entry, add, remove}
use Rattle.edit_core.specs.Comparing.{is_equal, same_label}
use Rattle.edit_core.specs.Between.{stays}
use Rattle.edit_core.specs.Logged as logged
use Rattle.edit_core.specs.LoggedBetween.{LoggedPart, all_behind, at_turn, of_whole, each_stays, logged_one_by_one, logged_edits_to, remains, logged_in_place, logged_removals, logged_additions, logged_items, count_below, held_first, logged_settings, logged_cuts, logged_cleared, logged_entries, logged_between, logged_olds, logged_fields, part_of, entry_part}
use Rattle.edit_core.proofs.Logged.{items-in, entries-in}
use Rattle.node_core.specs.declared.labelled.Label.{Label}
use Rattle.node_core.specs.declared.labelled.Labelled.{Labelled}
use Rattle.node_core.specs.declared.labelled.Labelled
use Rattle.node_core.specs.declared.labelled.LabelledField.{LabelledField}
use Rattle.node_core.specs.View.{label, labelled, field, items, fields}
use Rattle.node_core.specs.Olds.{olds_of, old_fields_of, remaining}
use Rattle.node_core.proofs.Views.{labelled-Leaf, labelled-Array, labelled-Record, field-is}

-- old parts

olds-are : (xs : List edits.Labelled) → logged_olds (branches xs) ≡ map part_of xs
olds-are [] = refl
olds-are (x ∷ xs) = ap (λ olds. part_of x ∷ olds) (olds-are xs)

fields-are : (es : List Entry) → logged_fields (entries es) ≡ map entry_part es
fields-are [] = refl
fields-are (e ∷ es) = ap (λ olds. entry_part e ∷ olds) (fields-are es)

-- all

pub equal-leaves : (v w : Snap) (same : Bool) → same ≡ is_equal (view v) (view w) → same ≡ true → [] ≡ logged_between (labelled (Labelled.Leaf v)) (labelled (Labelled.Leaf w))
equal-leaves v w same told holds = rw (labelled-Leaf v, labelled-Leaf w, ← told, holds) refl

pub other-leaves : (v w : Snap) (same : Bool) → same ≡ is_equal (view v) (view w) → same ≡ false
    → of_whole (labelled (Labelled.Leaf v)) (labelled (Labelled.Leaf w)) ∷ [] ≡ logged_between (labelled (Labelled.Leaf v)) (labelled (Labelled.Leaf w))
other-leaves v w same told fails = rw (labelled-Leaf v, labelled-Leaf w, ← told, fails) refl

pub same-arrays : (l k : Label) (xs ys : List Labelled) → same_label (label l) (label k) ≡ true
    → logged_items (olds_of xs) (items ys) ≡ logged_between (labelled (Labelled.Array l xs)) (labelled (Labelled.Array k ys))
same-arrays l k xs ys same = rw (labelled-Array l xs, labelled-Array k ys, same, olds-are (items xs), items-in (items ys)) refl

pub same-records : (l k : Label) (xs ys : List LabelledField) → same_label (label l) (label k) ≡ true
    → logged_entries (old_fields_of xs) (fields ys) ≡ logged_between (labelled (Labelled.Record l xs)) (labelled (Labelled.Record k ys))
same-records l k xs ys same = rw (labelled-Record l xs, labelled-Record k ys, same, fields-are (fields xs), entries-in (fields ys)) refl

-- items

pub stay-from : (xs ys : List Labelled) (i : ℕ) (x y : Labelled) → x ≡ get_or xs i x → y ≡ get_or ys i y → i < length xs → i < length ys
    → each_stays (olds_of (drop i xs)) (items (drop i ys)) ≡ (stays (labelled x) (labelled y) && each_stays (olds_of (drop (i + 1) xs)) (items (drop (i + 1) ys)))
stay-from xs ys i x y ex ey hx hy = rw (add-one, drop-cons xs i x, drop-cons ys i y, ← ex, ← ey) refl

and-false : (b : Bool) → (b && false) ≡ false
and-false true = refl
and-false false = refl

pub stay-not : (xs ys : List Labelled) → ¬ (length xs ≡ length ys) → false ≡ each_stays (olds_of xs) (items ys)
stay-not [] [] differ = absurd (differ refl)
stay-not [] (y ∷ ys) differ = refl
stay-not (x ∷ xs) [] differ = refl
stay-not (x ∷ xs) (y ∷ ys) differ =
    sym (ap (λ b. stays (labelled x) (labelled y) && b) (sym (stay-not xs ys (λ e. differ (ap suc e)))) ∙ and-false (stays (labelled x) (labelled y)))

pub one_by_one-from : (xs ys : List Labelled) (i : ℕ) (x y : Labelled) → x ≡ get_or xs i x → y ≡ get_or ys i y → i < length xs → i < length ys
    → logged_one_by_one i (olds_of (drop i xs)) (items (drop i ys))
    ≡ all_behind (to_item i) (logged_between (labelled x) (labelled y)) ++ logged_one_by_one (i + 1) (olds_of (drop (i + 1) xs)) (items (drop (i + 1) ys))
one_by_one-from xs ys i x y ex ey hx hy = rw (add-one, drop-cons xs i x, drop-cons ys i y, ← ex, ← ey) refl

pub one_by_one-no_olds : (i : ℕ) (xs ys : List Labelled) → xs ≡ [] → logged_one_by_one i (olds_of xs) (items ys) ≡ []
one_by_one-no_olds i [] ys none = refl
one_by_one-no_olds i (x ∷ xs) ys none = cc

pub one_by_one-no_news : (i : ℕ) (xs ys : List Labelled) → ys ≡ [] → logged_one_by_one i (olds_of xs) (items ys) ≡ []
one_by_one-no_news i [] ys none = refl
one_by_one-no_news i (x ∷ xs) [] none = refl
one_by_one-no_news i (x ∷ xs) (y ∷ ys) none = cc

-- at the end of one of two lists nothing is left
pub one_by_one-end : (i : ℕ) (xs ys : List Labelled) → min (length xs) (length ys) ≤ i → logged_one_by_one i (olds_of (drop i xs)) (items (drop i ys)) ≡ []
one_by_one-end i xs ys out = go (nat_le (length xs) i) refl where
  go : (b : Bool) → nat_le (length xs) i ≡ b → logged_one_by_one i (olds_of (drop i xs)) (items (drop i ys)) ≡ []
  go true e = one_by_one-no_olds i (drop i xs) (drop i ys) (drop_of_length-le xs (let h : length xs ≤ i = grind (arith, nat_tests) in h))
  go false e = one_by_one-no_news i (drop i xs) (drop i ys) (drop_of_length-le ys (let h : i < length xs = grind (arith, nat_tests) in omega arith))

pub find-from : (p : edits.Labelled → Bool) (ys : List Labelled) (i : ℕ) (y : Labelled) → y ≡ get_or ys i y → i < length ys
    → find p (items (drop i ys)) ≡ (if p (labelled y) then Some (labelled y) else find p (items (drop (i + 1) ys)))
find-from p ys i y e h = rw (add-one, drop-cons ys i y, ← e) refl

pub in_place-from : (xs : List Labelled) (news : List edits.Labelled) (i : ℕ) (x : Labelled) → x ≡ get_or xs i x → i < length xs
    → logged_in_place i (olds_of (drop i xs)) news
    ≡ all_behind (to_item i) (logged_edits_to (part_of (labelled x)) (find (stays (labelled x)) news)) ++ logged_in_place (i + 1) (olds_of (drop (i + 1) xs)) news
in_place-from xs news i x e h = rw (add-one, drop-cons xs i x, ← e) refl

pub additions-from : (ys : List Labelled) (i : ℕ) (y : Labelled) → y ≡ get_or ys i y → i < length ys
    → logged_additions i (items (drop i ys)) ≡ at_turn (to_item i) (add (labelled y)) ∷ logged_additions (i + 1) (items (drop (i + 1) ys))
additions-from ys i y e h = rw (add-one, drop-cons ys i y, ← e) refl

pub removals-from : (xs : List Labelled) (news : List edits.Labelled) (i : ℕ) (x : Labelled) → x ≡ get_or xs i x → i < length xs
    → logged_removals i (remaining news (drop i xs)) ≡ logged_removals (suc i) (remaining news (drop (suc i) xs)) ++ at_turn (to_item i) (remove (remains (labelled x) news)) ∷ []
removals-from xs news i x e h = rw (drop-cons xs i x, ← e) refl

left-over : (xs : List Labelled) (news : List edits.Labelled) → map (λ o. remains o.value news) (olds_of xs) ≡ remaining news xs
left-over [] news = refl
left-over (x ∷ xs) news = ap (λ left. remains (labelled x) news ∷ left) (left-over xs news)

pub moved-is : (xs ys : List Labelled) (first second all : List logged.LoggedEdit) → each_stays (olds_of xs) (items ys) ≡ false
    → first ≡ logged_in_place 0 (olds_of xs) (items ys) → second ≡ first ++ logged_removals 0 (remaining (items ys) xs) → all ≡ second ++ logged_additions 0 (items ys)
    → all ≡ logged_items (olds_of xs) (items ys)
moved-is xs ys first second all apart e f g =
    rw (apart, left-over xs (items ys))
    (g ∙ ap (λ es. es ++ logged_additions 0 (items ys)) (f ∙ ap (λ es. es ++ logged_removals 0 (remaining (items ys) xs)) e)
    ∙ append_assoc (logged_in_place 0 (olds_of xs) (items ys)) (logged_removals 0 (remaining (items ys) xs)) (logged_additions 0 (items ys)))

pub one_by_one-is : (xs ys : List Labelled) → each_stays (olds_of xs) (items ys) ≡ true → logged_one_by_one 0 (olds_of xs) (items ys) ≡ logged_items (olds_of xs) (items ys)
one_by_one-is xs ys same = rw same refl

-- entries

pub below-from : (fs : List LabelledField) (key : List ℕ) (i : ℕ) (f : LabelledField) → f ≡ get_or fs i f → i < length fs
    → count_below key (old_fields_of (drop i fs)) ≡ (if is_lt (slice_cmp nat_cmp f.key key) then suc (count_below key (old_fields_of (drop (i + 1) fs))) else 0)
below-from fs key i f e h = rw (add-one, drop-cons fs i f, ← e, field-is f) refl

pub held-from : (fs : List LabelledField) (key : List ℕ) (i : ℕ) (f : LabelledField) → f ≡ get_or fs i f → i < length fs
    → held_first key (old_fields_of (drop i fs)) ≡ (if is_eq (slice_cmp nat_cmp f.key key) then Some (part_of (labelled f.value)) else None)
held-from fs key i f e h = rw (drop-cons fs i f, ← e, field-is f) refl

pub cuts-from : (fs : List LabelledField) (at i : ℕ) (f : LabelledField) → f ≡ get_or fs i f → i < length fs
    → logged_cuts at (old_fields_of (drop i fs)) ≡ at_turn (to_entry at f.key) (remove (labelled f.value)) ∷ logged_cuts at (old_fields_of (drop (i + 1) fs))
cuts-from fs at i f e h = rw (add-one, drop-cons fs i f, ← e, field-is f) refl

pub drop-olds : (c : ℕ) (fs : List LabelledField) → drop c (old_fields_of fs) ≡ old_fields_of (drop c fs)
drop-olds zero fs = refl
drop-olds (suc c) [] = refl
drop-olds (suc c) (f ∷ fs) = drop-olds c fs

pub take-olds : (c : ℕ) (fs : List LabelledField) → take c (old_fields_of fs) ≡ old_fields_of (take c fs)
take-olds zero fs = refl
take-olds (suc c) [] = refl
take-olds (suc c) (f ∷ fs) = ap (λ olds. entry_part (field f) ∷ olds) (take-olds c fs)

-- a key of the new record

setting-held : (at c : ℕ) (key : List ℕ) (old : LoggedPart) (new : edits.Labelled) (olds : List (List ℕ × LoggedPart)) (ns : List Entry) → count_below key olds ≡ c → held_first key (drop c olds) ≡ Some old
    → logged_settings at olds ((key, new) ∷ ns) ≡ all_behind (to_entry (at + c) key) (old.edits new) ++ logged_settings (suc (at + c)) (drop 1 (drop c olds)) ns
setting-held at c key old new olds ns count held = rw (count, held) refl

setting-added : (at c : ℕ) (key : List ℕ) (new : edits.Labelled) (olds : List (List ℕ × LoggedPart)) (ns : List Entry) → count_below key olds ≡ c → held_first key (drop c olds) ≡ None
    → logged_settings at olds ((key, new) ∷ ns) ≡ at_turn (to_entry (at + c) key) (add new) ∷ logged_settings (suc (at + c)) (drop c olds) ns
setting-added at c key new olds ns count held = rw (count, held) refl

clearing-held : (at c : ℕ) (key : List ℕ) (old : LoggedPart) (new : edits.Labelled) (olds : List (List ℕ × LoggedPart)) (ns : List Entry) → count_below key olds ≡ c → held_first key (drop c olds) ≡ Some old
    → logged_cleared at olds ((key, new) ∷ ns) ≡ logged_cuts at (take c olds) ++ logged_cleared (suc at) (drop 1 (drop c olds)) ns
clearing-held at c key old new olds ns count held = rw (count, held) refl

clearing-added : (at c : ℕ) (key : List ℕ) (new : edits.Labelled) (olds : List (List ℕ × LoggedPart)) (ns : List Entry) → count_below key olds ≡ c → held_first key (drop c olds) ≡ None
    → logged_cleared at olds ((key, new) ∷ ns) ≡ logged_cuts at (take c olds) ++ logged_cleared (suc at) (drop c olds) ns
clearing-added at c key new olds ns count held = rw (count, held) refl

-- the first new key behind some, and how many old entries come before it
pub record KeyAt (fs ys : List LabelledField) (from i : ℕ) : Type 0 where
  pub new : LabelledField
  pub place : ℕ
  pub is : new ≡ get_or ys i new
  pub inside : i < length ys
  pub begins : from ≤ place
  pub counted : place ≡ from + count_below new.key (old_fields_of (drop from fs))

count-is : (fs ys : List LabelledField) (from i : ℕ) (k : KeyAt fs ys from i) → count_below k.new.key (old_fields_of (drop from fs)) ≡ k.place - from
count-is fs ys from i k = let e = k.counted in let h = k.begins in omega arith

rest-at : (fs ys : List LabelledField) (from i : ℕ) (k : KeyAt fs ys from i) → drop (k.place - from) (old_fields_of (drop from fs)) ≡ old_fields_of (drop k.place fs)
rest-at fs ys from i k =
    let h : from ≤ k.place = k.begins in
    let n : from + (k.place - from) ≡ k.place = omega arith in
    drop-olds (k.place - from) (drop from fs) ∙ ap old_fields_of (drop-drop (k.place - from) from fs ∙ ap (λ j. drop j fs) n)

first-key : (fs ys : List LabelledField) (from i : ℕ) (k : KeyAt fs ys from i) → fields (drop i ys) ≡ (k.new.key, labelled k.new.value) ∷ fields (drop (i + 1) ys)
first-key fs ys from i k = let e = k.is in let h = k.inside in rw (add-one, drop-cons ys i k.new, ← e, field-is k.new) refl

not-held : {A : Type 0} (o : Option A) → is_some o ≡ false → o ≡ None
not-held None e = refl
not-held (Some x) e = cc

one-further : (fs : List LabelledField) (place : ℕ) → drop 1 (old_fields_of (drop place fs)) ≡ old_fields_of (drop (place + 1) fs)
one-further fs place = drop-olds 1 (drop place fs) ∙ ap old_fields_of (drop-drop 1 place fs)

pub held-there : (fs : List LabelledField) (key : List ℕ) (place : ℕ) (f : LabelledField) → f ≡ get_or fs place f → place < length fs → is_some (held_first key (old_fields_of (drop place fs))) ≡ true
    → held_first key (old_fields_of (drop place fs)) ≡ Some (part_of (labelled f.value))
held-there fs key place f e h some = go (is_eq (slice_cmp nat_cmp f.key key)) refl where
  go : (b : Bool) → is_eq (slice_cmp nat_cmp f.key key) ≡ b → held_first key (old_fields_of (drop place fs)) ≡ Some (part_of (labelled f.value))
  go true is = held-from fs key place f e h ∙ rw is refl
  go false is = let none : held_first key (old_fields_of (drop place fs)) ≡ None = held-from fs key place f e h ∙ rw is refl in let b : false ≡ true = sym (ap is_some none) ∙ some in cc

pub settings-held : (fs ys : List LabelledField) (from i at : ℕ) (k : KeyAt fs ys from i) (f : LabelledField) → f ≡ get_or fs k.place f → k.place < length fs
    → is_some (held_first k.new.key (old_fields_of (drop k.place fs))) ≡ true
    → logged_settings at (old_fields_of (drop from fs)) (fields (drop i ys))
    ≡ all_behind (to_entry (at + (k.place - from)) k.new.key) (logged_between (labelled f.value) (labelled k.new.value)) ++ logged_settings ((at + (k.place - from)) + 1) (old_fields_of (drop (k.place + 1) fs)) (fields (drop (i + 1) ys))
settings-held fs ys from i at k f is inside some =
    let here : List logged.LoggedEdit = all_behind (to_entry (at + (k.place - from)) k.new.key) (logged_between (labelled f.value) (labelled k.new.value)) in
    let next : suc (at + (k.place - from)) ≡ (at + (k.place - from)) + 1 = omega arith in
    ap (logged_settings at (old_fields_of (drop from fs))) (first-key fs ys from i k)
    ∙ setting-held at (k.place - from) k.new.key (part_of (labelled f.value)) (labelled k.new.value) (old_fields_of (drop from fs)) (fields (drop (i + 1) ys)) (count-is fs ys from i k)
    (ap (held_first k.new.key) (rest-at fs ys from i k) ∙ held-there fs k.new.key k.place f is inside some)
    ∙ ap (λ olds. here ++ logged_settings (suc (at + (k.place - from))) olds (fields (drop (i + 1) ys))) (ap (drop 1) (rest-at fs ys from i k) ∙ one-further fs k.place)
    ∙ ap (λ n. here ++ logged_settings n (old_fields_of (drop (k.place + 1) fs)) (fields (drop (i + 1) ys))) next

pub settings-added : (fs ys : List LabelledField) (from i at : ℕ) (k : KeyAt fs ys from i) → is_some (held_first k.new.key (old_fields_of (drop k.place fs))) ≡ false
    → logged_settings at (old_fields_of (drop from fs)) (fields (drop i ys))
    ≡ at_turn (to_entry (at + (k.place - from)) k.new.key) (add (labelled k.new.value)) ∷ logged_settings ((at + (k.place - from)) + 1) (old_fields_of (drop k.place fs)) (fields (drop (i + 1) ys))
settings-added fs ys from i at k none =
    let here : logged.LoggedEdit = at_turn (to_entry (at + (k.place - from)) k.new.key) (add (labelled k.new.value)) in
    let next : suc (at + (k.place - from)) ≡ (at + (k.place - from)) + 1 = omega arith in
    ap (logged_settings at (old_fields_of (drop from fs))) (first-key fs ys from i k)
    ∙ setting-added at (k.place - from) k.new.key (labelled k.new.value) (old_fields_of (drop from fs)) (fields (drop (i + 1) ys)) (count-is fs ys from i k)
    (ap (held_first k.new.key) (rest-at fs ys from i k) ∙ not-held _ none)
    ∙ ap (λ olds. here ∷ logged_settings (suc (at + (k.place - from))) olds (fields (drop (i + 1) ys))) (rest-at fs ys from i k)
    ∙ ap (λ n. here ∷ logged_settings n (old_fields_of (drop k.place fs)) (fields (drop (i + 1) ys))) next

cleared-held : (fs ys : List LabelledField) (from i : ℕ) (k : KeyAt fs ys from i) (f : LabelledField) → f ≡ get_or fs k.place f → k.place < length fs
    → is_some (held_first k.new.key (old_fields_of (drop k.place fs))) ≡ true
    → logged_cleared i (old_fields_of (drop from fs)) (fields (drop i ys))
    ≡ logged_cuts i (old_fields_of (take (k.place - from) (drop from fs))) ++ logged_cleared (i + 1) (old_fields_of (drop (k.place + 1) fs)) (fields (drop (i + 1) ys))
cleared-held fs ys from i k f is inside some =
    let next : suc i ≡ i + 1 = omega arith in
    ap (logged_cleared i (old_fields_of (drop from fs))) (first-key fs ys from i k)
    ∙ clearing-held i (k.place - from) k.new.key (part_of (labelled f.value)) (labelled k.new.value) (old_fields_of (drop from fs)) (fields (drop (i + 1) ys)) (count-is fs ys from i k)
    (ap (held_first k.new.key) (rest-at fs ys from i k) ∙ held-there fs k.new.key k.place f is inside some)
    ∙ ap (λ olds. logged_cuts i olds ++ logged_cleared (suc i) (drop 1 (drop (k.place - from) (old_fields_of (drop from fs)))) (fields (drop (i + 1) ys))) (take-olds (k.place - from) (drop from fs))
    ∙ ap (λ olds. logged_cuts i (old_fields_of (take (k.place - from) (drop from fs))) ++ logged_cleared (suc i) olds (fields (drop (i + 1) ys))) (ap (drop 1) (rest-at fs ys from i k) ∙ one-further fs k.place)
    ∙ ap (λ n. logged_cuts i (old_fields_of (take (k.place - from) (drop from fs))) ++ logged_cleared n (old_fields_of (drop (k.place + 1) fs)) (fields (drop (i + 1) ys))) next

cleared-added : (fs ys : List LabelledField) (from i : ℕ) (k : KeyAt fs ys from i) → is_some (held_first k.new.key (old_fields_of (drop k.place fs))) ≡ false
    → logged_cleared i (old_fields_of (drop from fs)) (fields (drop i ys))
    ≡ logged_cuts i (old_fields_of (take (k.place - from) (drop from fs))) ++ logged_cleared (i + 1) (old_fields_of (drop k.place fs)) (fields (drop (i + 1) ys))
cleared-added fs ys from i k none =
    let next : suc i ≡ i + 1 = omega arith in
    ap (logged_cleared i (old_fields_of (drop from fs))) (first-key fs ys from i k)
    ∙ clearing-added i (k.place - from) k.new.key (labelled k.new.value) (old_fields_of (drop from fs)) (fields (drop (i + 1) ys)) (count-is fs ys from i k)
    (ap (held_first k.new.key) (rest-at fs ys from i k) ∙ not-held _ none)
    ∙ ap (λ olds. logged_cuts i olds ++ logged_cleared (suc i) (drop (k.place - from) (old_fields_of (drop from fs))) (fields (drop (i + 1) ys))) (take-olds (k.place - from) (drop from fs))
    ∙ ap (λ olds. logged_cuts i (old_fields_of (take (k.place - from) (drop from fs))) ++ logged_cleared (suc i) olds (fields (drop (i + 1) ys))) (rest-at fs ys from i k)
    ∙ ap (λ n. logged_cuts i (old_fields_of (take (k.place - from) (drop from fs))) ++ logged_cleared n (old_fields_of (drop k.place fs)) (fields (drop (i + 1) ys))) next

-- what is done then, and what is left then, are still all

-- the edits so far, and what they and those that are left are together
pub record SoFar (before left all : List logged.LoggedEdit) : Type 0 where
  pub is : before ++ left ≡ all

more-done : (before here left left2 all : List logged.LoggedEdit) → SoFar before left all → left ≡ here ++ left2 → (before ++ here) ++ left2 ≡ all
more-done before here left left2 all so e = append_assoc before here left2 ∙ ap (λ es. before ++ es) (sym e) ∙ so.is

pub set-held : (fs ys : List LabelledField) (from i at at1 at2 from2 : ℕ) (key : List ℕ) (k : KeyAt fs ys from i) (f : LabelledField) (before after inner all : List logged.LoggedEdit)
    → f ≡ get_or fs k.place f → k.place < length fs → is_some (held_first k.new.key (old_fields_of (drop k.place fs))) ≡ true
    → at1 ≡ at + (k.place - from) → at2 ≡ at1 + 1 → from2 ≡ k.place + 1 → key ≡ k.new.key → inner ≡ logged_between (labelled f.value) (labelled k.new.value)
    → after ≡ before ++ all_behind (to_entry at1 key) inner → SoFar before (logged_settings at (old_fields_of (drop from fs)) (fields (drop i ys))) all
    → after ++ logged_settings at2 (old_fields_of (drop from2 fs)) (fields (drop (i + 1) ys)) ≡ all
set-held fs ys from i at at1 at2 from2 key k f before after inner all is inside some e1 e2 e3 e4 e5 e6 so =
    rw (e6, e5, e4, e3, e2, e1) (more-done before _ _ _ all so (settings-held fs ys from i at k f is inside some))

pub set-added : (fs ys : List LabelledField) (from i at at1 at2 from2 : ℕ) (key : List ℕ) (k : KeyAt fs ys from i) (new : edits.Labelled) (before after all : List logged.LoggedEdit)
    → is_some (held_first k.new.key (old_fields_of (drop k.place fs))) ≡ false
    → at1 ≡ at + (k.place - from) → at2 ≡ at1 + 1 → from2 ≡ k.place → key ≡ k.new.key → new ≡ labelled k.new.value
    → after ≡ before ++ at_turn (to_entry at1 key) (add new) ∷ [] → SoFar before (logged_settings at (old_fields_of (drop from fs)) (fields (drop i ys))) all
    → after ++ logged_settings at2 (old_fields_of (drop from2 fs)) (fields (drop (i + 1) ys)) ≡ all
set-added fs ys from i at at1 at2 from2 key k new before after all none e1 e2 e3 e4 e5 e6 so =
    rw (e6, e5, e4, e3, e2, e1) (more-done before (at_turn (to_entry (at + (k.place - from)) k.new.key) (add (labelled k.new.value)) ∷ []) _ _ all so (settings-added fs ys from i at k none))

pub clear-held : (fs ys : List LabelledField) (from i from2 : ℕ) (k : KeyAt fs ys from i) (f : LabelledField) (before after all : List logged.LoggedEdit)
    → f ≡ get_or fs k.place f → k.place < length fs → is_some (held_first k.new.key (old_fields_of (drop k.place fs))) ≡ true
    → from2 ≡ k.place + 1 → after ≡ before ++ logged_cuts i (old_fields_of (take (k.place - from) (drop from fs))) → SoFar before (logged_cleared i (old_fields_of (drop from fs)) (fields (drop i ys))) all
    → after ++ logged_cleared (i + 1) (old_fields_of (drop from2 fs)) (fields (drop (i + 1) ys)) ≡ all
clear-held fs ys from i from2 k f before after all is inside some e3 e6 so =
    rw (e6, e3) (more-done before _ _ _ all so (cleared-held fs ys from i k f is inside some))

pub clear-added : (fs ys : List LabelledField) (from i from2 : ℕ) (k : KeyAt fs ys from i) (before after all : List logged.LoggedEdit)
    → is_some (held_first k.new.key (old_fields_of (drop k.place fs))) ≡ false
    → from2 ≡ k.place → after ≡ before ++ logged_cuts i (old_fields_of (take (k.place - from) (drop from fs))) → SoFar before (logged_cleared i (old_fields_of (drop from fs)) (fields (drop i ys))) all
    → after ++ logged_cleared (i + 1) (old_fields_of (drop from2 fs)) (fields (drop (i + 1) ys)) ≡ all
clear-added fs ys from i from2 k before after all none e3 e6 so =
    rw (e6, e3) (more-done before _ _ _ all so (cleared-added fs ys from i k none))

-- where an entry is held, one stands there
pub record EntryAt (fs : List LabelledField) (place : ℕ) : Type 0 where
  pub entry : LabelledField
  pub is : entry ≡ get_or fs place entry

pub entry-at : (fs : List LabelledField) (place : ℕ) → place < length fs → EntryAt fs place
entry-at [] place h = absurd (omega arith)
entry-at (f ∷ fs) zero h = record { entry = f; is = refl }
entry-at (f ∷ fs) (suc i) h = let there = entry-at fs i (omega arith) in record { entry = there.entry; is = there.is }
