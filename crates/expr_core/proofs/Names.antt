-- What a search by halves among ascending names finds.
use Rattle.std.proofs.Common.{◌≡◌, ℕ, zero, suc, ◌+◌, ◌<◌, List, [], ◌∷◌, length, get_or, map, Bool, cond, not, Some, None, Result, Ok, Err, slice_get, true, false, refl, sym, ◌∙◌, ap, inl, inr, arith, add-one, rules, tests}
use Rattle.std.specs.List.{position, position_or_len}
use Rattle.std.specs.List.Sorted.{IsBinarySearchResult, IsSearchInRange, IsNonDecreasingBy}
use Rattle.std.specs.Option.{option_map}
use Rattle.std.specs.Result.{result_ok}
use Rattle.std.specs.Str.{bytes_eq}
use Rattle.std.specs.declared.cmp.Ordering.TheVariants.{Less, Equal, Greater}
use Rattle.std.specs.Ordering.{is_lt, ordering_index, ordering_reverse}
use Rattle.std.proofs.lemmas.Bool.{cases_lt}
use Rattle.std.proofs.lemmas.Cmp.{nat_list_cmp_total}
use Rattle.std.proofs.lemmas.List.{length-map}
use Rattle.std.proofs.lemmas.List.Quantifiers.{position-Some}
use Rattle.std.proofs.lemmas.List.Sorted.{searchable_from_sorted}
use Rattle.std.proofs.lemmas.List.Sums.{position_or_len_is}
use Rattle.std.proofs.lemmas.Option.{slice_get-get_or}
use Rattle.std.proofs.lemmas.Slice.Eq.{bytes_eq-Decides}
use Rattle.snap_core.specs.Value.{ComesBefore, AreAscending}
use Rattle.snap_core.proofs.Finding.{key_cmp, bytes_eq-Equal, bytes_eq-Less, bytes_eq-unequal}

-- a name that comes before the first comes before each
below_all : {A : Type 0} (name_of : A → List ℕ) (name : List ℕ) (xs : List A) (at : ℕ) (d : A) → ComesBefore name (map name_of xs) → AreAscending (map name_of xs)
    → at < length xs → key_cmp name (name_of (get_or xs at d)) ≡ Less
below_all name_of name [] at d before up within = absurd (omega arith)
below_all name_of name (x ∷ xs) zero d before up within = before
below_all name_of name (x ∷ xs) (suc at) d before up within =
    nat_list_cmp_total.trans name (name_of x) (name_of (get_or xs at d)) before (below_all name_of (name_of x) xs at d up.0 up.1 (omega arith))

-- of two parts the earlier one has the lesser name
earlier : {A : Type 0} (name_of : A → List ℕ) (xs : List A) (i j : ℕ) (d : A) → AreAscending (map name_of xs) → i < j → j < length xs
    → key_cmp (name_of (get_or xs i d)) (name_of (get_or xs j d)) ≡ Less
earlier name_of [] i j d up low within = absurd (omega arith)
earlier name_of (x ∷ xs) i zero d up low within = absurd (omega arith)
earlier name_of (x ∷ xs) zero (suc j) d up low within = below_all name_of (name_of x) xs j d up.0 up.1 (omega arith)
earlier name_of (x ∷ xs) (suc i) (suc j) d up low within = earlier name_of xs i j d up.1 (omega arith) (omega arith)

rising : {A : Type 0} (name_of : A → List ℕ) (xs : List A) (k : ℕ) (d : A) → AreAscending (map name_of xs) → suc k < length xs
    → is_lt (key_cmp (name_of (get_or xs (suc k) d)) (name_of (get_or xs k d))) ≡ false
rising name_of xs k d up within =
    ap is_lt (nat_list_cmp_total.antisymm (name_of (get_or xs (suc k) d)) (name_of (get_or xs k d)) ∙ ap ordering_reverse (earlier name_of xs k (suc k) d up (omega arith) within))

searchable : {A : Type 0} (name_of : A → List ℕ) (name : List ℕ) (xs : List A) → AreAscending (map name_of xs)
    → IsNonDecreasingBy (λ (x : A). ordering_index (key_cmp (name_of x) name)) xs
searchable name_of name xs up = searchable_from_sorted nat_list_cmp_total name_of xs name (λ k d low high. rw add-one (rising name_of xs k d up (omega arith)))

-- before the part with the name no part has it
not_before : {A : Type 0} (name_of : A → List ℕ) (name : List ℕ) (xs : List A) (k at : ℕ) (d : A) → AreAscending (map name_of xs) → k < at → at < length xs
    → key_cmp (name_of (get_or xs at d)) name ≡ Equal → bytes_eq name (name_of (get_or xs k d)) ≡ false
not_before name_of name xs k at d up low within same =
    let this = name_of (get_or xs k d) in
    let that = name_of (get_or xs at d) in
    let less : key_cmp this name ≡ Less =
    nat_list_cmp_total.antisymm this name ∙ ap ordering_reverse (sym (nat_list_cmp_total.congr that name this same) ∙ nat_list_cmp_total.antisymm that this ∙ ap ordering_reverse (earlier name_of xs k at d up low within)) in
    bytes_eq-Less name this less

position-at : {A : Type 0} (p : A → Bool) (xs : List A) (at : ℕ) (d : A) → at < length xs → ((k : ℕ) → k < at → p (get_or xs k d) ≡ false) → p (get_or xs at d) ≡ true
    → position p xs ≡ Some at
position-at p xs at d within before here =
    let is : position_or_len p xs ≡ at = position_or_len_is p xs at d (omega arith) before (λ _. here) in
    rw is (search (rules, tests))

position-nowhere : {A : Type 0} (p : A → Bool) (xs : List A) (d : A) → ((k : ℕ) → k < length xs → p (get_or xs k d) ≡ false) → position p xs ≡ None
position-nowhere p xs d none =
    let is : position_or_len p xs ≡ length xs = position_or_len_is p xs (length xs) d (omega arith) none (λ inside. absurd (omega arith)) in
    rw is (search (rules, tests))

-- a search answers the first part with the name, and none where no part has it
pub searched : {A : Type 0} (name_of : A → List ℕ) (name : List ℕ) (xs : List A) (r : Result ℕ ℕ) → AreAscending (map name_of xs) → IsSearchInRange r (length xs)
    → IsBinarySearchResult (λ (x : A). key_cmp (name_of x) name) xs r → result_ok r ≡ position (λ x. bytes_eq name (name_of x)) xs
searched name_of name [] (Ok at) up within found = absurd (omega arith)
searched name_of name (x ∷ xs) (Ok at) up within found =
    sym (position-at (λ y. bytes_eq name (name_of y)) (x ∷ xs) at x within (λ k low. not_before name_of name (x ∷ xs) k at x up low within (found x))
    (bytes_eq-Equal name (name_of (get_or (x ∷ xs) at x)) (found x)))
searched name_of name [] (Err at) up within parted = refl
searched name_of name (x ∷ xs) (Err at) up within parted =
    let halves = parted (searchable name_of name (x ∷ xs) up) in
    sym (position-nowhere (λ y. bytes_eq name (name_of y)) (x ∷ xs) x (λ k inside. bytes_eq-unequal name (name_of (get_or (x ∷ xs) k x)) (λ equal. elim (cases_lt k at) [
      | inl low ↦ let less : key_cmp (name_of (get_or (x ∷ xs) k x)) name ≡ Less = halves.0 k x (omega arith) low in cc
      | inr high ↦ let greater : key_cmp (name_of (get_or (x ∷ xs) k x)) name ≡ Greater = halves.1 k x high inside in cc
    ])))

-- where a part is found, it is one of these, and has the name
pub found_name : {A : Type 0} (name_of : A → List ℕ) (name : List ℕ) (xs : List A) (at : ℕ) → position (λ x. bytes_eq name (name_of x)) xs ≡ Some at
    → (at < length xs) × (option_map name_of (slice_get xs at) ≡ Some name)
found_name name_of name [] at h = cc
found_name name_of name (x ∷ xs) at h =
    let facts = position-Some (λ y. bytes_eq name (name_of y)) (x ∷ xs) at x h in
    let same : name ≡ name_of (get_or (x ∷ xs) at x) = (bytes_eq-Decides name (name_of (get_or (x ∷ xs) at x))).0 facts.1 in
    (facts.0, ap (option_map name_of) (slice_get-get_or (x ∷ xs) at x facts.0) ∙ ap Some (sym same))

position_or_len-map : {A B : Type 0} (p : B → Bool) (f : A → B) (xs : List A) → position_or_len p (map f xs) ≡ position_or_len (λ x. p (f x)) xs
position_or_len-map p f [] = refl
position_or_len-map p f (x ∷ xs) = ap (λ n. cond (not (p (f x))) (1 + n) 0) (position_or_len-map p f xs)

-- a part stands where it stood once each part is shown otherwise
pub position-map : {A B : Type 0} (p : B → Bool) (f : A → B) (xs : List A) → position p (map f xs) ≡ position (λ x. p (f x)) xs
position-map p f xs = rw (position_or_len-map p f xs, length-map xs f) refl
