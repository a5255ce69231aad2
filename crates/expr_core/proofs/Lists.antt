-- Items of lists that are joined, mapped or longer.
use Rattle.std.proofs.Common.{◌≡◌, ℕ, zero, suc, ◌+◌, ◌<◌, List, [], ◌∷◌, ◌++◌, length, get_or, map, take, All, Some, None, slice_get, refl, sym, ◌∙◌, ap, subst, arith}
use Rattle.std.proofs.lemmas.List.{length-append}
use Rattle.std.proofs.lemmas.Option.{none-some, same_Some, get_or_from_slice_get, slice_get_within}
use Rattle.expr_core.specs.Numbers.{joined, parts_of}

pub slice_get-append_left : {A : Type 0} (xs ys : List A) (i : ℕ) → i < length xs → slice_get (xs ++ ys) i ≡ slice_get xs i
slice_get-append_left [] ys i within = absurd (omega arith)
slice_get-append_left (x ∷ xs) ys zero within = refl
slice_get-append_left (x ∷ xs) ys (suc i) within = slice_get-append_left xs ys i (omega arith)

pub slice_get-append_right : {A : Type 0} (xs ys : List A) (i n : ℕ) → n ≡ length xs + i → slice_get (xs ++ ys) n ≡ slice_get ys i
slice_get-append_right [] ys i n is = ap (slice_get ys) (omega arith)
slice_get-append_right (x ∷ xs) ys i zero is = absurd (omega arith)
slice_get-append_right (x ∷ xs) ys i (suc n) is = slice_get-append_right xs ys i n (omega arith)

-- a part of a model is, of all parts, behind those of the models before
pub slice_get-joined : {A : Type 0} (lists : List (List A)) (m at : ℕ) → at < length (parts_of lists m)
    → slice_get (joined lists) (length (joined (take m lists)) + at) ≡ slice_get (parts_of lists m) at
slice_get-joined [] m at within = absurd (omega arith)
slice_get-joined (l ∷ lists) zero at within =
    let none_before : 0 + at ≡ at = omega arith in
    ap (slice_get (l ++ joined lists)) none_before ∙ slice_get-append_left l (joined lists) at within
slice_get-joined (l ∷ lists) (suc m) at within =
    slice_get-append_right l (joined lists) (length (joined (take m lists)) + at) (length (l ++ joined (take m lists)) + at)
    (omega (arith, length-append l (joined (take m lists)))) ∙ slice_get-joined lists m at within

-- the parts of a model stay where models are added
pub parts_of-more : {A : Type 0} (lists more : List (List A)) (m at : ℕ) (x : A) → slice_get (parts_of lists m) at ≡ Some x
    → slice_get (parts_of (lists ++ more) m) at ≡ Some x
parts_of-more [] more m at x h = absurd (none-some x h)
parts_of-more (l ∷ lists) more zero at x h = h
parts_of-more (l ∷ lists) more (suc m) at x h = parts_of-more lists more m at x h

pub parts_of-last : {A : Type 0} (lists : List (List A)) (l : List A) → parts_of (lists ++ l ∷ []) (length lists) ≡ l
parts_of-last [] l = refl
parts_of-last (k ∷ lists) l = parts_of-last lists l

-- there is a model where a part of it is
pub model_of_part : {A : Type 0} (lists : List (List A)) (m at : ℕ) → at < length (parts_of lists m) → m < length lists
model_of_part [] m at within = absurd (omega arith)
model_of_part (l ∷ lists) zero at within = omega arith
model_of_part (l ∷ lists) (suc m) at within = let inner : m < length lists = model_of_part lists m at within in omega arith

pub parts_of-some : {A B : Type 0} (parts : B → List A) (bs : List B) (m : ℕ) (b : B) → slice_get bs m ≡ Some b → parts_of (map parts bs) m ≡ parts b
parts_of-some parts [] m b h = absurd (none-some b h)
parts_of-some parts (c ∷ bs) zero b h = ap parts (same_Some c b h)
parts_of-some parts (c ∷ bs) (suc m) b h = parts_of-some parts bs m b h

pub parts_of-none : {A B : Type 0} (parts : B → List A) (bs : List B) (m : ℕ) → slice_get bs m ≡ None → parts_of (map parts bs) m ≡ []
parts_of-none parts [] m h = refl
parts_of-none parts (c ∷ bs) zero h = absurd (none-some c (sym h))
parts_of-none parts (c ∷ bs) (suc m) h = parts_of-none parts bs m h

-- what stands at a place stands in the item that the model's number leads to
pub part_in : {A B : Type 0} (parts : B → List A) (bs : List B) (m at : ℕ) (x : A) (d : B) → slice_get (parts_of (map parts bs) m) at ≡ Some x
    → (m < length bs) × (slice_get (parts (get_or bs m d)) at ≡ Some x)
part_in parts [] m at x d h = absurd (none-some x h)
part_in parts (b ∷ bs) zero at x d h = (omega arith, h)
part_in parts (b ∷ bs) (suc m) at x d h = let inner = part_in parts bs m at x d h in (omega (arith, inner.0), inner.1)

pub map-map : {A B C : Type 0} (f : B → C) (g : A → B) (xs : List A) → map f (map g xs) ≡ map (λ x. f (g x)) xs
map-map f g [] = refl
map-map f g (x ∷ xs) = ap (λ ys. f (g x) ∷ ys) (map-map f g xs)

pub All-at : {A : Type 0} (P : A → Type 0) (xs : List A) (i : ℕ) (x : A) → All P xs → slice_get xs i ≡ Some x → P x
All-at P xs i x all h = subst P (get_or_from_slice_get xs i x x h) (all i x (slice_get_within xs i x h))

pub map-Some-more : {A : Type 0} (xs : List A) (k : ℕ) → k < length xs → map Some (take (suc k) xs) ≡ map Some (take k xs) ++ slice_get xs k ∷ []
map-Some-more [] k within = absurd (omega arith)
map-Some-more (x ∷ xs) zero within = refl
map-Some-more (x ∷ xs) (suc k) within = ap (λ ys. Some x ∷ ys) (map-Some-more xs k (omega arith))

pub slice_get_some : {A : Type 0} (xs : List A) (i : ℕ) → i < length xs → (x : A) × (slice_get xs i ≡ Some x)
slice_get_some [] i within = absurd (omega arith)
slice_get_some (x ∷ xs) zero within = (x, refl)
slice_get_some (x ∷ xs) (suc i) within = slice_get_some xs i (omega arith)
