-- The index of a number's decimal is the number, and a token that names an index is its decimal.
use Rattle.std.proofs.Common.{◌≡◌, ◌⊎◌, inl, inr, ℕ, zero, suc, ◌<◌, ◌^◌, List, [], ◌∷◌, length, get_or, Bool, true, false, cond, eqb, ltb, ◌&&◌, Option, Some, None, IfSome, Result, Ok, Err, decimal, refl, sym, ap, ◌∙◌, arith}
use Rattle.std.proofs.lemmas.Bool.Decides.{nat_tests}
use Rattle.std.proofs.lemmas.Fmt.{digits_decimal, digits_value-decimal, decimal-digits_value, decimal_nonempty, first_decimal, decimal_digit}
use Rattle.std.proofs.lemmas.Str.Parse.{IsNumeralModel, parse_digits, numerals_by_value, tells_all_ascii_digits}
use Rattle.std.specs.Char.{is_ascii_digit}
use Rattle.std.specs.List.{list_all}
use Rattle.std.specs.Str.{all_ascii_digits}
use Rattle.std.specs.Result.{OkIff, result_ok}
use Rattle.std.specs.Str.Parse.{digits_value, ParsesUnsigned}
use Rattle.pointer_core.specs.Index.{is_numeral, index_of}

pub digits : IsNumeralModel (λ ds. all_ascii_digits ds ≡ true) (digits_value 10)
digits = numerals_by_value _ tells_all_ascii_digits

same_digits : (ds : List ℕ) → list_all is_ascii_digit ds ≡ all_ascii_digits ds
same_digits [] = refl
same_digits (d ∷ ds) = ap (λ rest. is_ascii_digit d && rest) (same_digits ds)

parts_of : (d : ℕ) (ds : List ℕ) (zero_first : Bool) → eqb d 48 ≡ zero_first → cond zero_first (eqb (length ds) 0) (list_all is_ascii_digit (d ∷ ds)) ≡ true → (all_ascii_digits (d ∷ ds) ≡ true) × (d ≡ 48 → length (d ∷ ds) ≡ 1)
parts_of d [] true z e = (let is : d ≡ 48 = grind (arith, nat_tests) in ap (λ x. is_ascii_digit x && true) is, λ _. refl)
parts_of d (f ∷ ds) true z e = absurd (grind (arith, nat_tests))
parts_of d ds false z e = (sym (same_digits (d ∷ ds)) ∙ e, λ is. absurd (grind (arith, nat_tests)))

numeral_of : (d : ℕ) (ds : List ℕ) (zero_first : Bool) → eqb d 48 ≡ zero_first → all_ascii_digits (d ∷ ds) ≡ true → (d ≡ 48 → length (d ∷ ds) ≡ 1) → cond zero_first (eqb (length ds) 0) (list_all is_ascii_digit (d ∷ ds)) ≡ true
numeral_of d [] true z all single = refl
numeral_of d (f ∷ ds) true z all single =
    let is : d ≡ 48 = grind (arith, nat_tests) in
    absurd (omega (arith, single is))
numeral_of d ds false z all single = same_digits (d ∷ ds) ∙ all

-- a numeral's parts
pub numeral_parts : (token : List ℕ) → is_numeral token ≡ true → (all_ascii_digits token ≡ true) × (0 < length token) × (get_or token 0 0 ≡ 48 → length token ≡ 1)
numeral_parts [] e = absurd (cc)
numeral_parts (d ∷ ds) e =
    let parts = parts_of d ds (eqb d 48) refl e in (parts.0, omega arith, parts.1)

pub numeral_from_digits : (token : List ℕ) → all_ascii_digits token ≡ true → 0 < length token → (get_or token 0 0 ≡ 48 → length token ≡ 1) → is_numeral token ≡ true
numeral_from_digits [] _ below _ = absurd (omega arith)
numeral_from_digits (d ∷ ds) all below single = numeral_of d ds (eqb d 48) refl all single

index_parts : (numeral below : Bool) (value index : ℕ) → cond (numeral && below) (Some value) None ≡ Some index → (numeral ≡ true) × (below ≡ true) × (value ≡ index)
index_parts true true value index e = (refl, refl, cc)
index_parts true false value index e = absurd (cc)
index_parts false below value index e = absurd (cc)

below_limit : (value : ℕ) → ltb value 4294967296 ≡ true → value < 2 ^ 64
below_limit value e = grind (arith, nat_tests)

limit : (value : ℕ) → value < 4294967296 → ltb value 4294967296 ≡ true
limit value below = grind (arith, nat_tests)

not_below : (value : ℕ) → (value < 4294967296 → ⊥) → ltb value 4294967296 ≡ false
not_below value h = grind (arith, nat_tests)

pub decimal_of_index : (token : List ℕ) (index : ℕ) → index_of token ≡ Some index → token ≡ decimal index
decimal_of_index token index e =
    let parts = index_parts (is_numeral token) (ltb (digits_value 10 token) 4294967296) (digits_value 10 token) index e in
    let numeral = numeral_parts token parts.0 in
    let small : digits_value 10 token < 2 ^ 64 = below_limit (digits_value 10 token) parts.1 in
    sym (decimal-digits_value digits token numeral.0 numeral.1 numeral.2 small) ∙ ap decimal parts.2

zero_or_more : (index : ℕ) → (index ≡ 0) ⊎ (0 < index)
zero_or_more zero = inl refl
zero_or_more (suc n) = inr (omega arith)

single_zero : (index : ℕ) → index < 2 ^ 64 → get_or (decimal index) 0 0 ≡ 48 → length (decimal index) ≡ 1
single_zero index fits first =
    elim (zero_or_more index) as (λ _. length (decimal index) ≡ 1) [
      | inl is ↦ ap (λ n. length (decimal n)) is ∙ ap length (decimal_digit 0 (omega arith))
      | inr more ↦ absurd (omega (arith, first_decimal index more fits))
    ]

pub index_of_decimal : (index : ℕ) → index < 2 ^ 32 → index_of (decimal index) ≡ Some index
index_of_decimal index below =
    let fits : index < 2 ^ 64 = omega arith in
    let value : digits_value 10 (decimal index) ≡ index = digits_value-decimal digits index fits in
    let numeral : is_numeral (decimal index) ≡ true = numeral_from_digits (decimal index) (digits_decimal digits index fits) (decimal_nonempty index fits) (single_zero index fits) in
    rw (numeral, value, limit index below) refl

-- what calls answer
by_result : {E : Type 0} (r : Result ℕ E) (value : ℕ) (held : Type 0) → held → OkIff r (held × (value < 4294967296)) value → result_ok r ≡ cond (ltb value 4294967296) (Some value) None
by_result (Ok x) value held h given = rw (limit value given.0.1) (ap Some given.1)
by_result (Err e) value held h none = rw (not_below value (λ below. none (h, below))) refl

pub parsed : {E : Type 0} (token : List ℕ) (r : Result ℕ E) → ParsesUnsigned 32 10 token r → is_numeral token ≡ true → result_ok r ≡ index_of token
parsed token r h numeral =
    let parts = numeral_parts token numeral in
    by_result r (digits_value 10 token) (0 < length token) parts.1 (parse_digits digits 32 token r h parts.0) ∙ sym (rw numeral refl)

pub spelled_of : (token : List ℕ) (r : Option ℕ) → r ≡ index_of token → IfSome r (λ index. token ≡ decimal index)
spelled_of token None is = tt
spelled_of token (Some index) is = decimal_of_index token index (sym is)

pub read_of : (token : List ℕ) (r : Option ℕ) → r ≡ index_of token → (index : ℕ) → index < 2 ^ 32 → token ≡ decimal index → r ≡ Some index
read_of token r is index below spelled = is ∙ ap index_of spelled ∙ index_of_decimal index below
