use Rattle.std.proofs.Common.{Bool, false, ◌∙◌, ◌≡◌, ℕ, ◌+◌, ◌-◌, ◌*◌, ◌<◌, true, length, get_or, take, List, Err, refl, sym, arith}
use Rattle.std.proofs.lemmas.Bool.{lt-leb}
use Rattle.std.proofs.lemmas.Grind.{common_steps}
use Rattle.std.proofs.lemmas.List.Folds.{list_all_at}
use Rattle.std.proofs.lemmas.Int.Digits.{digits_value_more}
use Rattle.std.proofs.lemmas.Str.Parse.{digits_value-take-le}
use Rattle.std.specs.Char.{is_ascii_digit}
use Rattle.std.specs.List.{list_all}
use Rattle.std.specs.Str.Parse.{digits_value}
use Rattle.http_front.specs.Head.{bounded_length}
use Rattle.http_front.proofs.fields.read_number.Goals as goal

true_unless : (b : Bool) → (b ≡ false → ⊥) → b ≡ true
true_unless true never = refl
true_unless false never = absurd (never refl)

digit_at : (digits : List ℕ) (i : ℕ) → i < length digits → list_all is_ascii_digit digits ≡ true → is_ascii_digit (get_or digits i 0) ≡ true
digit_at digits i inside all =
    true_unless (is_ascii_digit (get_or digits i 0)) (λ no. (let e : true ≡ false = sym all ∙ list_all_at is_ascii_digit digits i 0 inside no in cc))

-- one more digit
more_digits : (digits : List ℕ) (i d n : ℕ) → i < length digits → is_ascii_digit (get_or digits i 0) ≡ true
    → d ≡ get_or digits i 0 - 48 → n ≡ digits_value 10 (take i digits) → n * 10 + d ≡ digits_value 10 (take (i + 1) digits)
more_digits digits i d n inside is value read = grind (arith, common_steps, digits_value_more)

-- the first digits are too many already
too_large : (digits : List ℕ) (i n : ℕ) → n ≡ digits_value 10 (take i digits) → 262144 < n → Err 413 ≡ bounded_length (digits_value 10 digits)
too_large digits i n read large =
    let over : 262144 < digits_value 10 digits = omega (arith, digits_value-take-le 10 digits i) in
    rw (lt-leb (digits_value 10 digits) 262144 over) refl

pub returns-then-number-gt-MOST_BODY_BYTES-clause-length : goal.returns-then-number-gt-MOST_BODY_BYTES-clause-length
returns-then-number-gt-MOST_BODY_BYTES-clause-length c =
    too_large c.args.digits.now (c.loop-digit.digit-index + 1) (c.loop-digit.number * 10 + c.from.result)
    (more_digits c.args.digits.now c.loop-digit.digit-index c.from.result c.loop-digit.number c.loop-digit-test.true (digit_at c.args.digits.now c.loop-digit.digit-index c.loop-digit-test.true c.requires)
    c.from.ensures c.loop-digit.invariant.read) c.if-number-gt-MOST_BODY_BYTES.true

pub loop-digit-preserved : goal.loop-digit-preserved
loop-digit-preserved c = record {
  small = omega arith;
  read = more_digits c.args.digits.now c.loop-digit.digit-index c.from.result c.loop-digit.number c.loop-digit-test.true (digit_at c.args.digits.now c.loop-digit.digit-index c.loop-digit-test.true c.requires)
      c.from.ensures c.loop-digit.invariant.read;
}
