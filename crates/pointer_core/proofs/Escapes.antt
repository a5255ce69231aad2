-- Which characters are escaped in a pointer's text: `~` and `/` alone.
use Rattle.std.proofs.Common.{◌≡◌, ◌≢◌, ℕ, ◌+◌, ◌/◌, ◌≤◌, List, [], ◌∷◌, ◌++◌, Bool, true, false, cond, refl, sym, ap, ◌∙◌, append_assoc, arith}
use Rattle.std.proofs.lemmas.Bool.{ne_eqb}
use Rattle.std.proofs.lemmas.Grind.{flat_map-append}
use lib.Dec.{ltb}
use lib.Utf8.{encode, next}
use Rattle.pointer_core.specs.Path.{escaped, escaped_byte}

byte_kept : (b : ℕ) (rest : List ℕ) → b ≢ 126 → b ≢ 47 → escaped (b ∷ rest) ≡ b ∷ escaped rest
byte_kept b rest tilde slash = rw (ne_eqb b 126 tilde, ne_eqb b 47 slash) refl

-- bytes past ASCII
AreHigh : List ℕ → Type 0
AreHigh [] = Unit {0}
AreHigh (b ∷ bs) = (128 ≤ b) × AreHigh bs

high_kept : (bs : List ℕ) → AreHigh bs → escaped bs ≡ bs
unfolding AreHigh
high_kept [] high = refl
high_kept (b ∷ bs) high = byte_kept b bs (λ e. omega (arith, high.0)) (λ e. omega (arith, high.0)) ∙ ap (λ ys. b ∷ ys) (high_kept bs high.1)

either_kept : (test : Bool) (xs ys : List ℕ) → escaped xs ≡ xs → escaped ys ≡ ys → escaped (cond test xs ys) ≡ cond test xs ys
either_kept true xs ys kept _ = kept
either_kept false xs ys _ kept = kept

two_high : (c : ℕ) → AreHigh ((192 + c / 64) ∷ next c ∷ [])
unfolding AreHigh
two_high c = (omega arith, (omega arith, tt))

three_high : (c : ℕ) → AreHigh ((224 + c / 4096) ∷ next (c / 64) ∷ next c ∷ [])
unfolding AreHigh
three_high c = (omega arith, (omega arith, (omega arith, tt)))

four_high : (c : ℕ) → AreHigh ((240 + c / 262144) ∷ next (c / 4096) ∷ next (c / 64) ∷ next c ∷ [])
unfolding AreHigh
four_high c = (omega arith, (omega arith, (omega arith, (omega arith, tt))))

-- a character that isn't escaped is written as it is
pub character_kept : (c : ℕ) → c ≢ 126 → c ≢ 47 → escaped (encode c) ≡ encode c
unfolding encode
character_kept c tilde slash =
    either_kept (ltb c 128) _ _ (byte_kept c [] tilde slash)
    (either_kept (ltb c 2048) _ _ (high_kept _ (two_high c))
    (either_kept (ltb c 65536) _ _ (high_kept _ (three_high c)) (high_kept _ (four_high c))))

-- a piece of the token moves from what is left to what is written
pub piece_written : (written piece rest left whole : List ℕ) → left ≡ piece ++ rest → written ++ escaped left ≡ whole → (written ++ escaped piece) ++ escaped rest ≡ whole
piece_written written piece rest left whole parts held =
    append_assoc written (escaped piece) (escaped rest)
    ∙ ap (λ bytes. written ++ bytes) (sym (flat_map-append escaped_byte piece rest) ∙ ap escaped (sym parts))
    ∙ held
