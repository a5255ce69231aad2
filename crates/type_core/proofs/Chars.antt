-- How many characters a text has.
use Rattle.std.proofs.Common.{◌≡◌, ℕ, ◌+◌, ◌/◌, ◌<◌, ◌≤◌, Bool, true, false, List, [], ◌∷◌, ◌++◌, length, IsUtf8, refl, sym, ap, ◌∙◌, arith}
use Rattle.std.specs.Fmt.{char_count, is_char_start}
use Rattle.std.specs.Str.{chars}
use Rattle.std.proofs.Math.Utf8.{encode, encodes}
use Rattle.std.proofs.lemmas.Bool.Decides.{nat_tests}
use Rattle.std.proofs.lemmas.Str.{encodes-chars}
use lib.Dec.{ltb}
use lib.Utf8 as utf

starts : (b : ℕ) → 192 ≤ b → is_char_start b ≡ true
starts b h = grind (arith, nat_tests)

starts_low : (b : ℕ) → b < 128 → is_char_start b ≡ true
starts_low b h = grind (arith, nat_tests)

inside : (n : ℕ) → is_char_start (utf.next n) ≡ false
inside n = let b : utf.next n < 192 = omega arith in let c : 128 ≤ utf.next n = omega arith in grind (arith, nat_tests)

-- the bytes that follow in a character count nothing
count_one : (b : ℕ) (text : List ℕ) → is_char_start b ≡ true → char_count (b ∷ text) ≡ 1 + char_count text
unfolding char_count
count_one b text h = rw h refl

count_none : (b : ℕ) (text : List ℕ) → is_char_start b ≡ false → char_count (b ∷ text) ≡ char_count text
unfolding char_count
count_none b text h = rw h (omega arith)

count-nil : char_count [] ≡ 0
unfolding char_count
count-nil = refl

char_count-append : (xs ys : List ℕ) → char_count (xs ++ ys) ≡ char_count xs + char_count ys
unfolding char_count
char_count-append [] ys = omega arith
char_count-append (b ∷ xs) ys = omega (arith, char_count-append xs ys)

by_length : (c : ℕ) (a b d : Bool) → ltb c 128 ≡ a → ltb c 2048 ≡ b → ltb c 65536 ≡ d → char_count (encode c) ≡ 1
unfolding encode
by_length c true b d e f g = rw e (count_one c [] (starts_low c (grind (arith, nat_tests))) ∙ ap (λ n. 1 + n) count-nil)
by_length c false true d e f g =
    let last : List ℕ = utf.next c ∷ [] in
    rw (e, f) (count_one (192 + c / 64) last (starts (192 + c / 64) (omega arith)) ∙ ap (λ n. 1 + n) (count_none _ _ (inside c) ∙ count-nil))
by_length c false false true e f g =
    let last : List ℕ = utf.next c ∷ [] in
    rw (e, f, g) (count_one (224 + c / 4096) (utf.next (c / 64) ∷ last) (starts (224 + c / 4096) (omega arith)) ∙ ap (λ n. 1 + n) (count_none _ last (inside (c / 64)) ∙ count_none _ _ (inside c) ∙ count-nil))
by_length c false false false e f g =
    let last : List ℕ = utf.next c ∷ [] in
    let rest : List ℕ = utf.next (c / 64) ∷ last in
    rw (e, f, g) (count_one (240 + c / 262144) (utf.next (c / 4096) ∷ rest) (starts (240 + c / 262144) (omega arith)) ∙ ap (λ n. 1 + n) (count_none _ rest (inside (c / 4096)) ∙ count_none _ last (inside (c / 64)) ∙ count_none _ _ (inside c) ∙ count-nil))

char_count-encode : (c : ℕ) → char_count (encode c) ≡ 1
char_count-encode c = by_length c (ltb c 128) (ltb c 2048) (ltb c 65536) refl refl refl

char_count-encodes : (cs : List ℕ) → char_count (encodes cs) ≡ length cs
char_count-encodes [] = count-nil
char_count-encodes (c ∷ cs) = omega (arith, char_count-append (encode c) (encodes cs), char_count-encode c, char_count-encodes cs)

-- the characters of a text are as many as it is counted to have
pub char_count-chars : (bs : List ℕ) → IsUtf8 bs → length (chars bs) ≡ char_count bs
char_count-chars bs u = sym (char_count-encodes (chars bs)) ∙ ap char_count (encodes-chars bs u)
