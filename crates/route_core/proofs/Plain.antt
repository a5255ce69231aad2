-- Paths of which each byte stands for itself, and what parameters take of them.
use Rattle.std.proofs.Common.{◌≡◌, ℕ, ◌-◌, List, [], ◌∷◌, Bool, true, false, ◌&&◌, cond, not, ◌==◌, take, drop, length, refl, subst, leb}
use Rattle.std.specs.Prelude.{nat_lt}
use Rattle.std.specs.Str.{IsAscii, IsUtf8}
use Rattle.std.proofs.lemmas.Bool.{ltb-true}
use Rattle.std.proofs.lemmas.List.Sums.{AllPass-from_list_all}
use Rattle.std.proofs.lemmas.Str.{IsUtf8-from_ascii, IsUtf8-nil, IsAscii-take, IsAscii-drop}
use Rattle.std.proofs.lemmas.Str.Ascii.{IsAscii-from_all}
use Rattle.matchit.specs.Params.{part_of, walk}
use Rattle.route_core.specs.Path.{is_plain_path}

first_holds : (a b : Bool) → a && b ≡ true → a ≡ true
first_holds true b e = refl
first_holds false b e = cc

pub plain_ascii : (path : List ℕ) → is_plain_path path ≡ true → IsAscii path
plain_ascii path plain =
    IsAscii-from_all path (λ k d inside. ltb-true _ 128 (first_holds _ _ (AllPass-from_list_all (λ (b : ℕ). nat_lt b 128 && not (b == 37)) path plain k d inside)))

pub plain_utf8 : (path : List ℕ) → is_plain_path path ≡ true → IsUtf8 path
plain_utf8 path plain = IsUtf8-from_ascii path (plain_ascii path plain)

either_utf8 : (fits : Bool) (part : List ℕ) → IsUtf8 part → IsUtf8 (cond fits part [])
either_utf8 true part u = u
either_utf8 false part u = IsUtf8-nil

part_utf8 : (path : List ℕ) (start end : ℕ) → IsAscii path → IsUtf8 (part_of path start end)
part_utf8 path start end ascii =
    either_utf8 (leb start end && leb end (length path)) (take (end - start) (drop start path))
    (IsUtf8-from_ascii (take (end - start) (drop start path)) (IsAscii-take (drop start path) (end - start) (IsAscii-drop path start ascii)))

head_utf8 : (one other : List ℕ × List ℕ) (rest others : List (List ℕ × List ℕ)) → one ∷ rest ≡ other ∷ others → IsUtf8 one.1 → IsUtf8 other.1
head_utf8 one other rest others is utf8 = (let same : one ≡ other = cc in subst (λ (p : List ℕ × List ℕ). IsUtf8 p.1) same utf8)

-- what the first parameter takes of such a path is text
pub first_utf8 : (pattern text path : List ℕ) (names : List (ℕ × ℕ)) (part : List ℕ × List ℕ) (rest : List (List ℕ × List ℕ))
    → is_plain_path path ≡ true → walk pattern text path names 0 0 ≡ part ∷ rest → IsUtf8 part.1
first_utf8 pattern text path [] part rest plain is = cc
first_utf8 pattern text path (name ∷ names) part rest plain is = head_utf8 _ part _ rest is (part_utf8 path _ _ (plain_ascii path plain))

second_holds : (one two other another : List ℕ × List ℕ) (rest others : List (List ℕ × List ℕ)) → one ∷ two ∷ rest ≡ other ∷ another ∷ others → IsUtf8 two.1 → IsUtf8 another.1
second_holds one two other another rest others is utf8 = (let same : two ≡ another = cc in subst (λ (p : List ℕ × List ℕ). IsUtf8 p.1) same utf8)

-- and so is what the second one takes
pub second_utf8 : (pattern text path : List ℕ) (names : List (ℕ × ℕ)) (first second : List ℕ × List ℕ) (rest : List (List ℕ × List ℕ))
    → is_plain_path path ≡ true → walk pattern text path names 0 0 ≡ first ∷ second ∷ rest → IsUtf8 second.1
second_utf8 pattern text path [] first second rest plain is = cc
second_utf8 pattern text path (name ∷ []) first second rest plain is = cc
second_utf8 pattern text path (name ∷ other ∷ names) first second rest plain is = second_holds _ _ first second _ rest is (part_utf8 path _ _ (plain_ascii path plain))
