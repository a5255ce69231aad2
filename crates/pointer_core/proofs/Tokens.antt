-- No two paths are printed as one text.
use Rattle.std.proofs.Common.{◌≡◌, ℕ, List, [], ◌∷◌, ◌++◌, Bool, true, false, cond, eqb, refl, sym, ap, ◌∙◌, arith, append_assoc}
use Rattle.std.proofs.lemmas.Bool.Decides.{nat_tests}
use Rattle.std.proofs.lemmas.List.{append-nil}
use Rattle.std.specs.Prelude.{codes}
use Rattle.pointer_core.specs.Path.{Path, printed, escaped, escaped_byte}

-- the token of a `~` and of what was read behind it
abbrev unescaped : List ℕ → List ℕ
unescaped [] = []
unescaped (b ∷ bs) = cond (eqb b 48) 126 47 ∷ bs

-- what stands before the first `/`, read as a token, and the tokens behind
abbrev split : List ℕ → List ℕ × List (List ℕ)
split [] = ([], [])
split (b ∷ bs) = cond (eqb b 47) ([], (split bs).0 ∷ (split bs).1) (cond (eqb b 126) (unescaped (split bs).0, (split bs).1) (b ∷ (split bs).0, (split bs).1))

split_byte : (b : ℕ) (rest : List ℕ) → split (escaped_byte b ++ rest) ≡ (b ∷ (split rest).0, (split rest).1)
split_byte b rest =
    elim (eqb b 126) as (λ test. eqb b 126 ≡ test → split (cond test (codes "~0") (cond (eqb b 47) (codes "~1") (b ∷ [])) ++ rest) ≡ (b ∷ (split rest).0, (split rest).1)) [
      | true ↦ λ e. (let is : b ≡ 126 = grind (arith, nat_tests) in ap (λ x. (x ∷ (split rest).0, (split rest).1)) (sym is))
      | false ↦ λ e. elim (eqb b 47) as (λ test. eqb b 47 ≡ test → split (cond test (codes "~1") (b ∷ []) ++ rest) ≡ (b ∷ (split rest).0, (split rest).1)) [
        | true ↦ λ d. (let is : b ≡ 47 = grind (arith, nat_tests) in ap (λ x. (x ∷ (split rest).0, (split rest).1)) (sym is))
        | false ↦ λ d. rw (d, e) refl
      ] refl
    ] refl

split_escaped : (token rest : List ℕ) → split (escaped token ++ rest) ≡ (token ++ (split rest).0, (split rest).1)
split_escaped [] rest = refl
split_escaped (b ∷ bs) rest =
    let joined : (escaped_byte b ++ escaped bs) ++ rest ≡ escaped_byte b ++ (escaped bs ++ rest) = rw append_assoc refl in
    ap split joined ∙ split_byte b (escaped bs ++ rest) ∙ ap (λ parts. (b ∷ parts.0, parts.1)) (split_escaped bs rest)

split_printed : (path : Path) → split (printed path) ≡ ([], path)
split_printed [] = refl
split_printed (token ∷ tokens) =
    let parts = split_escaped token (printed tokens) ∙ ap (λ parts. (token ++ parts.0, parts.1)) (split_printed tokens) in
    ap (λ parts. ([], parts.0 ∷ parts.1)) parts ∙ ap (λ front. ([], front ∷ tokens)) (append-nil token)

pub same_path : (p q : Path) → printed p ≡ printed q → p ≡ q
same_path p q e = ap (λ parts. parts.1) (sym (split_printed p) ∙ ap split e ∙ split_printed q)
