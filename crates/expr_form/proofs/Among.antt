-- A text among some texts, looked for from the last one back.
use Rattle.std.proofs.Common.{◌≡◌, ℕ, ◌+◌, ◌<◌, List, ◌∷◌, length, get_or, drop, false, ◌||◌, ◌∙◌, ap, drop-cons, add-one}
use Rattle.std.specs.Str.{bytes_eq}
use Rattle.expr_form.specs.Scope.{is_among}

-- it isn't among one more that is another
pub among-back : (s : List ℕ) (names : List (List ℕ)) (i : ℕ) (t : List ℕ) → i < length names → t ≡ get_or names i t → bytes_eq s t ≡ false
    → is_among (drop (i + 1) names) s ≡ false → is_among (drop i names) s ≡ false
among-back s names i t within here other rest =
    let left : drop i names ≡ t ∷ drop (i + 1) names = rw (add-one, drop-cons names i t, ← here) in
    ap (λ ns. is_among ns s) left ∙ ap (λ b. b || is_among (drop (i + 1) names) s) other ∙ rest
