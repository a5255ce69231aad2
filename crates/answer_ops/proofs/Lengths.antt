-- Lists of different lengths aren't equal.
use Rattle.std.proofs.Common.{◌≡◌, ℕ, suc, List, [], ◌∷◌, length, Bool, true, false, ◌&&◌, refl, ap}
use Rattle.snap_core.specs.View.{view, items_view}
use Rattle.snap_core.specs.declared.snap.Snap.{Snap}
use Rattle.eval_core.specs.Answer.{same_answer, same_answers, equals_value, equal_items}
use Rattle.answer_ops.specs.View.{answer_of, answers_of}
use Rattle.answer_ops.specs.declared.value.Value.{Value}

false-behind : (b c : Bool) → c ≡ false → (b && c) ≡ false
false-behind true c h = h
false-behind false c h = refl

pub same_answers-lengths : (xs ys : List Value) → (length xs ≡ length ys → ⊥) → same_answers (answers_of xs) (answers_of ys) ≡ false
same_answers-lengths [] [] h = absurd (h refl)
same_answers-lengths [] (y ∷ ys) h = refl
same_answers-lengths (x ∷ xs) [] h = refl
same_answers-lengths (x ∷ xs) (y ∷ ys) h = false-behind (same_answer (answer_of x) (answer_of y)) _ (same_answers-lengths xs ys (λ e. h (ap (λ n. suc n) e)))

pub equal_items-lengths : (xs : List Value) (ps : List Snap) → (length xs ≡ length ps → ⊥) → equal_items (answers_of xs) (items_view ps) ≡ false
equal_items-lengths [] [] h = absurd (h refl)
equal_items-lengths [] (p ∷ ps) h = refl
equal_items-lengths (x ∷ xs) [] h = refl
equal_items-lengths (x ∷ xs) (p ∷ ps) h = false-behind (equals_value (answer_of x) (view p)) _ (equal_items-lengths xs ps (λ e. h (ap (λ n. suc n) e)))
