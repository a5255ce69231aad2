-- One of several answers by its index, and how many there are.
use Rattle.std.proofs.Common.{◌≡◌, ℕ, zero, suc, List, [], ◌∷◌, length, Option, Some, None, option_map, refl, sym, ◌∙◌, ap}
use Rattle.std.specs.Prelude.{slice_get}
use Rattle.eval_core.specs.Answer.{answer_at, how_many}
use Rattle.answer_ops.specs.View.{answer_of, answers_of}
use Rattle.answer_ops.specs.declared.value.Value.{Value}

pub answer_at-answers : (n : ℕ) (vs : List Value) → answer_at n (answers_of vs) ≡ option_map answer_of (slice_get vs n)
answer_at-answers n [] = refl
answer_at-answers zero (v ∷ vs) = refl
answer_at-answers (suc n) (v ∷ vs) = answer_at-answers n vs

pub how_many-answers : (vs : List Value) → how_many (answers_of vs) ≡ length vs
how_many-answers [] = refl
how_many-answers (v ∷ vs) = ap suc (how_many-answers vs)
