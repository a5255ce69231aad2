-- The entries of a record that is made, with their answers.
use Rattle.std.specs.Prelude.{List, [], ◌∷◌, Result}
use Rattle.pointer_core.specs.declared.refusal.Rule.{Rule}
use Rattle.eval_core.specs.Scope.{Scope, at_site}
use Rattle.view_engine.specs.declared.halt.Halt.{Halt}
use Rattle.view_engine.specs.Halts.{Answers}
use Rattle.expr_syntax.specs.declared.expr.Entry.{Entry}
use Rattle.answer_ops.specs.View.{answer_of}
use Rattle.answer_ops.specs.declared.value.Value.{Value}
use Rattle.eval_core.specs.Making.{Made}

abbrev pub made_of : List Entry → List Value → List Made
made_of (m ∷ ms) (x ∷ xs) = (m.key, answer_of x) ∷ made_of ms xs
made_of ms xs = []

-- a call makes what an outcome says, or is refused by its rule where the body's refusals are told
abbrev pub MadeAs : {T A : Type 0} → Scope → (T → A) → Result T Halt → Result A Rule → Type 0
MadeAs s seen result outcome = Answers seen result (at_site s.here outcome)
