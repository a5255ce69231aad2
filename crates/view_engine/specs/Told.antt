-- What a call answers its caller, by an outcome: sites are told as paths.
use Rattle.std.specs.Prelude.{◌≡◌, ℕ, List, [], ◌∷◌, ◌++◌, Option, Some, None, Result, Ok, Err}
use Rattle.pointer_core.specs.Path.{Path}
use Rattle.pointer_core.specs.declared.refusal.Refusal.{Refusal}
use Rattle.expr_syntax.specs.declared.number.ViewNo.{ViewNo}
use Rattle.eval_core.specs.declared.site.Site.{Site}
use Rattle.eval_core.specs.Answer.{Answer}
use Rattle.eval_core.specs.Sight.{Sight}
use Rattle.eval_core.specs.Run.{Fault}
use Rattle.answer_ops.specs.View.{answer_of}
use Rattle.answer_ops.specs.declared.value.Value.{Value}
use Rattle.view_engine.specs.declared.halt.RunError.{RunError}
use Rattle.view_engine.specs.declared.halt.RunError.TheVariants.{Memory, Refused}

-- by what sites are told: what is seen, the names of views, and the path of the frame
pub record Telling : Type 0 where
  pub sight : Sight
  pub name_of : ViewNo → Option (List ℕ)
  pub frame : Path

abbrev pub token_of : Option (List ℕ) → Path
token_of (Some name) = name ∷ []
token_of None = []

-- a view is told at its node and its name, and a part at its node and its token
abbrev pub path_of : Telling → Site → Path
path_of t Site.Frame = t.frame
path_of t (Site.View n v) = t.sight.place n ++ token_of (t.name_of v)
path_of t (Site.Entry n token) = t.sight.place n ++ token ∷ []

abbrev pub refusal_of : Telling → Fault → Refusal
refusal_of t fault = record { path = path_of t fault.site; rule = fault.rule }

-- the answer is what the outcome says, unless memory ran out
abbrev pub Tells : Telling → Result Value RunError → Result Answer Fault → Type 0
Tells t (Ok value) outcome = outcome ≡ Ok (answer_of value)
Tells t (Err (Refused refusal)) outcome = (fault : Fault) × (outcome ≡ Err fault) × (refusal ≡ refusal_of t fault)
Tells t (Err Memory) outcome = Unit {0}
