-- What a value of a schema file says as the views of a model.
use Rattle.std.specs.Prelude.{ℕ, List, Bool}
use Rattle.snap_core.specs.Value.{Value}
use Rattle.expr_form.specs.Outcome.{Outcome, made, of_parts}
use Rattle.expr_form.specs.Texts.{fields_in}
use Rattle.expr_form.specs.Scope.{always_bound}
use Rattle.expr_form.specs.Models.{Lookup}
use Rattle.expr_form.specs.Expressions.{Names, expression_read}
use Rattle.model_syntax.specs.Shown.{ShownView}
use Rattle.behaviour_form.specs.Fields.{fields_read}
use Rattle.behaviour_form.specs.Named.{key_read, named}

-- a view: an expression under a name
abbrev pub view_read : Lookup → (List ℕ → Bool) → Names → List ℕ × Value → Outcome ShownView
view_read lookup taken names p = made (λ q. record { name = q.0; body = q.1 }) (named (key_read taken p.0) (expression_read lookup names p.1))

-- what stands under `views`: an object of them
abbrev pub views_read : Lookup → (List ℕ → Bool) → Value → Outcome (List ShownView)
views_read lookup taken v = of_parts (fields_in v) (fields_read (view_read lookup taken always_bound))
