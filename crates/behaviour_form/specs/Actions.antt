-- What a value of a schema file says as the body of an action.
use Rattle.std.specs.Prelude.{Option, Some, None, option_and_then}
use Rattle.std.specs.Option.{option_map}
use Rattle.snap_core.specs.Value.{Value, no_parts, part, Items}
use Rattle.expr_syntax.specs.Syntax.{Statements}
use Rattle.expr_form.specs.Outcome.{Outcome}
use Rattle.expr_form.specs.Texts.{pair_in, items_in}
use Rattle.expr_form.specs.Scope.{always_bound}
use Rattle.expr_form.specs.Models.{Lookup}
use Rattle.expr_form.specs.Expressions.{Names}
use Rattle.expr_form.specs.Statements.{bound_if, body_read}

-- a parameter binds its name; what isn't a list of two binds nothing
abbrev pub param_bound : Names → Value → Names
param_bound names v = bound_if names (option_map (λ p. p.0) (pair_in v))

abbrev pub params_bound : Names → Items → Names
params_bound names no_parts = names
params_bound names (part v ps) = params_bound (param_bound names v) ps

abbrev pub all_bound : Option Items → Names
all_bound (Some ps) = params_bound always_bound ps
all_bound None = always_bound

-- the names that are bound where an action begins, by what stands under its `params`
abbrev pub names_bound : Option Value → Names
names_bound params = all_bound (option_and_then items_in params)

-- a body, by what stands under `params` beside it
abbrev pub action_body_read : Lookup → Option Value → Value → Outcome Statements
action_body_read lookup params v = body_read lookup (names_bound params) v
