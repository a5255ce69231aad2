-- What holds of expressions and statements that are read.
use Rattle.std.specs.Prelude.{◌≡◌}
use Rattle.snap_core.specs.Value.{Value, IsOrdered}
use Rattle.expr_syntax.specs.Syntax.{Expression, Statements}
use Rattle.expr_form.specs.Outcome.{reads}
use Rattle.expr_form.specs.Models.{Lookup}
use Rattle.expr_form.specs.Expressions.{Names, expression_read}
use Rattle.expr_form.specs.Statements.{body_read}
use Rattle.plain_answers.specs.Plainness.{HasPlainConstants}
use Rattle.plain_answers.specs.EachExpression.{HoldsInBlock}

-- An expression that is read of a value whose keys are in order has plain constants, whatever names are bound.
abbrev pub ReadExpressionsArePlain : Type 0
ReadExpressionsArePlain =
    (lookup : Lookup) (names : Names) (v : Value) (e : Expression) → IsOrdered v → expression_read lookup names v ≡ reads e → HasPlainConstants e

-- So has each expression of the body of an action that is read of one.
abbrev pub ReadBodiesArePlain : Type 0
ReadBodiesArePlain =
    (lookup : Lookup) (names : Names) (v : Value) (body : Statements) → IsOrdered v → body_read lookup names v ≡ reads body
    → HoldsInBlock HasPlainConstants body
