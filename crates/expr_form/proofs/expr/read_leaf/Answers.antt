use Rattle.std.proofs.Common.{sym, subst}
use Rattle.snap_core.specs.View.{view}
use Rattle.expr_syntax.specs.Syntax.{constant, variable, own}
use Rattle.expr_syntax.specs.Shown.{shown}
use Rattle.expr_form.specs.declared.keys.Leaf.{Leaf}
use Rattle.expr_form.specs.Expressions.{leaf_read}
use Rattle.expr_form.specs.Names.{name_read, variable_read}
use Rattle.expr_form.specs.Numbers.{numbers_read}
use Rattle.expr_form.specs.Outcome.{Tells}
use Rattle.expr_form.proofs.Telling.{tells-made}
use Rattle.expr_form.proofs.expr.read_leaf.Goals as goal

pub returns-in-Const : goal.returns-in-Const
returns-in-Const c =
    let v = view c.args.value.now in
    let P : Leaf → Type 0 = λ form. Tells shown c.constant_from.result (leaf_read c.args.scope.now form v) in
    subst P (sym c.in-Const.is)
    (tells-made (λ u. tt) shown (λ u. constant v) c.check_numbers.result c.constant_from.result (numbers_read v) c.constant_from.ensures c.check_numbers.ensures)

pub returns-in-Var : goal.returns-in-Var
returns-in-Var c =
    let v = view c.args.value.now in
    let P : Leaf → Type 0 = λ form. Tells shown c.variable_from.result (leaf_read c.args.scope.now form v) in
    subst P (sym c.in-Var.is)
    (tells-made (λ name. name) shown variable c.read_variable.result c.variable_from.result (variable_read c.args.scope.now v) c.variable_from.ensures c.read_variable.ensures)

pub returns-in-Own : goal.returns-in-Own
returns-in-Own c =
    let v = view c.args.value.now in
    let P : Leaf → Type 0 = λ form. Tells shown c.own_from.result (leaf_read c.args.scope.now form v) in
    subst P (sym c.in-Own.is)
    (tells-made (λ name. name) shown own c.read_name.result c.own_from.result (name_read v) c.own_from.ensures c.read_name.ensures)
