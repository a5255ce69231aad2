use Rattle.std.proofs.Common.{refl}
use Rattle.snap_core.specs.View.{view, fields_view}
use Rattle.expr_syntax.specs.Shown.{shown}
use Rattle.expr_syntax.specs.ShownStatements.{stmt_shown}
use Rattle.expr_syntax.specs.declared.expr.Expr.{Expr}
use Rattle.expr_form.specs.Texts.{pair_in}
use Rattle.expr_form.specs.Models.{target_of}
use Rattle.expr_form.specs.Outcome.{at, both, made}
use Rattle.expr_form.specs.Expressions.{expression_read}
use Rattle.expr_form.specs.Statements.{given_made}
use Rattle.expr_form.proofs.Telling.{tells-parts, tells-no_parts, tells-made, tells-both}
use Rattle.expr_form.proofs.Operands.{part-at}
use Rattle.expr_form.proofs.singles.read_given.Goals as goal

pub returns-in_default-clause-reads : goal.returns-in_default-clause-reads
returns-in_default-clause-reads c =
    let look = target_of (fields_view c.args.types.now) c.args.targets.now in
    let read = expression_read look in
    let names = c.args.scope.now in
    let v = view c.args.value.now in
    tells-no_parts stmt_shown (pair_in v) (λ p. made (λ q. given_made c.args.form q.0 q.1) (both (at 0 (read names p.0)) (at 1 (read names p.1)))) c.wrong.result c.in_default.ensures c.wrong.ensures

pub returns-clause-reads : goal.returns-clause-reads
returns-clause-reads c =
    let look = target_of (fields_view c.args.types.now) c.args.targets.now in
    let read = expression_read look in
    let names = c.args.scope.now in
    let v = view c.args.value.now in
    let a = view c.in-Some.parts.0.now in
    let b = view c.in-Some.parts.1.now in
    tells-parts stmt_shown (pair_in v) (a, b) (λ p. made (λ q. given_made c.args.form q.0 q.1) (both (at 0 (read names p.0)) (at 1 (read names p.1)))) c.given_from.result c.in-Some.ensures
    (tells-made (λ (q : Expr × Expr). (shown q.0, shown q.1)) stmt_shown (λ q. given_made c.args.form q.0 q.1) c.both-whole.result c.given_from.result (both (at 0 (read names a)) (at 1 (read names b))) c.given_from.ensures
    (tells-both shown shown c.at_index-target.result c.at_index-operand.result c.both-whole.result (at 0 (read names a)) (at 1 (read names b)) c.both-whole.ensures
    (part-at shown read 0 c.read_expression-target.result c.at_index-target.result names names a refl c.at_index-target.ensures c.read_expression-target.ensures.reads)
    (part-at shown read 1 c.read_expression-operand.result c.at_index-operand.result names c.read_expression-target.new.scope b (c.read_expression-target.ensures.scope) c.at_index-operand.ensures c.read_expression-operand.ensures.reads)))
