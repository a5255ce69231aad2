use Rattle.std.proofs.Common.{ℕ, List, decimal, refl}
use Rattle.snap_core.specs.View.{view, fields_view}
use Rattle.expr_syntax.specs.Syntax.{Statement}
use Rattle.expr_syntax.specs.Shown.{shown}
use Rattle.expr_syntax.specs.ShownStatements.{stmt_shown}
use Rattle.expr_syntax.specs.declared.expr.Expr.{Expr}
use Rattle.expr_form.specs.Texts.{pair_in}
use Rattle.expr_form.specs.Names.{binder_read}
use Rattle.expr_form.specs.Models.{target_of}
use Rattle.expr_form.specs.Outcome.{at, both, made}
use Rattle.expr_form.specs.Expressions.{expression_read}
use Rattle.expr_form.proofs.Telling.{tells-lowered, tells-parts, tells-no_parts, tells-made, tells-both}
use Rattle.expr_form.proofs.Operands.{part-at}
use Rattle.expr_form.proofs.singles.read_binding.Goals as goal

pub returns-in_default-clause-reads : goal.returns-in_default-clause-reads
returns-in_default-clause-reads c =
    let look = target_of (fields_view c.args.types.now) c.args.targets.now in
    let read = expression_read look in
    let names = c.args.scope.now in
    let v = view c.args.value.now in
    tells-no_parts stmt_shown (pair_in v) (λ p. made (λ q. Statement.bind q.0 q.1) (both (at 0 (binder_read p.0)) (at 1 (read names p.1)))) c.wrong.result c.in_default.ensures c.wrong.ensures

pub returns-clause-reads : goal.returns-clause-reads
returns-clause-reads c =
    let look = target_of (fields_view c.args.types.now) c.args.targets.now in
    let read = expression_read look in
    let names = c.args.scope.now in
    let v = view c.args.value.now in
    let a = view c.in-Some.parts.0.now in
    let b = view c.in-Some.parts.1.now in
    tells-parts stmt_shown (pair_in v) (a, b) (λ p. made (λ q. Statement.bind q.0 q.1) (both (at 0 (binder_read p.0)) (at 1 (read names p.1)))) c.binding_from.result c.in-Some.ensures
    (tells-made (λ (q : List ℕ × Expr). (q.0, shown q.1)) stmt_shown (λ q. Statement.bind q.0 q.1) c.both-whole.result c.binding_from.result (both (at 0 (binder_read a)) (at 1 (read names b))) c.binding_from.ensures
    (tells-both (λ (n : List ℕ). n) shown c.at_index-name.result c.at_index-value.result c.both-whole.result (at 0 (binder_read a)) (at 1 (read names b)) c.both-whole.ensures
    (tells-lowered (λ (n : List ℕ). n) (decimal 0) c.read_binder-name.result c.at_index-name.result (binder_read a) c.at_index-name.ensures c.read_binder-name.ensures)
    (part-at shown read 1 c.read_expression-value.result c.at_index-value.result names names b refl c.at_index-value.ensures c.read_expression-value.ensures.reads)))
