use Rattle.std.proofs.Common.{ℕ, List, map, decimal, refl}
use Rattle.snap_core.specs.View.{view, fields_view}
use Rattle.expr_syntax.specs.Syntax.{call}
use Rattle.expr_syntax.specs.Shown.{shown, expressions}
use Rattle.expr_syntax.specs.ShownStatements.{stmt_shown}
use Rattle.expr_syntax.specs.declared.expr.Expr.{Expr}
use Rattle.expr_form.specs.Texts.{triple_in}
use Rattle.expr_form.specs.Names.{name_read}
use Rattle.expr_form.specs.Models.{target_of}
use Rattle.expr_form.specs.Outcome.{at, both, made}
use Rattle.expr_form.specs.Expressions.{expression_read}
use Rattle.expr_form.specs.Statements.{arguments_read}
use Rattle.expr_form.proofs.Telling.{tells-lowered, tells-parts, tells-no_parts, tells-made, tells-both}
use Rattle.expr_form.proofs.Operands.{part-at}
use Rattle.expr_form.proofs.singles.read_call.Goals as goal

pub returns-in_default-clause-reads : goal.returns-in_default-clause-reads
returns-in_default-clause-reads c =
    let look = target_of (fields_view c.args.types.now) c.args.targets.now in
    let read = expression_read look in
    let names = c.args.scope.now in
    let v = view c.args.value.now in
    tells-no_parts stmt_shown (triple_in v) (λ p. made (λ q. call q.0 q.1.0 q.1.1) (both (at 0 (read names p.0)) (both (at 1 (name_read p.1)) (at 2 (arguments_read read names p.2))))) c.wrong.result c.in_default.ensures c.wrong.ensures

pub returns-clause-reads : goal.returns-clause-reads
returns-clause-reads c =
    let look = target_of (fields_view c.args.types.now) c.args.targets.now in
    let read = expression_read look in
    let names = c.args.scope.now in
    let v = view c.args.value.now in
    let a = view c.in-Some.parts.0.now in
    let b = view c.in-Some.parts.1.now in
    let d = view c.in-Some.parts.2.now in
    tells-parts stmt_shown (triple_in v) (a, b, d) (λ p. made (λ q. call q.0 q.1.0 q.1.1) (both (at 0 (read names p.0)) (both (at 1 (name_read p.1)) (at 2 (arguments_read read names p.2))))) c.call_from.result c.in-Some.ensures
    (tells-made (λ (q : Expr × (List ℕ × List Expr)). (shown q.0, (q.1.0, expressions (map shown q.1.1)))) stmt_shown (λ q. call q.0 q.1.0 q.1.1) c.both-whole.result c.call_from.result (both (at 0 (read names a)) (both (at 1 (name_read b)) (at 2 (arguments_read read names d)))) c.call_from.ensures
    (tells-both shown (λ (q : List ℕ × List Expr). (q.0, expressions (map shown q.1))) c.at_index-target.result c.both-inner.result c.both-whole.result (at 0 (read names a)) (both (at 1 (name_read b)) (at 2 (arguments_read read names d))) c.both-whole.ensures
    (part-at shown read 0 c.read_expression-target.result c.at_index-target.result names names a refl c.at_index-target.ensures c.read_expression-target.ensures.reads)
    (tells-both (λ (n : List ℕ). n) (λ (es : List Expr). expressions (map shown es)) c.at_index-name.result c.at_index-arguments.result c.both-inner.result (at 1 (name_read b)) (at 2 (arguments_read read names d)) c.both-inner.ensures
    (tells-lowered (λ (n : List ℕ). n) (decimal 1) c.read_name-name.result c.at_index-name.result (name_read b) c.at_index-name.ensures c.read_name-name.ensures)
    (part-at (λ (es : List Expr). expressions (map shown es)) (arguments_read read) 2 c.read_arguments-arguments.result c.at_index-arguments.result names c.read_expression-target.new.scope d (c.read_expression-target.ensures.scope) c.at_index-arguments.ensures c.read_arguments-arguments.ensures.reads))))
