use Rattle.std.proofs.Common.{ℕ, List, decimal, refl}
use Rattle.snap_core.specs.View.{view, fields_view}
use Rattle.expr_syntax.specs.Syntax.{set}
use Rattle.expr_syntax.specs.Shown.{shown}
use Rattle.expr_syntax.specs.ShownStatements.{stmt_shown}
use Rattle.expr_syntax.specs.declared.expr.Expr.{Expr}
use Rattle.expr_form.specs.Texts.{triple_in}
use Rattle.expr_form.specs.Names.{name_read}
use Rattle.expr_form.specs.Models.{target_of}
use Rattle.expr_form.specs.Outcome.{at, both, made}
use Rattle.expr_form.specs.Expressions.{expression_read}
use Rattle.expr_form.proofs.Telling.{tells-lowered, tells-parts, tells-no_parts, tells-made, tells-both}
use Rattle.expr_form.proofs.Operands.{part-at}
use Rattle.expr_form.proofs.singles.read_set.Goals as goal

pub returns-in_default-clause-reads : goal.returns-in_default-clause-reads
returns-in_default-clause-reads c =
    let look = target_of (fields_view c.args.types.now) c.args.targets.now in
    let read = expression_read look in
    let names = c.args.scope.now in
    let v = view c.args.value.now in
    tells-no_parts stmt_shown (triple_in v) (λ p. made (λ q. set q.0 q.1.0 q.1.1) (both (at 0 (read names p.0)) (both (at 1 (name_read p.1)) (at 2 (read names p.2))))) c.wrong.result c.in_default.ensures c.wrong.ensures

pub returns-clause-reads : goal.returns-clause-reads
returns-clause-reads c =
    let look = target_of (fields_view c.args.types.now) c.args.targets.now in
    let read = expression_read look in
    let names = c.args.scope.now in
    let v = view c.args.value.now in
    let a = view c.in-Some.parts.0.now in
    let b = view c.in-Some.parts.1.now in
    let d = view c.in-Some.parts.2.now in
    tells-parts stmt_shown (triple_in v) (a, b, d) (λ p. made (λ q. set q.0 q.1.0 q.1.1) (both (at 0 (read names p.0)) (both (at 1 (name_read p.1)) (at 2 (read names p.2))))) c.set_from.result c.in-Some.ensures
    (tells-made (λ (q : Expr × (List ℕ × Expr)). (shown q.0, (q.1.0, shown q.1.1))) stmt_shown (λ q. set q.0 q.1.0 q.1.1) c.both-whole.result c.set_from.result (both (at 0 (read names a)) (both (at 1 (name_read b)) (at 2 (read names d)))) c.set_from.ensures
    (tells-both shown (λ (q : List ℕ × Expr). (q.0, shown q.1)) c.at_index-target.result c.both-inner.result c.both-whole.result (at 0 (read names a)) (both (at 1 (name_read b)) (at 2 (read names d))) c.both-whole.ensures
    (part-at shown read 0 c.read_expression-target.result c.at_index-target.result names names a refl c.at_index-target.ensures c.read_expression-target.ensures.reads)
    (tells-both (λ (n : List ℕ). n) shown c.at_index-name.result c.at_index-value.result c.both-inner.result (at 1 (name_read b)) (at 2 (read names d)) c.both-inner.ensures
    (tells-lowered (λ (n : List ℕ). n) (decimal 1) c.read_name-name.result c.at_index-name.result (name_read b) c.at_index-name.ensures c.read_name-name.ensures)
    (part-at shown read 2 c.read_expression-value.result c.at_index-value.result names c.read_expression-target.new.scope d (c.read_expression-target.ensures.scope) c.at_index-value.ensures c.read_expression-value.ensures.reads))))
