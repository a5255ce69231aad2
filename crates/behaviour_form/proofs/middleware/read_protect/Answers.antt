use Rattle.std.proofs.Common.{decimal, refl}
use Rattle.snap_core.specs.View.{view, fields_view}
use Rattle.expr_syntax.specs.Shown.{shown}
use Rattle.expr_syntax.specs.declared.expr.Expr.{Expr}
use Rattle.expr_form.specs.Texts.{pair_in}
use Rattle.expr_form.specs.Models.{target_of}
use Rattle.expr_form.specs.Outcome.{at, both, made}
use Rattle.expr_form.specs.Expressions.{expression_read}
use Rattle.expr_form.proofs.Telling.{tells-lowered, tells-parts, tells-no_parts, tells-made, tells-both}
use Rattle.expr_form.proofs.Operands.{part-at}
use Rattle.model_syntax.specs.Shown.{middleware_shown, protect}
use Rattle.model_syntax.specs.declared.behaviour.Surrounded.{Surrounded}
use Rattle.behaviour_form.specs.Middleware.{surrounded_read}
use Rattle.behaviour_form.proofs.middleware.read_protect.Goals as goal

abbrev itself : Surrounded → Surrounded
itself around = around

pub returns-in_default-clause-reads : goal.returns-in_default-clause-reads
returns-in_default-clause-reads c =
    let read = expression_read (target_of (fields_view c.args.types.now) c.args.targets.now) in
    let names = c.args.scope.now in
    let v = view c.args.value.now in
    tells-no_parts middleware_shown (pair_in v) (λ p. made (λ q. protect q.0 q.1) (both (at 0 (surrounded_read p.0)) (at 1 (read names p.1)))) c.wrong.result c.in_default.ensures c.wrong.ensures

pub returns-clause-reads : goal.returns-clause-reads
returns-clause-reads c =
    let read = expression_read (target_of (fields_view c.args.types.now) c.args.targets.now) in
    let names = c.args.scope.now in
    let v = view c.args.value.now in
    let a = view c.in-Some.pair.0.now in
    let b = view c.in-Some.pair.1.now in
    tells-parts middleware_shown (pair_in v) (a, b) (λ p. made (λ q. protect q.0 q.1) (both (at 0 (surrounded_read p.0)) (at 1 (read names p.1)))) c.protect_from.result c.in-Some.ensures
    (tells-made (λ (q : Surrounded × Expr). (q.0, shown q.1)) middleware_shown (λ q. protect q.0 q.1) c.both-parts.result c.protect_from.result (both (at 0 (surrounded_read a)) (at 1 (read names b))) c.protect_from.ensures
    (tells-both itself shown c.at_index-around.result c.at_index-condition.result c.both-parts.result (at 0 (surrounded_read a)) (at 1 (read names b)) c.both-parts.ensures
    (tells-lowered itself (decimal 0) c.read_surrounded-around.result c.at_index-around.result (surrounded_read a) c.at_index-around.ensures c.read_surrounded-around.ensures)
    (part-at shown read 1 c.read_expression-condition.result c.at_index-condition.result names names b refl c.at_index-condition.ensures c.read_expression-condition.ensures.reads)))
