use Rattle.std.proofs.Common.{List, ℕ, sym, ap}
use Rattle.snap_core.specs.View.{view, fields_view}
use Rattle.expr_syntax.specs.Syntax.{Expression}
use Rattle.expr_syntax.specs.Shown.{shown}
use Rattle.expr_syntax.specs.declared.expr.Expr.{Expr}
use Rattle.expr_form.specs.Models.{target_of}
use Rattle.expr_form.specs.Expressions.{expression_read}
use Rattle.expr_form.proofs.Telling.{tells-same, tells-made}
use Rattle.model_syntax.specs.Shown.{ShownView, view_shown}
use Rattle.behaviour_form.specs.Named.{is_taken, key_read, named}
use Rattle.behaviour_form.proofs.Naming.{tells-named}
use Rattle.behaviour_form.proofs.views.read_view.Goals as goal

abbrev itself : List ℕ → List ℕ
itself name = name

pub returns-clause-reads : goal.returns-clause-reads
returns-clause-reads c =
    let key = key_read (is_taken (fields_view c.args.parts.now)) in
    let k = c.args.field.now.key in
    let body = expression_read (target_of (fields_view c.args.types.now) c.args.targets.now) c.args.scope.now (view c.args.field.now.value) in
    let view_of : List ℕ × Expression → ShownView = λ q. record { name = q.0; body = q.1 } in
    tells-made (λ (q : List ℕ × Expr). (q.0, shown q.1)) view_shown view_of c.named-whole.result c.view_from.result (named (key k) body) c.view_from.ensures
    (tells-named itself shown c.read_key-name.result c.read_expression-body.result c.named-whole.result (key k) body c.named-whole.ensures
    (tells-same itself c.read_key-name.result (key c.text-key.result.now) (key k) (ap key (sym c.text-key.ensures)) c.read_key-name.ensures)
    c.read_expression-body.ensures.reads)
