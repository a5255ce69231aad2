use Rattle.std.proofs.Common.{ℕ, List, sym, subst}
use Rattle.snap_core.specs.View.{view, fields_view}
use Rattle.expr_syntax.specs.Syntax.{clear, throw}
use Rattle.expr_syntax.specs.Shown.{shown}
use Rattle.expr_syntax.specs.ShownStatements.{stmt_shown}
use Rattle.expr_form.specs.declared.stmt_keys.Single.{Single}
use Rattle.expr_form.specs.Names.{name_read}
use Rattle.expr_form.specs.Models.{target_of}
use Rattle.expr_form.specs.Outcome.{Tells}
use Rattle.expr_form.specs.Expressions.{expression_read}
use Rattle.expr_form.specs.Statements.{single_read}
use Rattle.expr_form.proofs.Telling.{tells-made}
use Rattle.expr_form.proofs.singles.read_single.Goals as goal

pub returns-in-Clear-clause-reads : goal.returns-in-Clear-clause-reads
returns-in-Clear-clause-reads c =
    let read = expression_read (target_of (fields_view c.args.types.now) c.args.targets.now) in
    let names = c.args.scope.now in
    let v = view c.args.value.now in
    let P : Single → Type 0 = λ form. Tells stmt_shown c.clear_from.result (single_read read form names v) in
    subst P (sym c.in-Clear.is)
    (tells-made shown stmt_shown clear c.read_expression-target.result c.clear_from.result (read names v) c.clear_from.ensures c.read_expression-target.ensures.reads)

pub returns-in-Throw-clause-reads : goal.returns-in-Throw-clause-reads
returns-in-Throw-clause-reads c =
    let read = expression_read (target_of (fields_view c.args.types.now) c.args.targets.now) in
    let names = c.args.scope.now in
    let v = view c.args.value.now in
    let P : Single → Type 0 = λ form. Tells stmt_shown c.throw_from.result (single_read read form names v) in
    subst P (sym c.in-Throw.is)
    (tells-made (λ (n : List ℕ). n) stmt_shown throw c.read_name-reason.result c.throw_from.result (name_read v) c.throw_from.ensures c.read_name-reason.ensures)
