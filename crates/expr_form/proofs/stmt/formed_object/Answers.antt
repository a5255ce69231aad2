use Rattle.std.proofs.Common.{arith}
use Rattle.snap_core.specs.Value.{dict}
use Rattle.snap_core.specs.View.{view, fields_view}
use Rattle.pointer_core.specs.declared.schema_rule.SchemaRule.TheVariants.{Shape}
use Rattle.expr_form.specs.StmtKeys.{stmt_key_of}
use Rattle.expr_form.specs.Statements.{own_stmt, stmt_known}
use Rattle.expr_form.specs.Seen.{stmt_formed_seen}
use Rattle.expr_form.proofs.Telling.{tells-here, tells-same}
use Rattle.expr_form.proofs.Stmts.{stmt-other, stmt-one}
use Rattle.expr_form.proofs.stmt.formed_object.Goals as goal

pub returns-then-fields-ne1 : goal.returns-then-fields-ne1
returns-then-fields-ne1 c =
    tells-here stmt_formed_seen c.wrong.result Shape (own_stmt (dict tt (fields_view c.args.fields.now))) c.wrong.ensures (stmt-other c.args.fields.now (λ one. omega (arith, one)))

pub returns : goal.returns
returns c =
    let f = c.index-fields-0.result in
    tells-same stmt_formed_seen c.formed_field.result (stmt_known f.key (view f.value) (stmt_key_of f.key)) (own_stmt (dict tt (fields_view c.args.fields.now)))
    (stmt-one c.args.fields.now f (omega arith) c.index-fields-0.is) c.formed_field.ensures
