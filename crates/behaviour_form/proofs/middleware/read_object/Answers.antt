use Rattle.std.proofs.Common.{arith}
use Rattle.snap_core.specs.Value.{dict}
use Rattle.snap_core.specs.View.{view, fields_view}
use Rattle.pointer_core.specs.declared.schema_rule.SchemaRule.TheVariants.{Shape}
use Rattle.expr_form.specs.Models.{target_of}
use Rattle.expr_form.proofs.Telling.{tells-here, tells-same}
use Rattle.model_syntax.specs.Shown.{middleware_shown}
use Rattle.behaviour_form.specs.Middleware.{keyed_read, one_read}
use Rattle.behaviour_form.proofs.Keyed.{one-other, one-keyed}
use Rattle.behaviour_form.proofs.middleware.read_object.Goals as goal

pub returns-then-fields-ne1-clause-reads : goal.returns-then-fields-ne1-clause-reads
returns-then-fields-ne1-clause-reads c =
    let look = target_of (fields_view c.args.types.now) c.args.targets.now in
    let names = c.args.scope.now in
    let fields = c.args.fields.now in
    tells-here middleware_shown c.wrong.result Shape (one_read look names (dict tt (fields_view fields))) c.wrong.ensures (one-other look names fields (λ one. omega (arith, one)))

pub returns-clause-reads : goal.returns-clause-reads
returns-clause-reads c =
    let look = target_of (fields_view c.args.types.now) c.args.targets.now in
    let names = c.args.scope.now in
    let fields = c.args.fields.now in
    let f = c.index-fields-0.result in
    tells-same middleware_shown c.read_keyed.result (keyed_read look names f.key (view f.value)) (one_read look names (dict tt (fields_view fields)))
    (one-keyed look names fields f (omega arith) c.index-fields-0.is) c.read_keyed.ensures.reads
