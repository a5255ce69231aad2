use Rattle.std.proofs.Common.{sym, ◌∙◌, ap}
use Rattle.snap_core.specs.Value.{dict}
use Rattle.snap_core.specs.View.{view, fields_view}
use Rattle.snap_core.proofs.Views.{view-Dict}
use Rattle.expr_form.specs.Models.{target_of}
use Rattle.expr_form.proofs.Telling.{tells-same}
use Rattle.model_syntax.specs.Shown.{middleware_shown}
use Rattle.behaviour_form.specs.Middleware.{one_read}
use Rattle.behaviour_form.proofs.middleware.read_one.Goals as goal

pub returns-clause-reads : goal.returns-clause-reads
returns-clause-reads c =
    let read = one_read (target_of (fields_view c.args.types.now) c.args.targets.now) c.args.scope.now in
    let fields = c.as_slice.result.now in
    tells-same middleware_shown c.read_object.result (read (dict tt (fields_view fields))) (read (view c.args.value.now))
    (ap read (ap view c.in-Dict.is ∙ view-Dict c.in-Dict.fields) ∙ ap (λ fs. read (dict tt (fields_view fs))) (sym c.as_slice.ensures))
    c.read_object.ensures.reads
