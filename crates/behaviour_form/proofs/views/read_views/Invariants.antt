use Rattle.std.proofs.Common.{◌≡◌, drop}
use Rattle.snap_core.specs.View.{fields_view}
use Rattle.expr_form.specs.Models.{target_of}
use Rattle.expr_form.specs.Scope.{always_bound}
use Rattle.model_syntax.specs.Shown.{view_shown}
use Rattle.behaviour_form.specs.Fields.{fields_read}
use Rattle.behaviour_form.specs.Named.{is_taken}
use Rattle.behaviour_form.specs.Views.{view_read}
use Rattle.behaviour_form.proofs.Listed.{Reads}
use Rattle.behaviour_form.proofs.views.read_views.Given as goal

abbrev pub invariant-loop-field : goal.invariant-loop-field
invariant-loop-field l =
    let read = fields_read (view_read (target_of (fields_view l.types) l.targets) (is_taken (fields_view l.parts)) always_bound) in
    Reads view_shown l.views (read (fields_view l.fields)) (read (fields_view (drop l.field-index l.fields))) × (l.scope ≡ always_bound)
