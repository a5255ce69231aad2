use Rattle.std.proofs.Common.{◌≡◌, drop}
use Rattle.snap_core.specs.View.{items_view, fields_view}
use Rattle.expr_form.specs.Models.{target_of}
use Rattle.expr_form.specs.Scope.{always_bound}
use Rattle.model_syntax.specs.Shown.{middleware_shown}
use Rattle.behaviour_form.specs.Middleware.{all_read}
use Rattle.behaviour_form.proofs.Listed.{Reads}
use Rattle.behaviour_form.proofs.middleware.read_middleware.Given as goal

abbrev pub invariant-loop-index : goal.invariant-loop-index
invariant-loop-index l =
    let read = all_read (target_of (fields_view l.types) l.targets) always_bound in
    Reads middleware_shown l.middleware (read 0 (items_view l.items)) (read l.index (items_view (drop l.index l.items))) × (l.scope ≡ always_bound)
