-- The parameters that are left lead to the same names as all of them.
use Rattle.std.proofs.Common.{◌≡◌, drop}
use Rattle.snap_core.specs.View.{items_view}
use Rattle.behaviour_form.specs.Actions.{params_bound}
use Rattle.behaviour_form.proofs.actions.bind_params.Given as goal

abbrev pub invariant-loop-item : goal.invariant-loop-item
invariant-loop-item l = params_bound l.initial.scope (items_view l.items) ≡ params_bound l.scope (items_view (drop l.item-index l.items))
