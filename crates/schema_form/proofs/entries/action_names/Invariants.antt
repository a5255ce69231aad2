use Rattle.std.proofs.Common.{◌≡◌, map, take}
use Rattle.model_syntax.specs.declared.behaviour.Action.{Action}
use Rattle.schema_form.proofs.entries.action_names.Given as goal

abbrev pub invariant-loop-action : goal.invariant-loop-action
invariant-loop-action l = l.names ≡ map (λ (a : Action). a.name) (take l.action-index l.actions)
