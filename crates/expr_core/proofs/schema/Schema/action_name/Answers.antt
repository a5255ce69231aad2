use Rattle.std.proofs.Common.{◌≡◌, ◌<◌, List, length, map, slice_get, None, sym, ap, arith}
use Rattle.std.specs.Option.{option_map}
use Rattle.std.proofs.lemmas.Option.{slice_get_past}
use Rattle.model_syntax.specs.declared.behaviour.Behaviour.{Behaviour}
use Rattle.model_syntax.specs.Shown.{ShownAction, behaviour_shown}
use Rattle.expr_core.specs.Numbers.{joined}
use Rattle.expr_core.proofs.Standing.{counted}
use Rattle.expr_core.proofs.schema.Schema.action_name.Goals as goal

abbrev parts : Behaviour → List ShownAction
parts b = (behaviour_shown b).actions

pub action_at-requires : goal.action_at-requires
action_at-requires c =
    let count : length c.self.inside.actions.places ≡ length (joined (map parts c.self.inside.behaviours)) = counted parts c.self.inside.behaviours c.self.inside.actions c.self.invariant.actions in
    let within : c.args.a.0 < length (joined (map parts c.self.inside.behaviours)) = omega (arith, c.len.ensures) in
    rw (← c.self.view_is) within

pub returns-else-a-len : goal.returns-else-a-len
returns-else-a-len c =
    let all = joined (map parts c.self.inside.behaviours) in
    let count : length c.self.inside.actions.places ≡ length all = counted parts c.self.inside.behaviours c.self.inside.actions c.self.invariant.actions in
    let past : slice_get all c.args.a.0 ≡ None = slice_get_past all c.args.a.0 (omega (arith, c.len.ensures)) in
    rw (← c.self.view_is) (sym (ap (option_map (λ (x : ShownAction). x.name)) past))
