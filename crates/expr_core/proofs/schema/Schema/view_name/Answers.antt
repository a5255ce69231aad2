use Rattle.std.proofs.Common.{◌≡◌, ◌<◌, List, length, map, slice_get, None, sym, ap, arith}
use Rattle.std.specs.Option.{option_map}
use Rattle.std.proofs.lemmas.Option.{slice_get_past}
use Rattle.model_syntax.specs.declared.behaviour.Behaviour.{Behaviour}
use Rattle.model_syntax.specs.Shown.{ShownView, behaviour_shown}
use Rattle.expr_core.specs.Numbers.{joined}
use Rattle.expr_core.proofs.Standing.{counted}
use Rattle.expr_core.proofs.schema.Schema.view_name.Goals as goal

abbrev parts : Behaviour → List ShownView
parts b = (behaviour_shown b).views

pub view_at-requires : goal.view_at-requires
view_at-requires c =
    let count : length c.self.inside.views.places ≡ length (joined (map parts c.self.inside.behaviours)) = counted parts c.self.inside.behaviours c.self.inside.views c.self.invariant.views in
    let within : c.args.v.0 < length (joined (map parts c.self.inside.behaviours)) = omega (arith, c.len.ensures) in
    rw (← c.self.view_is) within

pub returns-else-v-len : goal.returns-else-v-len
returns-else-v-len c =
    let all = joined (map parts c.self.inside.behaviours) in
    let count : length c.self.inside.views.places ≡ length all = counted parts c.self.inside.behaviours c.self.inside.views c.self.invariant.views in
    let past : slice_get all c.args.v.0 ≡ None = slice_get_past all c.args.v.0 (omega (arith, c.len.ensures)) in
    rw (← c.self.view_is) (sym (ap (option_map (λ (x : ShownView). x.name)) past))
