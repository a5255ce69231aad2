use Rattle.std.proofs.Common.{◌≡◌, Some, None, rules, slice_get, sym, subst}
use Rattle.snap_core.specs.Value.{AreAscending}
use Rattle.model_syntax.specs.declared.behaviour.Behaviour.{Behaviour}
use Rattle.model_syntax.specs.Shown.{ShownView, behaviour_shown, view_shown, IsInOrder}
use Rattle.expr_core.proofs.Lists.{parts_of-none, All-at, map-map}
use Rattle.expr_core.proofs.schema.Schema.own_views.Goals as goal

pub returns-in-Some-clause-ordered : goal.returns-in-Some-clause-ordered
returns-in-Some-clause-ordered c =
    let b = c.in-Some.behaviour.now in
    let here : slice_get c.self.inside.behaviours c.args.m.0 ≡ Some b = search rules in
    let order = All-at (λ (d : Behaviour). IsInOrder (behaviour_shown d)) c.self.inside.behaviours c.args.m.0 b c.self.invariant.ordered here in
    rw c.as_slice.ensures (subst AreAscending (map-map (λ (s : ShownView). s.name) view_shown b.views) order.views)

pub returns-in-None-clause-views : goal.returns-in-None-clause-views
returns-in-None-clause-views c =
    let none : slice_get c.self.inside.behaviours c.args.m.0 ≡ None = search rules in
    rw (← c.self.view_is) (sym (parts_of-none (λ (b : Behaviour). (behaviour_shown b).views) c.self.inside.behaviours c.args.m.0 none))
