use Rattle.std.proofs.Common.{sym, subst}
use Rattle.model_syntax.specs.Shown.{ShownBehaviour, behaviour_shown}
use Rattle.expr_core.specs.Plain.{HavePlainConstants}
use Rattle.expr_core.specs.Schema.{behaviours_shown}
use Rattle.expr_core.proofs.Lists.{map-map}
use Rattle.action_laws.proofs.Schemas.{schemas-plain}
use Rattle.action_steps.proofs.beginning.behaves_plainly.Goals as goal

pub returns : goal.returns
returns c =
    let s = c.args.schema.now in
    schemas-plain s.types (behaviours_shown s) (rw c.types.ensures at c.root-root.ensures.sound)
    (subst HavePlainConstants (sym (map-map (λ (b : ShownBehaviour). b.views) behaviour_shown s.behaviours)) c.view.ensures.plain) c.action.ensures.plain
