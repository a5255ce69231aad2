-- The law of action_laws, of what a schema's type promises.
use Rattle.std.proofs.Common.{sym, subst}
use Rattle.std.proofs.lemmas.Simd.{map-map}
use Rattle.model_syntax.specs.Shown.{ShownBehaviour, behaviour_shown}
use Rattle.expr_core.specs.Plain.{HavePlainConstants}
use Rattle.expr_core.specs.Schema.{behaviours_shown}
use Rattle.top_call.proofs.serve.schema_is_plain.Goals as goal

pub returns : goal.returns
returns c =
    let s = c.args.schema.now in
    c.schemas_behave_plainly.ensures s.types (behaviours_shown s) (rw c.types.ensures at c.root-root.ensures.sound)
    (subst HavePlainConstants (sym (map-map (λ (b : ShownBehaviour). b.views) behaviour_shown s.behaviours)) c.view.ensures.plain) c.action.ensures.plain
