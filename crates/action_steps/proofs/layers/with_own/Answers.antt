use Rattle.std.proofs.Common.{◌≡◌, ◌++◌, map, subst}
use Rattle.std.specs.Prelude.{IfOk}
use Rattle.edit_core.specs.Typing.{label_of}
use Rattle.model_syntax.specs.Shown.{middleware_shown}
use Rattle.node_core.specs.View.{labelled}
use Rattle.action_steps.specs.Acting.{layer_of}
use Rattle.action_steps.proofs.Surrounding.{own-model}
use Rattle.action_steps.proofs.layers.with_own.Goals as goal

pub returns-in-Model : goal.returns-in-Model
returns-in-Model c =
    let own = own-model c.args.schema.now c.args.name.now (label_of (labelled c.args.from.now)) c.in-Some.label c.in-Model.m (map middleware_shown c.middleware.result.now)
    c.in-Some.ensures c.in-Model.is c.middleware.ensures.is in
    subst (λ ls. IfOk c.with_named.result (λ all. map layer_of all ≡ map layer_of c.args.layers ++ ls)) own c.with_named.ensures
