use Rattle.std.proofs.Common.{◌≡◌, [], refl, sym, ◌∙◌, ap, subst}
use Rattle.pointer_core.specs.Path.{Path}
use Rattle.answer_ops.specs.View.{answer_of}
use Rattle.eval_core.specs.Scope as core
use Rattle.eval_core.specs.Asking.{view_run}
use Rattle.view_engine.specs.Asks.{sight_by, telling}
use Rattle.view_engine.specs.Did.{course, Did}
use Rattle.view_engine.specs.Told.{Telling, Tells}
use Rattle.view_engine.proofs.views.Views.ask.Goals as goal

pub reach-answer-requires : goal.reach-answer-requires
reach-answer-requires g c = rw c.outermost-scope.ensures.says c.requires

pub returns-clause-answer : goal.returns-clause-answer
returns-clause-answer g c =
    let way = course 0 0 c.args.steps.now c.reach-answer.new.steps in
    let did = subst (λ (x : core.Scope). Did answer_of c.reach-answer.result (x.ask c.args.n c.args.v) way) c.outermost-scope.ensures.scope (c.reach-answer.ensures 0) in
    let says = g.S.Bodies.says c.args.schema.now in
    let outcome = (view_run says.viewing (sight_by says c.args.tree.now) c.args.n c.args.v 0).outcome in
    subst (λ (frame : Path). Tells (telling says c.args.tree.now frame) c.told.result outcome) c.new-here.ensures
    (subst (λ (t : Telling). Tells t c.told.result outcome) (c.outermost-scope.ensures.told c.new-here.result) (c.told.ensures _ did.outcome))

pub returns-clause-ticks : goal.returns-clause-ticks
returns-clause-ticks g c =
    let way = course 0 0 c.args.steps.now c.reach-answer.new.steps in
    let did = subst (λ (x : core.Scope). Did answer_of c.reach-answer.result (x.ask c.args.n c.args.v) way) c.outermost-scope.ensures.scope (c.reach-answer.ensures 0) in
    did.ticks
