use Rattle.std.proofs.Common.{◌≡◌, rules, to_z, of_z, sym, ap, subst}
use Rattle.std.specs.Int.{w128}
use Rattle.snap_core.specs.Value.{integer}
use Rattle.eval_core.specs.Answer.{plain}
use Rattle.eval_core.specs.Scope.{gives}
use Rattle.answer_ops.specs.View.{answer_of}
use Rattle.view_engine.specs.Did.{Read}
use Rattle.view_engine.specs.Progress.{scope_of}
use Rattle.view_engine.specs.Steps.{tested}
use Rattle.view_engine.specs.Walked.{gathered_of}
use Rattle.view_engine.proofs.Turning.{gathered-tested}
use Rattle.view_engine.proofs.gathering.finished.Goals as goal

pub returns-in-Sum : goal.returns-in-Sum
returns-in-Sum g c =
    let s = scope_of g.S.Bodies.says c.args.scope.now in
    let passed : to_z w128 (of_z w128 c.in-Sum.z) ≡ c.in-Sum.z = search rules in
    subst (λ x. Read answer_of c.summed.result (tested s (gives (gathered_of x)))) (sym c.in-Sum.is)
    (subst (λ z. Read answer_of c.summed.result (tested s (gives (plain (integer z))))) passed c.summed.ensures)

pub returns-in-Filter : goal.returns-in-Filter
returns-in-Filter g c = gathered-tested (scope_of g.S.Bodies.says c.args.scope.now) c.args.gathered c.in-Filter.values _ _ (ap gathered_of c.in-Filter.is) (cc) c.bounded.ensures

pub returns-in-Collect : goal.returns-in-Collect
returns-in-Collect g c = gathered-tested (scope_of g.S.Bodies.says c.args.scope.now) c.args.gathered c.in-Collect.values _ _ (ap gathered_of c.in-Collect.is) (cc) c.bounded-in-Collect.ensures
