use Rattle.std.proofs.Common.{List, map, drop_of_length-le, refl, sym, subst, arith}
use Rattle.expr_syntax.specs.Shown.{shown, expressions}
use Rattle.answer_ops.specs.View.{answers_of}
use Rattle.answer_ops.specs.declared.value.Value.{Value}
use Rattle.eval_core.specs.Evaluating.{all_evaluated}
use Rattle.plain_answers.specs.Plainness.{ArePlainAnswers}
use Rattle.view_engine.proofs.Loops.{point}
use Rattle.view_engine.specs.declared.halt.RunError.TheVariants as errors
use Rattle.action_steps.specs.Acting.{env_of}
use Rattle.action_steps.specs.Parts.{scope_in, telling_in}
use Rattle.action_steps.proofs.Evaluations.{part-handed}
use Rattle.action_steps.proofs.PartsLeft.{parts-begin, parts-on, parts-lost, parts-unmet, parts-end, constants-at, plain-pushed}
use Rattle.action_steps.proofs.parts.all_parts.Goals as goal

pub loop-e-init : goal.loop-e-init
loop-e-init g c =
    let a = c.args.acting.now in
    let tree = c.args.tree.now in
    let t = telling_in a tree in
    let s = scope_in a tree in
    let env = env_of c.args.env.now in
    let es = c.args.es.now in
    let from = point c.args.counted.now c.args.steps.now in
    let whole = all_evaluated s (expressions (map shown es)) env in
    record {
      left = parts-begin t s env (expressions (map shown es)) c.new-values.result from c.new-values.ensures;
      plain = subst (λ (vs : List Value). ArePlainAnswers (answers_of vs)) (sym c.new-values.ensures) tt;
    }

pub loop-e-preserved : goal.loop-e-preserved
loop-e-preserved g c =
    let a = c.args.acting.now in
    let tree = c.args.tree.now in
    let t = telling_in a tree in
    let s = scope_in a tree in
    let env = env_of c.args.env.now in
    let es = c.args.es.now in
    let from = point c.args.counted.now c.args.steps.now in
    let whole = all_evaluated s (expressions (map shown es)) env in
    let middle = point c.loop-e.counted c.loop-e.steps in
    let now = point c.part.new.counted c.part.new.steps in
    record {
      left = parts-on t s env es c.loop-e.e-index c.e-item.result c.loop-e.values _ c.in_ok-x.x whole from middle now c.loop-e-test.true c.e-item.is c.in_ok-push.ensures.ok c.loop-e.invariant.left c.in_ok-x.ensures.did;
      plain = plain-pushed c.loop-e.values _ c.in_ok-x.x c.in_ok-push.ensures.ok c.loop-e.invariant.plain
          (c.in_ok-x.ensures.plain (constants-at es c.loop-e.e-index c.e-item.result c.loop-e-test.true c.e-item.is c.requires.constants) c.requires.bound);
    }

pub returns-in_err-x-clause-did : goal.returns-in_err-x-clause-did
returns-in_err-x-clause-did g c =
    let a = c.args.acting.now in
    let tree = c.args.tree.now in
    let t = telling_in a tree in
    let s = scope_in a tree in
    let env = env_of c.args.env.now in
    let es = c.args.es.now in
    let from = point c.args.counted.now c.args.steps.now in
    let whole = all_evaluated s (expressions (map shown es)) env in
    let middle = point c.loop-e.counted c.loop-e.steps in
    let now = point c.part.new.counted c.part.new.steps in
    part-handed t answers_of c.in_err-x.field-0.0 c.from_residual.result whole _ c.from_residual.ensures.1
    (parts-unmet t s env es c.loop-e.e-index c.e-item.result c.loop-e.values c.in_err-x.field-0.0 whole from middle now c.loop-e-test.true c.e-item.is c.loop-e.invariant.left c.in_err-x.ensures.did)

pub returns-in_err-push-clause-did : goal.returns-in_err-push-clause-did
returns-in_err-push-clause-did g c =
    let a = c.args.acting.now in
    let tree = c.args.tree.now in
    let t = telling_in a tree in
    let s = scope_in a tree in
    let env = env_of c.args.env.now in
    let es = c.args.es.now in
    let from = point c.args.counted.now c.args.steps.now in
    let whole = all_evaluated s (expressions (map shown es)) env in
    let middle = point c.loop-e.counted c.loop-e.steps in
    let now = point c.part.new.counted c.part.new.steps in
    part-handed t answers_of errors.Memory c.from_residual-in_err-push.result whole _ c.from_residual-in_err-push.ensures.1
    (parts-lost t s env es c.loop-e.e-index c.e-item.result c.loop-e.values c.in_ok-x.x errors.Memory whole from middle now c.loop-e-test.true c.e-item.is refl c.loop-e.invariant.left c.in_ok-x.ensures.did)

pub returns-clause-did : goal.returns-clause-did
returns-clause-did g c =
    let a = c.args.acting.now in
    let tree = c.args.tree.now in
    let t = telling_in a tree in
    let s = scope_in a tree in
    let env = env_of c.args.env.now in
    let es = c.args.es.now in
    let from = point c.args.counted.now c.args.steps.now in
    let whole = all_evaluated s (expressions (map shown es)) env in
    parts-end t s env es c.loop-e.e-index c.loop-e.values whole from (point c.loop-e.counted c.loop-e.steps) (drop_of_length-le es {i = c.loop-e.e-index} (omega arith)) c.loop-e.invariant.left

pub returns-clause-plain : goal.returns-clause-plain
returns-clause-plain g c = c.loop-e.invariant.plain
