use Rattle.std.proofs.Common.{[]}
use Rattle.live_tree.specs.Contents.{state}
use Rattle.action_core.specs.Calling.{called}
use Rattle.action_steps.specs.Doing.{point, state_at}
use Rattle.action_steps.specs.Acting.{behaving_of, callee_of}
use Rattle.action_run.proofs.Calls.{called-in, ran-runs, ran-costs}
use Rattle.action_run.proofs.calling.run.Goals as goal

pub returns-clause-outcome : goal.returns-clause-outcome
returns-clause-outcome g c =
    let a = point (state c.args.tree.now) 0 c.args.steps.now in
    let b = point (state c.call.new.tree) c.call.new.counted c.call.new.steps in
    let did = called-in (behaving_of c.args.schema.now) 32 _ (callee_of c.args.callee.now) c.call.result a b c.new-frame.ensures c.call.ensures in
    ran-runs c.call.result (called (behaving_of c.args.schema.now) 32 (record { nodes = []; frame = [] }) (callee_of c.args.callee.now) (state_at a [] [])) 0 a b (did.came [] [])

pub returns-clause-ticks : goal.returns-clause-ticks
returns-clause-ticks g c =
    let a = point (state c.args.tree.now) 0 c.args.steps.now in
    let b = point (state c.call.new.tree) c.call.new.counted c.call.new.steps in
    let did = called-in (behaving_of c.args.schema.now) 32 _ (callee_of c.args.callee.now) c.call.result a b c.new-frame.ensures c.call.ensures in
    ran-costs c.call.result (called (behaving_of c.args.schema.now) 32 (record { nodes = []; frame = [] }) (callee_of c.args.callee.now) (state_at a [] [])) a b (did.came [] [])
