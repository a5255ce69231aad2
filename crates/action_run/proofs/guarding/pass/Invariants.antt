-- What is inside of the middleware that was passed does what is outside of it.
use Rattle.std.proofs.Common.{ℕ, map, drop}
use Rattle.live_tree.specs.Contents.{state}
use Rattle.action_core.specs.Act.{Act}
use Rattle.action_core.specs.Calling.{surrounded}
use Rattle.action_steps.specs.Doing.{point}
use Rattle.action_steps.specs.Acting.{behaving_of, layer_of}
use Rattle.action_run.specs.Surrounding.{Continues}
use Rattle.action_run.proofs.guarding.pass.Given as goal

abbrev pub invariant-loop-layer : goal.invariant-loop-layer
invariant-loop-layer g l =
    (inner : Act (Unit {0})) (counted : ℕ) → Continues l.is_atomic
    (surrounded (behaving_of l.within.schema.now) l.within.frame.now (map layer_of l.layers) inner)
    (surrounded (behaving_of l.within.schema.now) l.within.frame.now (map layer_of (drop l.layer-index l.layers)) inner)
    (point (state l.tree) counted l.fn.steps) (point (state l.tree) counted l.steps)
