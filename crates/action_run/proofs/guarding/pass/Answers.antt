use Rattle.std.proofs.Common.{◌+◌, map, drop, true, refl, ap, arith, drop_of_length-le}
use Rattle.expr_syntax.specs.Shown.{shown}
use Rattle.live_tree.specs.Contents.{state}
use Rattle.model_syntax.specs.Shown.{middleware_shown}
use Rattle.action_core.specs.Calling.{surrounded}
use Rattle.action_steps.specs.Acting.{behaving_of, layer_of}
use Rattle.action_run.proofs.Layered.{passed-atomic, passed-guard, passed-refused, passes-handed, passed-all, continues-at}
use Rattle.action_run.proofs.Sequences.{element}
use Rattle.action_run.proofs.guarding.pass.Goals as goal
use Rattle.action_run.proofs.guarding.pass.Goals.{in-Atomic, in-Protect+in_ok-guard-in-Protect}

pub returns-in_err-guard-in-Protect : goal.returns-in_err-guard-in-Protect
returns-in_err-guard-in-Protect g c =
    let behaving = behaving_of c.args.within.now.schema.now in
    let frame = c.args.within.now.frame.now in
    let layers = c.args.layers.now in
    let i = c.loop-layer.layer-index in
    let opened = ap (map layer_of) (element layers i c.layer-item.result c.loop-layer-test.true c.layer-item.is) in
    λ inner counted. passes-handed (surrounded behaving frame (map layer_of layers) inner) inner c.in_err-guard-in-Protect.field-0.0 c.from_residual.result _ _ c.from_residual.ensures.1
    (passed-refused behaving frame c.loop-layer.is_atomic (surrounded behaving frame (map layer_of layers) inner) inner (map layer_of (drop i layers)) (map layer_of (drop (i + 1) layers)) (layer_of c.layer-item.result)
    c.in-Protect.field-0 (shown c.in-Protect.condition) c.in_err-guard-in-Protect.field-0.0 _ _ _ opened (ap middleware_shown c.in-Protect.is) refl (c.loop-layer.invariant inner counted) (c.in_err-guard-in-Protect.ensures _ counted))

pub loop-layer-preserved : goal.loop-layer-preserved
loop-layer-preserved g c =
    let behaving = behaving_of c.args.within.now.schema.now in
    let frame = c.args.within.now.frame.now in
    let layers = c.args.layers.now in
    let i = c.loop-layer.layer-index in
    let opened = ap (map layer_of) (element layers i c.layer-item.result c.loop-layer-test.true c.layer-item.is) in
    λ inner counted.
    let outer = surrounded behaving frame (map layer_of layers) inner in
    elim c.match-layer.branch [
      | in-Atomic w ↦ continues-at c.match-layer.is_atomic true _ _ counted (state c.args.tree.now) outer _ _ w.is_atomic-is w.steps-is
          (passed-atomic behaving frame c.loop-layer.is_atomic outer inner (map layer_of (drop i layers)) (map layer_of (drop (i + 1) layers)) (layer_of c.layer-item.result) w.in-Atomic.field-0 _ _
          opened (ap middleware_shown w.in-Atomic.is) (c.loop-layer.invariant inner counted))
      | in-Protect+in_ok-guard-in-Protect w ↦ continues-at c.match-layer.is_atomic c.loop-layer.is_atomic _ _ counted (state c.args.tree.now) outer _ _ w.is_atomic-is w.steps-is
          (passed-guard behaving frame c.loop-layer.is_atomic outer inner (map layer_of (drop i layers)) (map layer_of (drop (i + 1) layers)) (layer_of c.layer-item.result) w.in-Protect.field-0 (shown w.in-Protect.condition) _ _ _
          opened (ap middleware_shown w.in-Protect.is) refl (c.loop-layer.invariant inner counted) (w.in_ok-guard-in-Protect.ensures _ counted))
    ]

pub returns : goal.returns
returns g c =
    let behaving = behaving_of c.args.within.now.schema.now in
    let frame = c.args.within.now.frame.now in
    let layers = c.args.layers.now in
    let i = c.loop-layer.layer-index in
    λ inner counted. passed-all behaving frame c.loop-layer.is_atomic (surrounded behaving frame (map layer_of layers) inner) inner (map layer_of (drop i layers)) _ _
    (ap (map layer_of) (drop_of_length-le layers {i = i} (omega (arith, c.loop-layer-test.false)))) (c.loop-layer.invariant inner counted)
