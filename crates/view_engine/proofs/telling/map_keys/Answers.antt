use Rattle.std.proofs.Common.{◌≡◌, map, refl, subst, arith}
use Rattle.std.specs.List.{range_with_len}
use Rattle.answer_ops.specs.View.{answer_of}
use Rattle.view_engine.specs.Progress.{scope_of, whole_in}
use Rattle.view_engine.specs.TreeSight.{map_size}
use Rattle.view_engine.proofs.Levels.{key_text, keys-read, keys-step}
use Rattle.view_engine.proofs.telling.map_keys.Goals as goal

pub loop-i-preserved : goal.loop-i-preserved
loop-i-preserved g c = record {
  so_far = keys-step (whole_in g.S.Bodies.says c.args.scope.now) c.args.n c.loop-i.i c.loop-i.keys _ c.in_ok-key_of.field-0 c.loop-i.invariant.so_far c.in_ok-push.ensures.ok c.in_ok-key_of.ensures;
  room = c.loop-i.invariant.room;
}

pub returns : goal.returns
returns g c = λ t some.
    let whole = whole_in g.S.Bodies.says c.args.scope.now in
    let end : c.loop-i.i ≡ map_size whole c.args.n = omega (arith, c.loop-i.invariant.room) in
    keys-read (scope_of g.S.Bodies.says c.args.scope.now) whole c.args.n t c.loop-i.keys refl some
    (subst (λ m. map answer_of c.loop-i.keys ≡ map (key_text whole c.args.n) (range_with_len 0 m)) end c.loop-i.invariant.so_far)
