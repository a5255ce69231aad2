-- The keys so far.
use Rattle.std.proofs.Common.{◌≡◌, map}
use Rattle.std.specs.List.{range_with_len}
use Rattle.answer_ops.specs.View.{answer_of}
use Rattle.view_engine.specs.Progress.{whole_in}
use Rattle.view_engine.specs.TreeSight.{map_size}
use Rattle.view_engine.proofs.Levels.{key_text}
use Rattle.view_engine.proofs.telling.map_keys.Given as goal

abbrev pub invariant-loop-i : goal.invariant-loop-i
invariant-loop-i g l = record {
  so_far : map answer_of l.keys ≡ map (key_text (whole_in g.S.Bodies.says l.scope) l.n) (range_with_len 0 l.i);
  room : l.i-end ≡ map_size (whole_in g.S.Bodies.says l.scope) l.n;
}
