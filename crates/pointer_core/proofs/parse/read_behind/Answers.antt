-- A character moves from what is left to what was read.
use Rattle.std.specs.Str.Iter.{chars_rest}
use Rattle.pointer_core.specs.Reading.{text_so_far}
use Rattle.pointer_core.proofs.Tildes.{moves, fine_moves}
use Rattle.pointer_core.proofs.parse.read_behind.Goals as goal

pub loop-c-preserved : goal.loop-c-preserved
loop-c-preserved c =
    let next = c.in-Some.ensures.steps.0 in
    record {
      whole = moves (text_so_far c.loop-c.reading) (text_so_far c.take.new.reading) _ _ (chars_rest c.loop-c.c-iterator) _ c.in_ok-take.ensures.text next c.loop-c.invariant.whole;
      fine = fine_moves c.loop-c.reading.escape c.take.new.reading.escape c.in-Some.c _ (chars_rest c.loop-c.c-iterator) c.in_ok-take.ensures.escape next c.loop-c.invariant.fine;
    }
