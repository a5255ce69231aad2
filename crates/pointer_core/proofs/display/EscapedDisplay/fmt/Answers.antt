-- A character moves from what is left to what is written.
use Rattle.std.proofs.Common.{◌++◌, encode_utf8, rules}
use Rattle.std.proofs.Output.{has_written_append}
use Rattle.std.specs.Str.Iter.{chars_rest}
use Rattle.pointer_core.specs.Path.{escaped}
use Rattle.pointer_core.proofs.Escapes.{piece_written}
use Rattle.pointer_core.proofs.display.EscapedDisplay.fmt.Goals as goal

pub loop-c-preserved : goal.loop-c-preserved
loop-c-preserved g c = λ plain.
    let so_far = c.loop-c.invariant plain in (
      so_far.0 ++ escaped (encode_utf8 c.in-Some.c),
      has_written_append _ _ _ _ _ _ so_far.1 (search rules),
      piece_written so_far.0 (encode_utf8 c.in-Some.c) (chars_rest c.next.new.self) (chars_rest c.loop-c.c-iterator) (escaped c.args.self.now.0.now) c.in-Some.ensures.steps.0 so_far.2,
    )
