-- What is read of JSON can be changed, and what is changed can be printed.
use Rattle.std.proofs.Common.{◌≡◌}
use Rattle.snap_core.specs.Value.{Value, IsPlain, IsOrdered}
use Rattle.snap_core.proofs.PlainLevels.{IsOrdered-of}

pub ordered_from_plain : (v : Value) → IsPlain v → IsOrdered v
ordered_from_plain v plain = IsOrdered-of v plain
