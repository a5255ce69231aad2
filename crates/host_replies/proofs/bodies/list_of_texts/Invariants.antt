-- The texts so far, as values.
use Rattle.std.proofs.Common.{◌≡◌, map}
use Rattle.snap_core.specs.Value.{text}
use Rattle.snap_core.specs.View.{view}
use Rattle.host_replies.proofs.bodies.list_of_texts.Given as goal

abbrev pub invariant-loop-name : goal.invariant-loop-name
invariant-loop-name l = map view l.items ≡ map text l.yielded
