use Rattle.std.proofs.Common.{◌≡◌, [], replicate, None}
use Rattle.schema_read.proofs.assemble.begun.Given as goal

abbrev pub invariant-loop-i : goal.invariant-loop-i
invariant-loop-i l = l.draft ≡ record { shapes = replicate l._i None; models = [] }
