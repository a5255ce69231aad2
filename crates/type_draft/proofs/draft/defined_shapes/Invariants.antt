use Rattle.std.proofs.Common.{◌≡◌, map, Some}
use Rattle.type_draft.proofs.draft.defined_shapes.Given as goal

abbrev pub invariant-loop-shape : goal.invariant-loop-shape
invariant-loop-shape l = map Some l.defined ≡ l.yielded
