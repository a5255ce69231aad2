-- What is added so far, and what is left, are all.
use Rattle.std.proofs.Common.{◌≡◌, ◌++◌, drop}
use Rattle.node_core.proofs.replacing.append_fields.Given as goal

abbrev pub invariant-loop-part : goal.invariant-loop-part
invariant-loop-part l = l.to ++ drop l.part-index l.parts ≡ l.initial.to ++ l.parts
