use Rattle.type_draft.specs.Defaulting.{AreSoFar, unknown_count}
use Rattle.type_draft.proofs.defaults.defaults_of.Given as goal

abbrev pub invariant-rounds : goal.invariant-rounds
invariant-rounds l = AreSoFar l.types l.defaults

abbrev pub decreases-rounds : goal.decreases-rounds
decreases-rounds l = unknown_count l.defaults

abbrev pub invariant-loop-t : goal.invariant-loop-t
invariant-loop-t l = AreSoFar l.types l.defaults
