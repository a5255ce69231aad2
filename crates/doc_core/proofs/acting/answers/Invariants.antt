-- The answers so far.
use Rattle.std.proofs.Common.{◌≡◌, map, take}
use Rattle.answer_ops.specs.View.{answer_of}
use Rattle.doc_core.proofs.Acts.{value_answer}
use Rattle.doc_core.proofs.acting.answers.Given as goal

abbrev pub invariant-loop-value : goal.invariant-loop-value
invariant-loop-value l = map answer_of l.answers ≡ map value_answer (take l.value-index l.values)
