-- The names so far.
use Rattle.std.proofs.Common.{◌≡◌, map, take}
use Rattle.host_core.specs.declared.held.Held.{Held}
use Rattle.host_core.proofs.answer.answer_list.Given as goal

abbrev pub invariant-loop-held : goal.invariant-loop-held
invariant-loop-held l = l.names.items ≡ map (λ (held : Held). held.name) (take l.held-index l.docs)
