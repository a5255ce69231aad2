use Rattle.std.proofs.Common.{take}
use Rattle.type_draft.specs.Reaching.{HasReached}
use Rattle.type_draft.proofs.leads.reach_each.Given as goal

abbrev pub invariant-loop-t : goal.invariant-loop-t
invariant-loop-t l = HasReached (take l.t-index l.types) l.initial.marks.items l.initial.reached.items l.marks.items l.reached.items
