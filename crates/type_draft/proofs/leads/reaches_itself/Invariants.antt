-- What is reached so far, and how much work is left.
use Rattle.std.proofs.Common.{◌-◌}
use Rattle.type_draft.specs.Reaching.{work_of}
use Rattle.type_draft.proofs.Loops.{IsReach}
use Rattle.type_draft.proofs.leads.reaches_itself.Given as goal

abbrev pub invariant-loop-at : goal.invariant-loop-at
invariant-loop-at l = IsReach l.table l.t.0 l.at l.marks.items l.reached.items

abbrev pub decreases-loop-at : goal.decreases-loop-at
decreases-loop-at l = work_of l.marks.items l.reached.items - l.at
