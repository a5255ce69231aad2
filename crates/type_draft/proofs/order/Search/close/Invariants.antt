-- One type less is open after each turn.
use Rattle.std.proofs.Common.{length}
use Rattle.type_draft.proofs.order.Search.close.Given as goal

abbrev pub decreases-loop-self : goal.decreases-loop-self
decreases-loop-self l = length l.self.pending.items
