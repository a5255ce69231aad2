-- The search goes on behind a byte that isn't wrong.
use Rattle.std.proofs.Common.{sym, ◌∙◌, arith}
use Rattle.pointer_core.proofs.Tildes.{goes_on}
use Rattle.pointer_core.proofs.parse.wrong_tilde.Goals as goal

pub loop-at-preserved : goal.loop-at-preserved
loop-at-preserved c =
    sym (goes_on c.loop-at.at c.args.text.now (omega arith) (sym c.is_wrong_at.ensures ∙ c.if-is_wrong_at.false)) ∙ c.loop-at.invariant
