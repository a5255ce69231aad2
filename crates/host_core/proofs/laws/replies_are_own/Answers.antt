use Rattle.host_core.proofs.OneDocument.{replies-are-own}
use Rattle.host_core.proofs.laws.replies_are_own.Goals as goal

pub returns : goal.returns
returns c = replies-are-own
