use Rattle.host_laws.proofs.Own.{other-replies-own}
use Rattle.host_laws.proofs.laws.other_replies_are_own.Goals as goal

pub returns : goal.returns
returns c = other-replies-own
