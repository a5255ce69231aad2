-- The law follows from how a link goes on and ends.
use Rattle.link_core.proofs.Leading as lemmas
use Rattle.link_core.proofs.laws.link_leads.Goals as goal

pub returns : goal.returns
returns g c = lemmas.link_leads g.A.Handler.replies
