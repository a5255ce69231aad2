-- The law follows from that of one link.
use Rattle.serve_core.proofs.Leading as lemmas
use Rattle.serve_core.proofs.laws.door_leads.Goals as goal

pub returns : goal.returns
returns g c = lemmas.door_leads g.A.Handler.replies c.link_leads.ensures
