use Rattle.tree_reading.proofs.SettlingLaws.{settling-leads}
use Rattle.tree_reading.proofs.settling.settling_leads.Goals as goal

pub returns : goal.returns
returns c = settling-leads
