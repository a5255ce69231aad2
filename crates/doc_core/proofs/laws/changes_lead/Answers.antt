use Rattle.doc_core.proofs.Leading.{changes-lead}
use Rattle.doc_core.proofs.laws.changes_lead.Goals as goal

pub returns : goal.returns
returns c = changes-lead
