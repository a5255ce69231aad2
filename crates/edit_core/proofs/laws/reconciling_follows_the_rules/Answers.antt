use Rattle.edit_core.proofs.ByRules as lemmas
use Rattle.edit_core.proofs.laws.reconciling_follows_the_rules.Goals as goal

pub returns : goal.returns
returns c = λ typing s can. lemmas.by-rules typing can.suited s can.labelled can.numbered can.ordered can.new_ordered
