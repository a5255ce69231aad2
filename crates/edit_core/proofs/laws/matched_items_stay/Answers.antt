use Rattle.edit_core.proofs.RuleLinks as lemmas
use Rattle.edit_core.proofs.laws.matched_items_stay.Goals as goal

pub returns : goal.returns
returns c = λ typing suited s labelled same. lemmas.stays-kept typing suited s.type s.next s.old s.new labelled same
