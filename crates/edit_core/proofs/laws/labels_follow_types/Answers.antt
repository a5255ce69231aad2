use Rattle.edit_core.proofs.Labelling as lemmas
use Rattle.edit_core.proofs.laws.labels_follow_types.Goals as goal

pub returns : goal.returns
returns c = λ typing suited. record { anew = lemmas.labelled-anew typing suited; again = lemmas.labelled-again typing suited }
