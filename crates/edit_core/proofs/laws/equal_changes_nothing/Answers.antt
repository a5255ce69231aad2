use Rattle.edit_core.proofs.Unchanged as lemmas
use Rattle.edit_core.proofs.laws.equal_changes_nothing.Goals as goal

pub returns : goal.returns
returns c = λ rules s. lemmas.changes-nothing rules s
