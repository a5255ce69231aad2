use Rattle.action_laws.proofs.Schemas as lemmas
use Rattle.action_laws.proofs.laws.schemas_behave_plainly.Goals as goal

pub returns : goal.returns
returns c = lemmas.schemas-plain
