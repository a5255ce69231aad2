use Rattle.action_core.proofs.GoingOn as lemmas
use Rattle.action_core.proofs.laws.requests_go_on.Goals as goal

pub returns : goal.returns
returns c = lemmas.requests-go-on
