use Rattle.host_laws.proofs.Own.{runs-own}
use Rattle.host_laws.proofs.laws.runs_are_own.Goals as goal

pub returns : goal.returns
returns c = runs-own
