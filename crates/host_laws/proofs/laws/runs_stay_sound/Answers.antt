use Rattle.host_laws.proofs.Running.{runs-told}
use Rattle.host_laws.proofs.laws.runs_stay_sound.Goals as goal

pub returns : goal.returns
returns c = runs-told
