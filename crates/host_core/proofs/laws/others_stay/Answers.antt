use Rattle.host_core.proofs.OneDocument.{others-stay}
use Rattle.host_core.proofs.laws.others_stay.Goals as goal

pub returns : goal.returns
returns c = others-stay
