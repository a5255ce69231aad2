use Rattle.live_tree.proofs.TakenBack.{kept-together}
use Rattle.live_tree.proofs.laws.calls_are_taken_back.Goals as goal

pub returns : goal.returns
returns c = kept-together
