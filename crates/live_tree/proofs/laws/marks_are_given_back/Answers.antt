use Rattle.live_tree.proofs.RollingBack.{many_back}
use Rattle.live_tree.proofs.laws.marks_are_given_back.Goals as goal

pub returns : goal.returns
returns c = λ s later. many_back s later.calls later.tree later.next later.edited later.led
