use Rattle.host_core.proofs.OneDocument.{names-ascend}
use Rattle.host_core.proofs.laws.names_ascend.Goals as goal

pub returns : goal.returns
returns c = names-ascend
