use Rattle.host_core.proofs.SoundChanges.{changes-tell}
use Rattle.host_core.proofs.laws.changes_tell.Goals as goal

pub returns : goal.returns
returns c = changes-tell
