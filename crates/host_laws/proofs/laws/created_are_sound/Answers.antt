use Rattle.host_laws.proofs.Created.{created-sound}
use Rattle.host_laws.proofs.laws.created_are_sound.Goals as goal

pub returns : goal.returns
returns c = created-sound
