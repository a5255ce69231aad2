use Rattle.host_laws.proofs.Staying.{stay-sound}
use Rattle.host_laws.proofs.laws.documents_stay_sound.Goals as goal

pub returns : goal.returns
returns c = stay-sound
