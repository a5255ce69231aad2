use Rattle.std.proofs.Common.{refl}
use Rattle.std.specs.Fmt.{digits}
use Rattle.http_front.specs.Reply.{printed}
use Rattle.link_core.proofs.replies.memory_bytes.Goals as goal

pub returns : goal.returns
unfolding printed digits
returns c = refl
