-- The door is left as the law of serving says.
use Rattle.std.proofs.Common.{inr}
use Rattle.top_call.proofs.serve.serve.Goals as goal

pub returns-clause-asked : goal.returns-clause-asked
returns-clause-asked g c = inr (c.ends_have_causes.ensures.door _ c.serve_door.result c.serve_door.ensures.serves).asked

pub returns-clause-count : goal.returns-clause-count
returns-clause-count g c = (c.ends_have_causes.ensures.door _ c.serve_door.result c.serve_door.ensures.serves).count
