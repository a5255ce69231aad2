-- What leads the host is a run.
use Rattle.top_call.proofs.AsRun.{served-runs}
use Rattle.top_call.proofs.hosting.served_is_a_run.Goals as goal

pub returns : goal.returns
returns c = served-runs c.door_leads.ensures
