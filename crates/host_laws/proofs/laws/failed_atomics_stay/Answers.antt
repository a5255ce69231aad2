use Rattle.host_laws.proofs.Failing.{failed-stay}
use Rattle.host_laws.proofs.laws.failed_atomics_stay.Goals as goal

pub returns : goal.returns
returns c = failed-stay c.failed_atomics_are_nothing.ensures
