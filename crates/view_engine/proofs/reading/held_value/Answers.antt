use Rattle.std.proofs.Common.{sym}
use Rattle.view_engine.proofs.Doing.{given-plain, given-node}
use Rattle.view_engine.proofs.reading.held_value.Goals as goal

pub returns-in-Node : goal.returns-in-Node
returns-in-Node g c = rw c.in-Node.is (given-node c.in-Node.n)

pub returns-in_ok-raw-in-Plain : goal.returns-in_ok-raw-in-Plain
returns-in_ok-raw-in-Plain g c = rw c.in-Plain.is (given-plain c.in_ok-raw-in-Plain.field-0 _ (sym c.in_ok-raw-in-Plain.ensures))
