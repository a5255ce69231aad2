-- The causes follow from how serving goes on and ends.
use Rattle.serve_core.proofs.Causing.{fault_cause, inside_cause, door_left}
use Rattle.serve_core.proofs.laws.ends_have_causes.Goals as goal

pub returns-clause-fault : goal.returns-clause-fault
returns-clause-fault g c = fault_cause g.A.Handler.replies

pub returns-clause-inside : goal.returns-clause-inside
returns-clause-inside g c = inside_cause g.A.Handler.replies

pub returns-clause-door : goal.returns-clause-door
returns-clause-door g c = door_left g.A.Handler.replies
