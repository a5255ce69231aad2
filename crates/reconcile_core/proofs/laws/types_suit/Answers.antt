use Rattle.reconcile_core.proofs.Suiting.{suits}
use Rattle.type_core.specs.Judging.{judged_by}
use Rattle.reconcile_core.proofs.laws.types_suit.Goals as goal

pub returns : goal.returns
returns c = λ table t v kind e. suits (judged_by table v t) v kind e
