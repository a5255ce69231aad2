use Rattle.type_table.proofs.TakenLemmas.{has-null_more}
use Rattle.type_table.proofs.scalar_set.ScalarSet.insert_null.Goals as goal

pub returns : goal.returns
returns c = has-null_more c.args.self.now
