use Rattle.type_table.proofs.TakenLemmas.{has-on_more, has-off_more}
use Rattle.type_table.proofs.scalar_set.ScalarSet.insert_boolean.Goals as goal

pub returns-then-b : goal.returns-then-b
returns-then-b c = rw c.if-b.true (has-on_more c.args.self.now)

pub returns-else-b : goal.returns-else-b
returns-else-b c = rw c.if-b.false (has-off_more c.args.self.now)
