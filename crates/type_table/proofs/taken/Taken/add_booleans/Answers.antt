use Rattle.type_table.proofs.TakenLemmas.{AreTaken-booleans}
use Rattle.type_table.proofs.taken.Taken.add_booleans.Goals as goal

pub returns : goal.returns
returns c = AreTaken-booleans c.args.self.now
