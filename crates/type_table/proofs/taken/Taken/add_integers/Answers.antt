use Rattle.type_table.proofs.TakenLemmas.{AreTaken-integers}
use Rattle.type_table.proofs.taken.Taken.add_integers.Goals as goal

pub returns : goal.returns
returns c = AreTaken-integers c.args.self.now
