use Rattle.type_table.proofs.TakenLemmas.{AreTaken-texts}
use Rattle.type_table.proofs.taken.Taken.add_texts.Goals as goal

pub returns : goal.returns
returns c = AreTaken-texts c.args.self.now
