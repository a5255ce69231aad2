use Rattle.type_draft.proofs.LevelLemmas.{AreLevels-none}
use Rattle.type_draft.proofs.leads.levels_of.Goals as goal

pub returns-else-are_levels : goal.returns-else-are_levels
returns-else-are_levels c = AreLevels-none c.args.table.now
