use Rattle.action_steps.proofs.ItemsRead.{several-listed}
use Rattle.action_steps.proofs.parts.listed.Goals as goal

pub returns-in-Several : goal.returns-in-Several
returns-in-Several c = λ xs seen. several-listed c.args.x c.in-Several.values xs c.in-Several.is seen
