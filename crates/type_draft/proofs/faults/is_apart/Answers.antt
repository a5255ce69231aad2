use Rattle.std.proofs.Common.{arith}
use Rattle.std.proofs.lemmas.Result.{IfOk-weaker}
use Rattle.type_draft.proofs.Drafts.{union_fault}
use Rattle.type_draft.proofs.faults.is_apart.Goals as goal

pub returns-in-Some-Union : goal.returns-in-Some-Union
returns-in-Some-Union c = IfOk-weaker c.are_apart.result _ _ (union_fault c.args.table.now c.args.t.0 c.as_slice.result.now (grind arith)) c.are_apart.ensures
