use Rattle.live_tree.specs.Contents.{state}
use Rattle.tree_core.specs.Written.{target, tree}
use Rattle.answer_writing.specs.View.{giving_of}
use Rattle.action_steps.proofs.Written.{give-unmet, give-refused, give-done}
use Rattle.action_steps.proofs.writing.give.Goals as goal

pub returns-in-Err : goal.returns-in-Err
returns-in-Err c =
    give-unmet c.args.acting.now.schema.now.types c.types-types.result.now (target c.args.to.now) (giving_of c.args.giving) (state c.args.tree.now) (tree c.whole.result)
    c.types-types.ensures c.whole.ensures.tree c.args.acting.now.frame.now c.in-Err.error c.told_in.result c.told_in.ensures c.in-Err.ensures.outcome

pub returns-in-Ok-write : goal.returns-in-Ok-write
returns-in-Ok-write c =
    give-done c.args.acting.now.schema.now.types c.types-types.result.now (target c.args.to.now) (giving_of c.args.giving) (state c.args.tree.now) (tree c.whole.result)
    c.types-types.ensures c.whole.ensures.tree c.args.acting.now.frame.now tt c.in-Ok.change (state c.write.new.self) c.in-Ok.ensures.outcome
    c.in-Ok-write.ensures.outcome c.in-Ok-write.ensures.kept

pub returns-in-Err-write : goal.returns-in-Err-write
returns-in-Err-write c =
    give-refused c.args.acting.now.schema.now.types c.types-types.result.now (target c.args.to.now) (giving_of c.args.giving) (state c.args.tree.now) (tree c.whole.result)
    c.types-types.ensures c.whole.ensures.tree c.args.acting.now.frame.now c.in-Err-write.error c.told_in-in-Err-write.result c.in-Ok.change (state c.write.new.self)
    c.told_in-in-Err-write.ensures c.in-Ok.ensures.outcome c.in-Err-write.ensures.outcome c.in-Err-write.ensures.unchanged
