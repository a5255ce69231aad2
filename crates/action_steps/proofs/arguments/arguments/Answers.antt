use Rattle.std.proofs.Common.{sym, arith}
use Rattle.live_tree.specs.Contents.{state}
use Rattle.action_steps.proofs.OneByOne.{arguments-uneven, plain-at}
use Rattle.action_steps.proofs.arguments.arguments.Goals as goal

pub returns-then-params-args : goal.returns-then-params-args
returns-then-params-args c = sym (arguments-uneven c.args.types.now (state c.args.tree.now).tree c.args.params.now c.args.args.now c.if-params-args.true)

pub argument_of-requires : goal.argument_of-requires
argument_of-requires c = record { plain = plain-at c.args.args.now c.loop-i.i c.index-args-i.result (omega (arith, c.if-params-args.false, c.loop-i-test.true)) c.index-args-i.is c.requires.plain }
