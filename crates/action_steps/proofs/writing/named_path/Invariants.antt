use Rattle.std.proofs.Common.{◌≡◌, ◌++◌, drop}
use Rattle.live_tree.specs.Contents.{state}
use Rattle.action_core.specs.Behaving.{node_path}
use Rattle.action_steps.proofs.writing.named_path.Given as goal

abbrev pub invariant-loop-token : goal.invariant-loop-token
invariant-loop-token l = l.path ++ drop l.token-index l.w.tokens ≡ node_path l.w.node (state l.tree).tree ++ l.w.tokens
