-- What is added so far, and what is left, are all.
use Rattle.std.proofs.Common.{◌≡◌, ◌++◌, drop}
use Rattle.tree_core.proofs.paths.joined.Given as goal

abbrev pub invariant-loop-token : goal.invariant-loop-token
invariant-loop-token l = l.path ++ drop l.token-index l.token-items ≡ l.first ++ l.rest
