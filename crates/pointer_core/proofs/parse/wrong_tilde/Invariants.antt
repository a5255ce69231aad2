-- The search from here on finds what the whole search finds.
use Rattle.std.proofs.Common.{◌≡◌, drop}
use Rattle.pointer_core.specs.Spelling.{wrong_tilde, wrong_tilde_from}
use Rattle.pointer_core.proofs.parse.wrong_tilde.Given as goal

abbrev pub invariant-loop-at : goal.invariant-loop-at
invariant-loop-at l = wrong_tilde_from l.at (drop l.at l.text) ≡ wrong_tilde l.text
