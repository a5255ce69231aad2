use Rattle.std.proofs.Common.{◌≡◌, ◌++◌}
use Rattle.expr_core.specs.Numbering.{own_places}
use Rattle.expr_core.proofs.numbering.Numbering.add.Given as goal

abbrev pub invariant-loop-at : goal.invariant-loop-at
invariant-loop-at l = record {
  starts : l.self.starts ≡ l.initial.self.starts;
  places : l.self.places ≡ l.initial.self.places ++ own_places l.model l.at;
}
