-- The texts so far are taken by one member more.
use Rattle.std.proofs.Common.{List, ◌∷◌, map, take}
use Rattle.snap_core.specs.Value.{text}
use Rattle.type_table.specs.Unions.{Scalars, these}
use Rattle.type_table.specs.Taking.{AreTaken}
use Rattle.type_table.proofs.taken.Taken.add_each.Given as goal

abbrev pub invariant-loop-one : goal.invariant-loop-one
invariant-loop-one l =
    (taken : List Scalars) → AreTaken l.initial.self taken → AreTaken l.self (these (map text (take l.one-index l.texts)) ∷ taken)
