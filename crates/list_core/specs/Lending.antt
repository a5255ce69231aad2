-- A list whose item is lent.
use Rattle.std.specs.Prelude.{ℕ, List, slice_set}
use Rattle.std.specs.Borrow.{Lends, MutBor, Fml}
use denote.RattleType.{RattleType}
use Rattle.list_core.specs.contracts.parts.Parts.{the_row}

-- the list ends with what is left behind the reference in the place of its item at an index
abbrev pub LendsItem : (T : RattleType) → MutBor (List T.Denot) → ℕ → MutBor T.Denot → Fml
LendsItem T list at item = Lends (the_row T) T list item (slice_set list.now at)
