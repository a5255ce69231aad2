-- What calls of the tree answer.
use Rattle.std.specs.Prelude.{◌≡◌, Result, Ok, Err}
use Rattle.type_core.specs.Making.{Outcome}
use Rattle.type_core.specs.Made.{refused_as}
use Rattle.tree_core.specs.declared.error.TreeError.{TreeError}
use Rattle.tree_core.specs.declared.error.TreeError.TheVariants.{Memory, Refused}

-- the answer is what the outcome says, unless memory ran out
abbrev pub Answers : {T A : Type 0} → (T → A) → Result T TreeError → Outcome A → Type 0
Answers seen (Ok given) outcome = outcome ≡ Ok (seen given)
Answers seen (Err (Refused r)) outcome = outcome ≡ Err (refused_as r)
Answers seen (Err Memory) outcome = Unit {0}
