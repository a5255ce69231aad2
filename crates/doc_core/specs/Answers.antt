-- What calls of a document answer.
use Rattle.std.specs.Prelude.{◌≡◌, Result, Ok, Err}
use Rattle.type_core.specs.Making.{Outcome}
use Rattle.type_core.specs.Made.{refused_as}
use Rattle.doc_core.specs.declared.error.DocError.{DocError}
use Rattle.doc_core.specs.declared.error.DocError.TheVariants.{Memory, Refused}

-- the answer is what the outcome says, unless memory ran out
abbrev pub Answers : {T A : Type 0} → (T → A) → Result T DocError → Outcome A → Type 0
Answers seen (Ok given) outcome = outcome ≡ Ok (seen given)
Answers seen (Err (Refused r)) outcome = outcome ≡ Err (refused_as r)
Answers seen (Err Memory) outcome = Unit {0}
