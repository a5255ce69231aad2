-- What a call that makes a value answers.
use Rattle.std.specs.Prelude.{◌≡◌, Option, Some, None, Result, Ok, Err}
use Rattle.std.specs.Borrow.{Bor}
use Rattle.snap_core.specs.declared.snap.Snap.{Snap}
use Rattle.snap_core.specs.Value.{Value}
use Rattle.snap_core.specs.View.{view}
use Rattle.pointer_core.specs.declared.refusal.Refusal.{Refusal}
use Rattle.type_core.specs.declared.making.MakeError.{MakeError}
use Rattle.type_core.specs.declared.making.MakeError.TheVariants.{Memory, Refused}
use Rattle.type_core.specs.Making as making
use Rattle.type_core.specs.Making.{Outcome}

-- the value that is given, or none
abbrev pub value_of : Option (Bor Snap) → Option Value
value_of None = None
value_of (Some s) = Some (view s.now)

-- the rule and the place of a refusal
abbrev pub refused_as : Refusal → making.Refused
refused_as r = record { path = r.path; rule = r.rule }

-- the answer is what the outcome says, unless memory ran out
abbrev pub Answers : {T A : Type 0} → (T → A) → Result T MakeError → Outcome A → Type 0
Answers seen (Ok made) outcome = outcome ≡ Ok (seen made)
Answers seen (Err (Refused r)) outcome = outcome ≡ Err (refused_as r)
Answers seen (Err Memory) outcome = Unit {0}

-- a fact of the refusal, where there is one
abbrev pub IfRefused : {T : Type 0} → Result T MakeError → (Refusal → Type 0) → Type 0
IfRefused (Ok made) P = Unit {0}
IfRefused (Err (Refused r)) P = P r
IfRefused (Err Memory) P = Unit {0}
