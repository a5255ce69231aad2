-- What making came to, told at once.
use Rattle.std.proofs.Common.{◌≡◌, Result, Ok, Err, IfOk}
use Rattle.snap_core.specs.declared.snap.Snap.{Snap}
use Rattle.snap_core.specs.Value.{Value}
use Rattle.snap_core.specs.View.{view}
use Rattle.type_core.specs.declared.making.MakeError.{MakeError}
use Rattle.type_core.specs.declared.making.MakeError.TheVariants.{Memory, Refused}
use Rattle.type_core.specs.Making.{Outcome}
use Rattle.type_core.specs.Made.{Answers, IfRefused, refused_as}

pub answers_made : (result : Result Snap MakeError) (outcome : Outcome Value)
    → IfOk result (λ s. outcome ≡ Ok (view s)) → IfRefused result (λ r. outcome ≡ Err (refused_as r)) → Answers view result outcome
answers_made (Ok s) outcome made refused = made
answers_made (Err (Refused r)) outcome made refused = refused
answers_made (Err Memory) outcome made refused = tt
