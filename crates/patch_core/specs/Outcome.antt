-- What calls that change a value in place answer.
use Rattle.std.specs.Prelude.{◌≡◌, ◌≢◌, Result, Ok, Err}
use Rattle.patch_core.specs.declared.error.PatchError.{PatchError}
use Rattle.patch_core.specs.declared.error.PatchError.TheVariants.{Memory}

-- the outcome is what the call left, or the call's error, want of memory aside
abbrev pub Answers : {T X : Type 0} → Result T PatchError → Result X PatchError → X → Type 0
Answers (Ok done) outcome now = outcome ≡ Ok now
Answers (Err error) outcome now = error ≢ Memory → outcome ≡ Err error
