-- What a part of a model is read as by itself.
use Rattle.std.specs.Prelude.{◌≡◌, Result, Ok, Err}
use Rattle.pointer_core.specs.Path.{Path}
use Rattle.expr_form.specs.declared.fault.Trouble.{Trouble}
use Rattle.expr_form.specs.declared.fault.Trouble.TheVariants.{Memory, Wrong, Astray}
use Rattle.expr_form.specs.Outcome.{Outcome, astray, reads}
use Rattle.schema_form.specs.declared.fault.FormError.{FormError}
use Rattle.schema_form.specs.declared.fault.FormError.TheVariants as error

-- what is read, or the place of the first expression that goes astray, where there is no fault
abbrev pub IsTold : {A : Type 0} → Result A Trouble → Result (Result A Path) FormError → Type 0
IsTold (Ok a) told = told ≡ Ok (Ok a)
IsTold (Err (Astray path)) told = told ≡ Ok (Err path)
IsTold (Err (Wrong fault)) told = told ≡ Err (error.Wrong fault)
IsTold (Err Memory) told = told ≡ Err error.Memory

-- the outcome that it tells: each value of it is seen by `seen`
abbrev pub outcome_of : {A B : Type 0} → (A → B) → Result A Path → Outcome B
outcome_of seen (Ok a) = reads (seen a)
outcome_of seen (Err path) = astray path
