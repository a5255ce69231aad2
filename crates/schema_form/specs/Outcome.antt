-- What a part of the walk comes to: no fault, or the first one.
use Rattle.std.specs.Prelude.{◌≡◌, List, [], Some, Result, Ok, Err}
use Rattle.expr_form.specs.declared.fault.Fault.{Fault}
use Rattle.schema_form.specs.declared.fault.FormError.{FormError}
use Rattle.schema_form.specs.declared.fault.FormError.TheVariants.{Memory, Wrong}
use Rattle.schema_form.specs.Faults.{first}

-- an error tells the first of these faults, or that memory ran out
abbrev pub Tells : FormError → List Fault → Type 0
Tells (Wrong fault) faults = first faults ≡ Some fault
Tells Memory faults = Unit {0}

-- with these faults a walk comes to an end only if there is none, and to a fault only if it is the first
abbrev pub Finds : {T : Type 0} → Result T FormError → List Fault → Type 0
Finds (Ok v) faults = faults ≡ []
Finds (Err error) faults = Tells error faults
