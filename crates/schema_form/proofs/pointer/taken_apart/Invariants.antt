use Rattle.std.proofs.Common.{◌≡◌, map}
use Rattle.schema_form.specs.declared.form.Expression.{Expression}
use Rattle.schema_form.specs.Pointers as pointers
use Rattle.schema_form.proofs.pointer.taken_apart.Given as goal

abbrev pub invariant-loop-expression : goal.invariant-loop-expression
invariant-loop-expression l = (l.places ≡ pointers.places_of l.yielded) × (l.kinds ≡ map (λ (e : Expression). e.kind) l.yielded)
