-- What is read of the fields of an object, each under its key.
use Rattle.std.specs.Prelude.{ℕ, List, [], ◌∷◌}
use Rattle.snap_core.specs.Value.{Value, no_members, member, Fields}
use Rattle.expr_form.specs.Outcome.{Outcome, reads, under, both, made}

abbrev pub fields_read : {A : Type 0} → (List ℕ × Value → Outcome A) → Fields → Outcome (List A)
fields_read read no_members = reads []
fields_read read (member k v ms) = made (λ q. q.0 ∷ q.1) (both (under k (read (k, v))) (fields_read read ms))
