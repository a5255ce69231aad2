-- What it says of each part that there are no faults.
use Rattle.std.proofs.Common.{◌≡◌, ℕ, List, [], ◌∷◌, ◌++◌, Bool, true, false, refl}
use Rattle.pointer_core.specs.declared.schema_rule.SchemaRule.{SchemaRule}
use Rattle.expr_form.specs.declared.fault.Fault.{Fault}
use Rattle.schema_form.specs.Faults.{here, unless, under}

pub append_none : {X : Type 0} (xs ys : List X) → xs ++ ys ≡ [] → (xs ≡ []) × (ys ≡ [])
append_none [] ys h = (refl, h)
append_none (x ∷ xs) ys h = cc

pub under_none : (token : List ℕ) (faults : List Fault) → under token faults ≡ [] → faults ≡ []
under_none token [] h = refl
under_none token (f ∷ fs) h = cc

pub unless_none : (b : Bool) (rule : SchemaRule) → unless b rule ≡ [] → b ≡ true
unless_none true rule h = refl
unless_none false rule h = cc

pub here_some : (rule : SchemaRule) → here rule ≡ [] → ⊥
here_some rule h = cc
