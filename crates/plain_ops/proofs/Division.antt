-- A division by anything but 0.
use Rattle.std.proofs.Common.{◌≡◌, ℤ, pos, Bool, true, false, Ok, Err, if◌then◌else◌, refl}
use Rattle.std.specs.Ordering.{int_eq}
use Rattle.std.proofs.lemmas.Bool.Decides.{Decides-int_eq}
use Rattle.snap_core.specs.Value.{integer}
use Rattle.pointer_core.specs.declared.refusal.Rule.{Rule}
use Rattle.plain_ops.specs.Outcome.{Outcome}
use Rattle.plain_ops.specs.Applied.{divided}

pub divided-other : (f : ℤ → ℤ → ℤ) (y z : ℤ) → (z ≡ pos 0 → ⊥) → divided f y z ≡ Ok (integer (f y z))
divided-other f y z h = by_test (int_eq z (pos 0)) refl
  where
    by_test : (b : Bool) → int_eq z (pos 0) ≡ b → ◌≡◌ {A = Outcome} (if b then Err Rule.Range else Ok (integer (f y z))) (Ok (integer (f y z)))
    by_test true e = absurd (h ((Decides-int_eq z (pos 0)).0 e))
    by_test false e = refl
