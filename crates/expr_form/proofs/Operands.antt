-- Parts of a form that are expressions.
use Rattle.std.proofs.Common.{◌≡◌, ℕ, Result, decimal, subst}
use Rattle.snap_core.specs.Value.{Value}
use Rattle.expr_form.specs.declared.fault.Trouble.{Trouble}
use Rattle.expr_form.specs.Results.{lowered, IsOrMemory}
use Rattle.expr_form.specs.Outcome.{Outcome, at, Tells}
use Rattle.expr_form.specs.Expressions.{Names}
use Rattle.expr_form.proofs.Telling.{tells-lowered}

-- what is read where the same names are bound
pub same-names : {A B : Type 0} (seen : A → B) (read : Names → Value → Outcome B) (r : Result A Trouble) (names before : Names) (v : Value)
    → before ≡ names → Tells seen r (read before v) → Tells seen r (read names v)
same-names seen read r names before v same h = let P : Names → Type 0 = λ ns. Tells seen r (read ns v) in subst P same h

-- a part under its index
pub part-at : {A B : Type 0} (seen : A → B) (read : Names → Value → Outcome B) (n : ℕ) (inner result : Result A Trouble) (names before : Names) (v : Value)
    → before ≡ names → IsOrMemory result (lowered (decimal n) inner) → Tells seen inner (read before v) → Tells seen result (at n (read names v))
part-at seen read n inner result names before v same is h =
    tells-lowered seen (decimal n) inner result (read names v) is (same-names seen read inner names before v same h)
