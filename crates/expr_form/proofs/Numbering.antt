-- Numbers that are looked at one after the other.
use Rattle.std.proofs.Common.{◌≡◌, Result, Ok, Err, sym, ◌∙◌, ap, subst}
use Rattle.std.specs.Prelude.{IsErrAnd}
use Rattle.expr_form.specs.declared.fault.Trouble.{Trouble}
use Rattle.expr_form.specs.declared.fault.Trouble.TheVariants.{Memory, Wrong, Astray}
use Rattle.expr_form.specs.Outcome.{Outcome, reads, Tells}
use Rattle.expr_form.specs.Numbers.{behind}

abbrev pub Checks : {A : Type 0} → Result A Trouble → Outcome (Unit {0}) → Type 0
Checks result o = Tells (λ u. tt) result o

-- what is told of the first is told of all
pub found-first : {A : Type 0} (C : Type 0) (e : Trouble) (r : Result A Trouble) (first rest whole : Outcome (Unit {0}))
    → IsErrAnd r (λ x. x ≡ e) → whole ≡ behind first rest → Checks {A = C} (Err e) first → Checks r whole
found-first C e (Ok a) first rest whole is same h = absurd is
found-first C Memory (Err x) first rest whole is same h =
    let P : Trouble → Type 0 = λ y. Checks {A = Unit {0}} (Err y) whole in subst P (sym is) tt
found-first C (Wrong f) (Err x) first rest whole is same h =
    let P : Trouble → Type 0 = λ y. Checks {A = Unit {0}} (Err y) whole in subst P (sym is) (same ∙ ap (λ o. behind o rest) h)
found-first C (Astray p) (Err x) first rest whole is same h =
    let P : Trouble → Type 0 = λ y. Checks {A = Unit {0}} (Err y) whole in subst P (sym is) (same ∙ ap (λ o. behind o rest) h)

-- behind what is in order the rest is all
pub passed-first : (first rest whole : Outcome (Unit {0})) → whole ≡ behind first rest → first ≡ reads tt → whole ≡ rest
passed-first first rest whole same h = same ∙ ap (λ o. behind o rest) h
