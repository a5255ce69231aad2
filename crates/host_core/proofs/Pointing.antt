-- What a query's pointer comes to.
use Rattle.std.proofs.Common.{◌≡◌, ℕ, List, Option, Some, None, Result, Err, refl, subst}
use Rattle.std.specs.Prelude.{IsSome, MatchOption, IfErr, IsErrOf}
use Rattle.pointer_core.specs.Path.{Path}
use Rattle.pointer_core.specs.Spelling.{pointer_fault}
use Rattle.pointer_core.specs.declared.error.PointerError.{PointerError}
use Rattle.pointer_core.specs.declared.error.PointerError.TheVariants.{Memory}

faulty : (fault : Option PointerError) (result : Result Path PointerError) (e : PointerError) → result ≡ Err e → (e ≡ Memory → ⊥)
    → MatchOption fault (IfErr result (λ (error : PointerError). error ≡ Memory)) (λ (f : PointerError). IsErrOf result f) → IsSome fault
faulty (Some f) result e is other h = refl
faulty None result e is other h = let P : Result Path PointerError → Type 0 = λ r. IfErr r (λ (error : PointerError). error ≡ Memory) in absurd (other (subst P is h))

-- the pointer of a query is refused
pub no-pointer : (text named : List ℕ) (result : Result Path PointerError) (e : PointerError) → named ≡ text → result ≡ Err e → (e ≡ Memory → ⊥)
    → MatchOption (pointer_fault named) (IfErr result (λ (error : PointerError). error ≡ Memory)) (λ (f : PointerError). IsErrOf result f) → IsSome (pointer_fault text)
no-pointer text named result e same is other h =
    let P : List ℕ → Type 0 = λ t. IsSome (pointer_fault t) in subst P same (faulty (pointer_fault named) result e is other h)
