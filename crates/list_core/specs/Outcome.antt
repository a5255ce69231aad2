-- What calls answer, in short words.
use Rattle.std.specs.Prelude.{◌≡◌, Result, IfOk}

-- where the call succeeds, it gives this value
abbrev pub Gives : {T E : Type 0} → Result T E → T → Type 0
Gives result value = IfOk result (λ given. given ≡ value)
