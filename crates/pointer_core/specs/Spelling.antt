-- Texts that are no pointer's, and why.
use Rattle.std.specs.Prelude.{ℕ, ◌+◌, ◌==◌, ◌&&◌, ◌||◌, not, List, [], ◌∷◌, Bool, false, Option, Some, None, if◌then◌else◌}
use Rattle.std.specs.Option.{option_map}
use Rattle.pointer_core.specs.declared.error.PointerError.{PointerError}
use Rattle.pointer_core.specs.declared.error.PointerError.TheVariants.{NoSlash, BadTilde}

-- a text that begins with `0` or `1`
abbrev pub ends_escape : List ℕ → Bool
ends_escape [] = false
ends_escape (b ∷ bs) = b == 48 || b == 49

-- a text that begins with a `~` and no escape
abbrev pub is_wrong : List ℕ → Bool
is_wrong [] = false
is_wrong (b ∷ bs) = b == 126 && not (ends_escape bs)

-- where the first `~` stands that neither `0` nor `1` follows, where the text begins at a place
abbrev pub wrong_tilde_from : ℕ → List ℕ → Option ℕ
wrong_tilde_from at [] = None
wrong_tilde_from at (b ∷ bs) = if is_wrong (b ∷ bs) then Some at else wrong_tilde_from (at + 1) bs

abbrev pub wrong_tilde : List ℕ → Option ℕ
wrong_tilde text = wrong_tilde_from 0 text

-- why a text spells no path, if there is a reason
abbrev pub pointer_fault : List ℕ → Option PointerError
pointer_fault [] = None
pointer_fault (b ∷ bs) = if b == 47 then option_map BadTilde (wrong_tilde (b ∷ bs)) else Some NoSlash
