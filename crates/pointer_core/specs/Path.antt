-- Pointers to places, as RFC 6901 spells them.
use Rattle.std.specs.Prelude.{ℕ, ◌==◌, List, [], ◌∷◌, codes, if◌then◌else◌}
use Rattle.std.specs.List.{flat_map}

-- the tokens from the root to a place
abbrev pub Path : Type 0
Path = List (List ℕ)

-- `~` and `/` are written `~0` and `~1`, and any other byte is itself
abbrev pub escaped_byte : ℕ → List ℕ
escaped_byte b = if b == 126 then codes "~0" else if b == 47 then codes "~1" else b ∷ []

abbrev pub escaped : List ℕ → List ℕ
escaped token = flat_map escaped_byte token

-- each token behind a `/`
abbrev pub printed : Path → List ℕ
printed path = flat_map (λ token. 47 ∷ escaped token) path
