-- The names that are bound.
use Rattle.std.specs.Prelude.{ℕ, List, [], ◌∷◌, codes, Bool}
use Rattle.std.specs.List.{list_any}
use Rattle.std.specs.Str.{bytes_eq}

-- a text among some texts
abbrev pub is_among : List (List ℕ) → List ℕ → Bool
is_among texts s = list_any (bytes_eq s) texts

-- the names that are bound everywhere, and that nothing binds again
abbrev pub always_bound : List (List ℕ)
always_bound = codes "self" ∷ codes "root" ∷ []
