-- Bytes in a room of a fixed size.
use Rattle.std.specs.Prelude.{ℕ, ◌+◌, Bool, List, length, nat_le}

pub record Filled : Type 0 where
  pub bytes : List ℕ
  pub space : ℕ

-- the piece has a place behind the bytes
abbrev pub has_place : List ℕ → ℕ → List ℕ → Bool
has_place bytes space piece = nat_le (length bytes + length piece) space
