-- What a room holds.
use Rattle.std.specs.Prelude.{◌≡◌, ℕ, ◌-◌, ◌≤◌, List, length, take, drop}

-- the bytes of a room from a start up to an end
abbrev pub held_in : List ℕ → ℕ → ℕ → List ℕ
held_in bytes start end = take (end - start) (drop start bytes)

-- these are bounds in a room of 393,216 bytes
pub record IsRoom (bytes : List ℕ) (start end : ℕ) : Type 0 where
  pub ordered : start ≤ end
  pub within : end ≤ length bytes
  pub size : length bytes ≡ 393216
