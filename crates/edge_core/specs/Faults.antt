-- Counts of faults, and the calls that are told to fail.
use Rattle.std.specs.Prelude.{ℕ, ◌≡◌, ◌<◌, ◌+◌, ◌⊎◌, ◌==◌, min, Bool, List, if◌then◌else◌}
use Rattle.std.specs.List.{list_any}

-- the count is higher, or stands at the largest number that it can hold
abbrev pub HasRisen : ℕ → ℕ → Type 0
HasRisen old new = (old < new) ⊎ (new ≡ 18446744073709551615)

-- one more, as far as the count can go
abbrev pub risen : ℕ → ℕ
risen n = min (n + 1) 18446744073709551615

-- how many calls there were and how many failed, and the numbers of those that are to fail
pub record PlannedFaults : Type 0 where
  pub calls : ℕ
  pub count : ℕ
  pub failing : List ℕ

-- the next call is one of those that are to fail
abbrev pub is_next_failing : PlannedFaults → Bool
is_next_failing faults = list_any (λ n. n == risen faults.calls) faults.failing

-- after a call that failed, or did not
abbrev pub after_call : PlannedFaults → Bool → PlannedFaults
after_call faults failed =
    record faults { calls = risen faults.calls; count = if failed then risen faults.count else faults.count }
