-- A count of faults that rose has risen over a longer time.
use Rattle.std.proofs.Common.{ℕ, ◌≤◌, inl, inr, arith}
use Rattle.std.proofs.lemmas.Bool.{cases_lt}
use Rattle.edge_core.specs.Faults.{HasRisen}

pub risen-longer : (a b c d : ℕ) → a ≤ b → c ≤ d → b ≤ c → HasRisen b c → HasRisen a d
risen-longer a b c d h k m (inl lt) = inl (omega arith)
risen-longer a b c d h k m (inr e) = elim (cases_lt a d) [ inl lt ↦ inl lt | inr ge ↦ inr (omega arith) ]
