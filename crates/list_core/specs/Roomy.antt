-- Lists whose room is seen.
use Rattle.std.specs.Prelude.{◌≡◌, ℕ, ◌+◌, ◌≤◌, List, length, refl}
use Rattle.std.specs.Coded.{Coded, code_by, coded×, coded_ℕ, coded_list}

-- the items, and how many items fit before memory is asked for
pub record Roomy (T : Type 0) : Type 0 where
  pub items : List T
  pub capacity : ℕ

abbrev pub roomy_code : {T : Type 0} → Coded T → Coded (Roomy T)
roomy_code {T = T} code = code_by (List T × ℕ) (coded× (coded_list code) coded_ℕ) (λ r. (r.items, r.capacity)) (λ p. record { items = p.0; capacity = p.1 }) (λ _. refl)

-- so many more items fit
abbrev pub HasRoom : {T : Type 0} → Roomy T → ℕ → Type 0
HasRoom list more = length list.items + more ≤ list.capacity

-- other items in the same memory
abbrev pub holding : {T : Type 0} → Roomy T → List T → Roomy T
holding list items = record { items = items; capacity = list.capacity }
