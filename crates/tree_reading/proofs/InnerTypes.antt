-- Types seen through names, optionals and maybes.
use Rattle.std.proofs.Common.{◌≡◌, ℕ, suc, ◌+◌, ◌-◌, ◌<◌, arith}
use Rattle.type_table.specs.Table.{Table, shape_at}
use Rattle.tree_core.specs.Asking.{inner_within, inner_step}

-- one step further, while some are left
pub inner_within-step : (table : Table) (i n t : ℕ) → i < n
    → inner_within table (n - i) t ≡ inner_step (inner_within table (n - (i + 1))) t (shape_at table t)
inner_within-step table i n t below = let e : n - i ≡ suc (n - (i + 1)) = omega arith in rw e
