-- A type that leads to lower levels alone doesn't lead back to itself.
use Rattle.std.proofs.Common.{◌≡◌, ℕ, ◌<◌, ◌≤◌, List, [], Some, get_or, Contains, All, arith, subst}
use Rattle.std.proofs.lemmas.List.Elements.{All-contains}
use Rattle.snap_core.specs.declared.number.TypeNo.{TypeNo}
use Rattle.type_table.specs.declared.shape.Shape.{Shape}
use Rattle.type_table.specs.Table.{Table, shape_at, leads_of}
use Rattle.type_table.specs.Names.{LeadsTo, at_once, by_way}
use Rattle.type_draft.specs.Reaching.{leads_at}
use Rattle.type_draft.specs.Levels.{AreLevels, IsAbove}
use Rattle.type_draft.proofs.Loops.{leads_from_shape}

-- what holds of each lead holds of one
lead-All : (P : TypeNo → Type 0) (table : Table) (t : ℕ) (shape : Shape) (u : TypeNo) → shape_at table t ≡ Some shape
    → Contains (leads_of shape) u → All P (leads_at table t) → P u
lead-All P table t shape u is c all =
    let Q : List TypeNo → Type 0 = λ us. All P us in
    All-contains P (leads_of shape) u (subst Q (leads_from_shape table t shape is) all) c

-- what a type leads to is no higher than it
LeadsTo-level : (table : Table) (levels : List ℕ) → AreLevels table levels → (t w : ℕ) → LeadsTo table t w → get_or levels w 0 ≤ get_or levels t 0
LeadsTo-level table levels all _ _ (at_once t shape u is c) =
    lead-All (λ u. get_or levels u.0 0 ≤ get_or levels t 0) table t shape u is c (all t)
LeadsTo-level table levels all _ _ (by_way t shape u w is c on) =
    let here : get_or levels u.0 0 ≤ get_or levels t 0 = lead-All (λ u. get_or levels u.0 0 ≤ get_or levels t 0) table t shape u is c (all t) in
    let further = LeadsTo-level table levels all u.0 w on in
    omega arith

-- what a type above its leads leads to is lower than it
LeadsTo-below : (table : Table) (levels : List ℕ) → AreLevels table levels → (t w : ℕ) → LeadsTo table t w → IsAbove table levels t → get_or levels w 0 < get_or levels t 0
LeadsTo-below table levels all _ _ (at_once t shape u is c) above =
    lead-All (λ u. get_or levels u.0 0 < get_or levels t 0) table t shape u is c above
LeadsTo-below table levels all _ _ (by_way t shape u w is c on) above =
    let here : get_or levels u.0 0 < get_or levels t 0 = lead-All (λ u. get_or levels u.0 0 < get_or levels t 0) table t shape u is c above in
    let further = LeadsTo-level table levels all u.0 w on in
    omega arith

pub not_back : (table : Table) (levels : List ℕ) (t : ℕ) → AreLevels table levels → IsAbove table levels t → ¬ (LeadsTo table t t)
not_back table levels t all above back = let below = LeadsTo-below table levels all t t back above in omega arith

-- where no number is given, all levels are the same
pub AreLevels-none : (table : Table) → AreLevels table []
AreLevels-none table t = λ k d h. omega arith
