use Rattle.std.proofs.Common.{◌≡◌, ℤ, cond, Some, subst, w64}
use Rattle.std.proofs.lemmas.Int.{to_z-of_z}
use Rattle.std.specs.BTreeMap as tree
use Rattle.std.specs.Ordering.{int_eq, int_cmp}
use Rattle.type_table.proofs.TakenLemmas.{has-integer_more}
use Rattle.type_table.proofs.scalar_set.ScalarSet.insert_integer.Goals as goal

pub returns : goal.returns
returns c =
    let old = c.args.self.now in
    let P : ℤ → Type 0 = λ z. (q : ℤ) → tree.get int_cmp c.insert.new.self q ≡ cond (int_eq z q) (Some tt) (tree.get int_cmp old.integers q) in
    has-integer_more old c.insert.new.self c.args.n (subst P (to_z-of_z w64 c.args.n c.ranges.n) c.in_ok-insert.ensures.updates.0)
