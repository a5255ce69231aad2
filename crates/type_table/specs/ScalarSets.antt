-- Sets of scalars.
use Rattle.std.specs.Prelude.{Bool, true, false, is_some}
use Rattle.std.specs.Ordering.{int_cmp, nat_cmp}
use Rattle.std.specs.Cmp.Lexicographic.{slice_cmp}
use Rattle.std.specs.BTreeMap as tree
use Rattle.snap_core.specs.Value.{Value, null, boolean, integer, text}
use Rattle.type_table.specs.declared.scalar_set.ScalarSet.{ScalarSet}

-- whether a scalar is in the set
abbrev pub has : ScalarSet → Value → Bool
has s null = s.null
has s (boolean true) = s.on
has s (boolean false) = s.off
has s (integer z) = is_some (tree.get int_cmp s.integers z)
has s (text t) = is_some (tree.get_by (λ k. slice_cmp nat_cmp t k.now) s.texts)
has s _ = false
