use Rattle.std.proofs.Common.{◌≡◌}
use Rattle.snap_core.specs.View.{view}
use Rattle.edit_core.specs.Comparing.{is_equal}
use Rattle.plain_ops.proofs.Equality.{equal-views}
use Rattle.plain_ops.proofs.operators.plain_op.Goals as goal

pub returns-in-Eq : goal.returns-in-Eq
returns-in-Eq c =
    let e : c.equal.result ≡ is_equal (view c.args.a.now) (view c.args.b.now) = equal-views c.equal.result c.args.a.now c.args.b.now c.equal.ensures in
    rw (c.in-Eq.is, ← e) c.truth.ensures
