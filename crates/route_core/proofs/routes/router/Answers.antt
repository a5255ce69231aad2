-- The rows are added one after another, as in the definition.
use Rattle.std.proofs.Common.{refl}
use Rattle.route_core.specs.Path.{routes}
use Rattle.route_core.proofs.routes.router.Goals as goal

pub returns : goal.returns
unfolding routes
returns c =
    rw (
      c.in_ok-add-8.ensures,
      c.in_ok-add-7.ensures,
      c.in_ok-add-6.ensures,
      c.in_ok-add-5.ensures,
      c.in_ok-add-4.ensures,
      c.in_ok-add-3.ensures,
      c.in_ok-add-2.ensures,
      c.in_ok-add.ensures,
      c.new-router.ensures,
    ) refl
