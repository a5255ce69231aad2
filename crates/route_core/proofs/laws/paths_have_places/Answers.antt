-- Each path is computed.
use Rattle.std.proofs.Common.{refl}
use Rattle.matchit.proofs.OnLiterals.{matchit_on_literals}
use Rattle.route_core.specs.Path.{routes}
use Rattle.route_core.proofs.laws.paths_have_places.Goals as goal

pub returns : goal.returns
unfolding matchit_on_literals routes
returns c = record {
  check = refl;
  names = refl;
  document = refl;
  snapshot = refl;
  patches = refl;
  reference = refl;
  actions = refl;
  view = refl;
  empty = refl;
  slash_after = refl;
  slash_before = refl;
  no_name = refl;
  no_name_within = refl;
  bad_name = refl;
  escaped = refl;
  no_view = refl;
  below_view = refl;
  other_part = refl;
}
