-- Such a path is text.
use Rattle.std.proofs.Common.{rules}
use Rattle.route_core.proofs.Plain.{plain_utf8}
use Rattle.route_core.proofs.routes.Routes.place.Goals as goal

pub returns-in-Err : goal.returns-in-Err
returns-in-Err c = absurd (c.in-Err.ensures.cases.0 (plain_utf8 c.args.path.now (search rules)))
