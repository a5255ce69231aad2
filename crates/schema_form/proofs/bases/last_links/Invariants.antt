use Rattle.std.proofs.Common.{◌^◌}
use Rattle.schema_form.specs.Bases.{AreLinks}
use Rattle.schema_form.proofs.bases.last_links.Given as goal

abbrev pub invariant-loop-round : goal.invariant-loop-round
invariant-loop-round l = AreLinks l.types (2 ^ l._round) l.links.items
