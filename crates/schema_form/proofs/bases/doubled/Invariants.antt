use Rattle.std.proofs.Common.{◌≡◌, map, take}
use Rattle.schema_form.specs.Bases.{followed}
use Rattle.schema_form.proofs.bases.doubled.Given as goal

abbrev pub invariant-loop-link : goal.invariant-loop-link
invariant-loop-link l = l.further.items ≡ map (followed l.links) (take l.link-index l.links)
