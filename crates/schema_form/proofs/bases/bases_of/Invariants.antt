use Rattle.std.proofs.Common.{◌≡◌, map, take}
use Rattle.schema_form.specs.Bases.{ended}
use Rattle.schema_form.proofs.bases.bases_of.Given as goal

abbrev pub invariant-loop-link : goal.invariant-loop-link
invariant-loop-link l = l.bases.items ≡ map ended (take l.link-index l.link-items)
