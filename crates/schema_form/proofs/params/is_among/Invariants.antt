use Rattle.std.proofs.Common.{◌≡◌, drop}
use Rattle.schema_form.specs.Faults.{is_among}
use Rattle.schema_form.specs.Setting.{names_of}
use Rattle.schema_form.proofs.params.is_among.Given as goal

abbrev pub invariant-loop-param : goal.invariant-loop-param
invariant-loop-param l = is_among (names_of l.earlier) l.name ≡ is_among (names_of (drop l.param-index l.earlier)) l.name
