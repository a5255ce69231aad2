use Rattle.std.proofs.Common.{◌≡◌}
use Rattle.form_urlencoded.specs.Parse.{raw_pairs_left}
use Rattle.http_front.specs.Query as spec
use Rattle.http_front.proofs.query.query_value.Given as goal

abbrev pub invariant-loop-encoded : goal.invariant-loop-encoded
invariant-loop-encoded l = spec.value_among l.name (raw_pairs_left l.encoded-iterator) ≡ spec.query_value l.query l.name
