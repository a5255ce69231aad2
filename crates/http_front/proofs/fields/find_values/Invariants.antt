use Rattle.std.proofs.Common.{map, take}
use Rattle.httparse.specs.Spans.{header_bytes}
use Rattle.http_front.specs.Front.{AreValues}
use Rattle.http_front.specs.Head.{values_of}
use Rattle.http_front.proofs.fields.find_values.Given as goal

abbrev pub invariant-loop-header : goal.invariant-loop-header
invariant-loop-header l = AreValues l.found (values_of l.name (map (header_bytes l.buf) (take l.header-index l.headers)))
