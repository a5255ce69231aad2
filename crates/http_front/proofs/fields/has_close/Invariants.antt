use Rattle.std.proofs.Common.{◌≡◌, map, take, codes}
use Rattle.std.specs.List.{list_any}
use Rattle.httparse.specs.Spans.{header_bytes}
use Rattle.http_front.specs.Head.{values_of}
use Rattle.http_front.specs.Request.{is_close}
use Rattle.http_front.proofs.fields.has_close.Given as goal

abbrev pub invariant-loop-header : goal.invariant-loop-header
invariant-loop-header l =
    l.found ≡ list_any is_close (values_of (codes "connection") (map (header_bytes l.buf) (take l.header-index l.headers)))
