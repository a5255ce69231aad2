use Rattle.std.proofs.Common.{inl, inr, sym, ◌∙◌}
use Rattle.http_front.specs.Request.{seen}
use Rattle.http_front.proofs.HeadLemmas.{is_large, covers, has_request}
use Rattle.http_front.proofs.request.after_head.Goals as goal

pub returns-then-spans-gt-MOST_HEAD_BYTES-clause-arrives : goal.returns-then-spans-gt-MOST_HEAD_BYTES-clause-arrives
returns-then-spans-gt-MOST_HEAD_BYTES-clause-arrives c =
    inr (inl (is_large c.args.bytes.now c.args.headers.now c.args.spans.now c.requires c.if-spans-gt-MOST_HEAD_BYTES.true))

pub returns-in-Ok-clause-arrives : goal.returns-in-Ok-clause-arrives
returns-in-Ok-clause-arrives c =
    let bytes = c.args.bytes.now in
    let headers = c.args.headers.now in
    let spans = c.args.spans.now in
    has_request bytes headers spans c.requires c.if-spans-gt-MOST_HEAD_BYTES.false c.in-Ok.n (sym c.in-Ok.is ∙ c.body_length.ensures.length)
    c.if-n-bytes.true (seen c.request_of.result) (c.request_of.ensures c.requires.head (covers bytes headers spans c.requires))
