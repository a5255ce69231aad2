use Rattle.std.proofs.Common.{◌≡◌, ◌∙◌, arith}
use Rattle.host_core.specs.Docs.{names_of}
use Rattle.host_core.specs.Inside.{held_docs}
use Rattle.host_core.proofs.Telling.{names-told}
use Rattle.host_core.proofs.answer.answer_list.Goals as goal

pub returns : goal.returns
returns c =
    let names : c.loop-held.names.items ≡ names_of (held_docs c.args.docs.now) =
    c.loop-held.invariant ∙ names-told c.loop-held.held-index c.args.docs.now (omega (arith, c.loop-held-test.false)) in
    rw names at c.names_reply.ensures
