use Rattle.std.proofs.Common.{◌≡◌, ◌<◌, None, length, refl, sym, subst}
use Rattle.live_tree.specs.Contents.{state}
use Rattle.doc_core.specs.Documents.{IsDocument}
use Rattle.host_core.specs.declared.held.Held.{Held}
use Rattle.host_core.specs.Asking.{Acts}
use Rattle.host_core.specs.Docs.{find}
use Rattle.host_core.specs.Inside.{StandsAt, closes, held_docs, visit_of}
use Rattle.host_core.proofs.AllHeld.{held-set, same-set}
use Rattle.host_core.proofs.Replying.{on-changed, on-none}
use Rattle.host_core.proofs.answer.act_named.Goals as goal

pub act-requires : goal.act-requires
act-requires c =
    let docs = c.args.docs.now.items in
    let within : c.in-Some.at < length docs = rw c.deref.ensures.value at c.in-Some.ensures.within in
    let P : Held → Type 0 = λ h. IsDocument c.args.visit.now.schema.now.types (state h.document) in
    subst P (sym c.index_mut.ensures.value) (c.requires.documents c.in-Some.at c.index_mut.result.now within)

pub returns-in-Some-clause-answer : goal.returns-in-Some-clause-answer
returns-in-Some-clause-answer c =
    let docs = c.args.docs.now.items in
    let stands : StandsAt c.args.name.now c.in-Some.at docs = rw c.deref.ensures.value at c.in-Some.ensures.stands in
    let new : Held = record { name = c.index_mut.result.now.name; document = c.act.new.document } in
    on-changed (closes c.args.visit.now) (Acts (visit_of c.args.visit.now)) c.args.name.now docs _ c.in-Some.at c.index_mut.result.now new c.act.result
    stands c.index_mut.ensures.value refl refl c.act.ensures.done

pub returns-in-Some-clause-held : goal.returns-in-Some-clause-held
returns-in-Some-clause-held c =
    let docs = c.args.docs.now.items in
    let stands : StandsAt c.args.name.now c.in-Some.at docs = rw c.deref.ensures.value at c.in-Some.ensures.stands in
    let new : Held = record { name = c.index_mut.result.now.name; document = c.act.new.document } in
    held-set c.args.visit.now.schema.now.types c.args.name.now docs c.in-Some.at c.index_mut.result.now new c.requires stands c.index_mut.ensures.value refl c.act.ensures.document

pub returns-in-Some-clause-err : goal.returns-in-Some-clause-err
returns-in-Some-clause-err c =
    let docs = c.args.docs.now.items in
    let stands : StandsAt c.args.name.now c.in-Some.at docs = rw c.deref.ensures.value at c.in-Some.ensures.stands in
    let new : Held = record { name = c.index_mut.result.now.name; document = c.act.new.document } in
    same-set c.args.name.now docs c.in-Some.at c.index_mut.result.now new c.act.result stands c.index_mut.ensures.value refl c.act.ensures.err

pub returns-in-None-clause-answer : goal.returns-in-None-clause-answer
returns-in-None-clause-answer c =
    let none : find c.args.name.now (held_docs c.args.docs.now.items) ≡ None = rw c.deref.ensures.value at c.in-None.ensures.none in
    on-none (closes c.args.visit.now) (Acts (visit_of c.args.visit.now)) c.args.name.now (held_docs c.args.docs.now.items) c.unknown.result none c.unknown.ensures
