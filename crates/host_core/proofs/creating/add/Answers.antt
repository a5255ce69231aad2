use Rattle.std.proofs.Common.{◌≡◌, ℕ, List, ap, ◌∙◌, arith}
use Rattle.std.specs.Prelude.{insert}
use Rattle.host_core.specs.declared.held.Held.{Held}
use Rattle.host_core.specs.Docs.{Doc, with_doc}
use Rattle.host_core.specs.Inside.{held_docs, place_in, snapshot_of}
use Rattle.host_core.proofs.Holding.{place-within, place-inserted}
use Rattle.host_core.proofs.AllHeld.{held-inserted}
use Rattle.host_core.proofs.creating.add.Goals as goal

pub insert-requires : goal.insert-requires
insert-requires c = omega (arith, c.place_for-at.ensures, place-within c.args.name.now c.deref.result.now, c.deref.ensures.len)

pub returns-clause-docs : goal.returns-clause-docs
returns-clause-docs c =
    let docs : List Held = c.args.docs.now.items in
    let held : Held = record { name = c.in_ok-copy.field-0; document = c.args.document } in
    let at : c.place_for-at.result ≡ place_in c.args.name.now docs = c.place_for-at.ensures ∙ ap (place_in c.args.name.now) c.deref.ensures.value in
    let doc : List ℕ → Doc = λ n. record { name = n; snapshot = snapshot_of c.args.document } in
    ap held_docs c.in_ok-insert.ensures.items ∙ ap (λ n. held_docs (insert docs n held)) at ∙ place-inserted c.args.name.now docs held c.in_ok-copy.ensures
    ∙ ap (λ n. with_doc (doc n) (held_docs docs)) c.in_ok-copy.ensures

pub returns-clause-held : goal.returns-clause-held
returns-clause-held c =
    let docs : List Held = c.args.docs.now.items in
    let held : Held = record { name = c.in_ok-copy.field-0; document = c.args.document } in
    let at : c.place_for-at.result ≡ place_in c.args.name.now docs = c.place_for-at.ensures ∙ ap (place_in c.args.name.now) c.deref.ensures.value in
    let doc : List ℕ → Doc = λ n. record { name = n; snapshot = snapshot_of c.args.document } in
    let told : held_docs c.insert.new.self.items ≡ with_doc (doc c.args.name.now) (held_docs docs) =
    ap held_docs c.in_ok-insert.ensures.items ∙ ap (λ n. held_docs (insert docs n held)) at ∙ place-inserted c.args.name.now docs held c.in_ok-copy.ensures
    ∙ ap (λ n. with_doc (doc n) (held_docs docs)) c.in_ok-copy.ensures in
    held-inserted c.args.visit.now.schema.now.types docs c.insert.new.self.items c.place_for-at.result held (doc c.args.name.now) c.requires.held c.requires.none c.requires.document
    c.in_ok-insert.ensures.items told
