-- Documents that are held stay so: with another one in a place, with one more, and with one fewer.
use Rattle.std.proofs.Common.{◌≡◌, ℕ, List, ◌∷◌, Bool, Result, Ok, Err, get_or, set, take, drop, suc, sym, ap, subst, ◌∙◌, if◌then◌else◌}
use Rattle.std.specs.Prelude.{All, OnErr, insert, remove, None}
use Rattle.std.specs.declared.alloc.AllocError.{AllocError}
use Rattle.std.proofs.lemmas.List.Elements.{All-set, All-append, All-take, All-drop, All-cons}
use Rattle.snap_core.specs.Value.{AreAscending}
use Rattle.pointer_core.specs.declared.refusal.Rule.TheVariants.{Unknown}
use Rattle.type_table.specs.Table.{Catalog}
use Rattle.live_tree.specs.Contents.{state}
use Rattle.doc_core.specs.Documents.{IsDocument}
use Rattle.host_replies.specs.Replies.{rule_reply, removed_reply}
use Rattle.host_core.specs.declared.held.Held.{Held}
use Rattle.host_core.specs.Asking.{Answer, discarding, unchanged}
use Rattle.host_core.specs.Docs.{Doc, AreNamed, find, names_of, with_doc, with_snapshot, without}
use Rattle.host_core.specs.Inside.{AreHeld, StandsAt, held_docs, snapshot_of}
use Rattle.host_core.proofs.Holding.{stands-found, stands-set, stands-removed, stands-some, with_snapshot-same, names-with_snapshot}
use Rattle.host_core.proofs.Naming.{named-with_doc, named-without}

abbrev Document : Catalog → Held → Type 0
Document types held = IsDocument types (state held.document)

pub held-set : (types : Catalog) (name : List ℕ) (docs : List Held) (at : ℕ) (held new : Held) → AreHeld types docs → StandsAt name at docs → held ≡ get_or docs at held
    → new.name ≡ held.name → IsDocument types (state new.document) → AreHeld types (set docs at new)
held-set types name docs at held new are stands here named document =
    let names : names_of (held_docs (set docs at new)) ≡ names_of (held_docs docs) =
    ap names_of (stands-set name at docs held new stands here named) ∙ names-with_snapshot name (snapshot_of new.document) (held_docs docs) in
    record {
      named = subst AreAscending (sym names) are.named;
      documents = All-set (Document types) docs at new document are.documents;
    }

-- a document that shows what it showed
pub same-set : (name : List ℕ) (docs : List Held) (at : ℕ) (held new : Held) (result : Result (List ℕ) AllocError) → StandsAt name at docs → held ≡ get_or docs at held
    → new.name ≡ held.name → OnErr result (snapshot_of new.document ≡ snapshot_of held.document) → OnErr result (held_docs (set docs at new) ≡ held_docs docs)
same-set name docs at held new (Ok bytes) stands here named same = tt
same-set name docs at held new (Err e) stands here named same =
    stands-set name at docs held new stands here named ∙ ap (λ v. with_snapshot name v (held_docs docs)) same
    ∙ with_snapshot-same name (snapshot_of held.document) (held_docs docs) (stands-found name at docs held stands here)

pub held-inserted : (types : Catalog) (docs after : List Held) (at : ℕ) (new : Held) (doc : Doc) → AreHeld types docs → find doc.name (held_docs docs) ≡ None
    → IsDocument types (state new.document) → after ≡ insert docs at new → held_docs after ≡ with_doc doc (held_docs docs) → AreHeld types after
held-inserted types docs after at new doc are none document inserted told =
    let All-documents : List Held → Type 0 = λ ds. All (Document types) ds in
    record {
      named = subst AreNamed (sym told) (named-with_doc doc (held_docs docs) none are.named);
      documents = subst All-documents (sym inserted)
          (All-append (Document types) (take at docs) (new ∷ drop at docs) (All-take (Document types) at docs are.documents)
          (All-cons (Document types) new (drop at docs) document (All-drop (Document types) at docs are.documents)));
    }

pub held-removed : (types : Catalog) (name : List ℕ) (docs after : List Held) (at : ℕ) → AreHeld types docs → StandsAt name at docs → after ≡ remove docs at → AreHeld types after
held-removed types name docs after at are stands removed =
    let All-documents : List Held → Type 0 = λ ds. All (Document types) ds in
    record {
      named = subst AreNamed (sym (ap held_docs removed ∙ stands-removed name at docs stands)) (named-without name (held_docs docs) are.named);
      documents = subst All-documents (sym removed)
          (All-append (Document types) (take at docs) (drop (suc at) docs) (All-take (Document types) at docs are.documents) (All-drop (Document types) (suc at) docs are.documents));
    }

-- what comes of removing a document that is there
pub discarded : (name : List ℕ) (docs : List Held) (at : ℕ) → StandsAt name at docs
    → record { reply = removed_reply name; docs = without name (held_docs docs) } ≡ discarding name (held_docs docs)
discarded name docs at stands =
    let By : Bool → Answer = λ b. if b then record { reply = removed_reply name; docs = without name (held_docs docs) } else unchanged (held_docs docs) (rule_reply Unknown) in
    sym (ap By (stands-some name at docs stands))
