-- From documents that are held to a host as it is told.
use Rattle.std.proofs.Common.{◌≡◌, ℕ, List, Bool, Result, Ok, Err, IfOk, OnErr, map, refl, sym, ap, subst, ◌∙◌}
use Rattle.std.specs.declared.alloc.AllocError.{AllocError}
use Rattle.expr_core.specs.Schema.{Schema}
use Rattle.http_front.specs.Reply.{Reply, printed}
use Rattle.http_front.specs.Request.{Request}
use Rattle.route_core.specs.Ask.{Asked, asked_by}
use Rattle.host_core.specs.declared.held.Held.{Held}
use Rattle.host_core.specs.Asking.{Visit, Answer, AnswersAsked}
use Rattle.host_core.specs.Docs.{Docs}
use Rattle.host_core.specs.Host.{Hosted, Replies, Shown, docs_of, visit_by}
use Rattle.host_core.specs.Inside.{IsAnswered, held_docs, shown_of}
use Rattle.host_core.proofs.Telling.{told, told-same}

-- a host of these documents
abbrev pub host_of : Schema → List Held → Hosted
host_of schema docs = record { schema = schema; shown = map shown_of docs }

module _ (schema : Schema) (request : Request) (asked : Asked) (is-asked : asked ≡ asked_by request.method request.path) (docs after : List Held) where
  abbrev visit : Visit
  visit = visit_by schema request

  replies-of : (answer : Answer) → AnswersAsked visit asked (held_docs docs) answer → held_docs after ≡ answer.docs
      → Replies (host_of schema docs) request answer.reply (host_of schema after)
  replies-of answer gives left =
      let A : Asked → Type 0 = λ a. AnswersAsked visit a (held_docs docs) answer in
      let D : Docs → Type 0 = λ ds. AnswersAsked visit (asked_by request.method request.path) ds answer in
      let W : Docs → Type 0 = λ ds. AnswersAsked visit (asked_by request.method request.path) (docs_of (host_of schema docs)) (record { reply = answer.reply; docs = ds }) in
      record {
        schema = refl;
        steps = subst W (sym left ∙ sym (told after)) (subst D (sym (told docs)) (subst A is-asked gives));
      }

  pub host-replies : (close : Bool) (host : Hosted) (result : Result (List ℕ) AllocError) → host_of schema docs ≡ host
      → IfOk result (λ bytes. IsAnswered close (AnswersAsked visit asked (held_docs docs)) bytes (held_docs after))
      → IfOk result (λ bytes. (reply : Reply) × Replies host request reply (host_of schema after) × (bytes ≡ printed close reply))
  host-replies close host (Err e) view answers = tt
  host-replies close host (Ok bytes) view (answer, gives, is, left) =
      let R : Hosted → Type 0 = λ h. Replies h request answer.reply (host_of schema after) in
      (answer.reply, subst R view (replies-of answer gives left), is)

-- documents that show what they showed are told as they were
pub host-same : (schema : Schema) (docs after : List Held) (host : Hosted) → host_of schema docs ≡ host → held_docs after ≡ held_docs docs → host_of schema after ≡ host
host-same schema docs after host view same = ap (λ (ds : List Shown). record { schema = schema; shown = ds }) (told-same after docs same) ∙ view

pub host-err : (schema : Schema) (docs after : List Held) (host : Hosted) (result : Result (List ℕ) AllocError) → host_of schema docs ≡ host
    → OnErr result (held_docs after ≡ held_docs docs) → OnErr result (host_of schema after ≡ host)
host-err schema docs after host (Ok bytes) view same = tt
host-err schema docs after host (Err e) view same = host-same schema docs after host view same
