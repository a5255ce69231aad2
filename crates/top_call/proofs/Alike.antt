-- Hosts that are alike reply alike: what requests get of one of them, they may get of the other.
use Rattle.std.proofs.Common.{◌≡◌, ℕ, ◌+◌, List, [], ◌∷◌, map, refl, sym, ◌∙◌, ap, subst}
use Rattle.edge_core.specs.Door.{Link, Links}
use Rattle.http_front.specs.Reply.{Reply}
use Rattle.http_front.specs.Request.{Request}
use Rattle.expr_core.specs.Schema.{Schema}
use Rattle.schema_read.specs.Laws.{AreOne}
use Rattle.host_core.specs.Asking.{Visit, Steps}
use Rattle.host_core.specs.Docs.{Docs}
use Rattle.host_core.specs.Host.{Shown, doc_of, docs_of, visit_by}
use Rattle.link_core.specs.Laws.{AnswersAll}
use Rattle.link_core.specs.Link.{Replies, asked}
use Rattle.serve_core.specs.Laws.{AnswersLinks, AreAnswered}
use Rattle.serve_core.specs.Serving.{Serving}
use Rattle.top_call.specs.Answering.{State, start, replies}

-- whatever is replied in one of two related states may be replied in the other, and the states after it are so related
abbrev pub Keeps : {S : Type 0} → Replies S → (S → S → Type 0) → Type 0
Keeps replies R =
    (one other : _) (request : Request) (reply : Reply) (after : _) → R one other → replies one request reply after
    → (next : _) × R after next × replies other request reply next

module _ {S : Type 0} (replies : Replies S) (R : S → S → Type 0) (keeps : Keeps replies R) where
  -- the requests of a link get the same replies from a related state
  link_alike : (one other : S) (count : ℕ) (requests : List Request) (written : List ℕ) (last : S) → R one other
      → AnswersAll replies (record { state = one; count = count }) requests (record { written = written; state = last })
      → (next : S) × R last next
      × AnswersAll replies (record { state = other; count = count }) requests (record { written = written; state = next })
  link_alike one other count [] written last alike answers =
      (other, subst (λ (s : S). R s other) (sym answers.1) alike, (answers.0, refl))
  link_alike one other count (request ∷ requests) written last alike answers =
      let step = keeps one other (asked count request) answers.0 answers.1 alike answers.3 in
      let rest = link_alike answers.1 step.0 (count + 1) requests answers.2 last step.1 answers.5 in
      (rest.0, rest.1, (answers.0, step.0, answers.2, step.2, answers.4, rest.2))

  -- and those of links, one after another
  links_alike : (one other : S) (requests : List (List Request)) (written : List (List ℕ)) (last : S) → R one other
      → AnswersLinks replies one requests (record { written = written; state = last })
      → (next : S) × R last next × AnswersLinks replies other requests (record { written = written; state = next })
  links_alike one other [] written last alike answers =
      (other, subst (λ (s : S). R s other) (sym answers.1) alike, (answers.0, refl))
  links_alike one other (requests ∷ others) written last alike answers =
      let first = link_alike one other 0 requests answers.0 answers.1 alike answers.4 in
      let rest = links_alike answers.1 first.0 others answers.2 last first.1 answers.5 in
      (rest.0, rest.1, (answers.0, first.0, answers.2, answers.3, first.2, rest.2))

  -- the same serving, between other states
  abbrev between : Serving S → S → S → Serving S
  between serving first last =
      record serving { before = record serving.before { state = first }; after = record serving.after { state = last } }

  -- links that were answered from a state could have been answered so from a related one
  pub answered_alike : (serving : Serving S) (links : Links) (requests : List (List Request)) (other : S) → R serving.before.state other
      → AreAnswered replies serving links requests
      → (next : S) × AreAnswered replies (between serving other next) links requests
  answered_alike serving links requests other alike answered =
      let found = links_alike serving.before.state other requests (map (λ (link : Link). link.written) answered.served)
      serving.after.state alike answered.answers in (
        found.0,
        record {
          last = answered.last;
          told = answered.told;
          served = answered.served;
          shut = answered.shut;
          coming = answered.coming;
          answers = found.2;
        },
      )

-- hosts are alike: their schemas are the same as they are shown, and so are their documents
pub record AreAlike (one other : State) : Type 0 where
  pub schemas : AreOne one.schema other.schema
  pub shown : one.shown ≡ other.shown

pub starts_alike : (one other : Schema) → AreOne one other → AreAlike (start one) (start other)
starts_alike one other are = record { schemas = are; shown = refl }

-- schemas that are the same as they are shown are visited alike
visit_same : (one other : Schema) (request : Request) → AreOne one other → visit_by one request ≡ visit_by other request
visit_same one other request are =
    ap (λ types. record (visit_by one request) { types = types }) are.types
    ∙ ap (λ behaviours. record (visit_by other request) { behaviours = behaviours }) are.behaviours

-- the other host's schema, with the documents of the one after its reply
pub replies_alike : Keeps replies AreAlike
replies_alike one other request reply after alike gets =
    let next : State = record { schema = other.schema; shown = after.shown } in
    let visited : Steps (visit_by other.schema request) (docs_of one) (record { reply = reply; docs = docs_of after }) =
    subst (λ (visit : Visit). Steps visit (docs_of one) (record { reply = reply; docs = docs_of after }))
    (visit_same one.schema other.schema request alike.schemas) gets.steps in
    let schemas : AreOne after.schema other.schema = subst (λ (s : Schema). AreOne s other.schema) (sym gets.schema) alike.schemas in (
      next,
      record { schemas = schemas; shown = refl },
      record {
        schema = refl;
        steps = subst
            (λ (docs : Docs). Steps (visit_by other.schema request) docs (record { reply = reply; docs = docs_of after }))
            (ap (λ (shown : List Shown). map doc_of shown) alike.shown) visited;
      },
    )
