-- Requests that lead a host are a run of it.
use Rattle.std.proofs.Common.{◌≡◌, ℕ, ◌<◌, ◌≤◌, ◌^◌, List, [], ◌∷◌, refl, ◌∙◌, ap, subst, arith}
use Rattle.std.specs.Prelude.{All}
use Rattle.std.proofs.lemmas.List.Elements.{All-nil, All-cons}
use Rattle.expr_core.specs.Schema.{Schema, behaviours_shown}
use Rattle.http_front.specs.Request.{Request}
use Rattle.host_core.specs.Asking.{Answer, Steps}
use Rattle.host_core.specs.Docs.{Docs}
use Rattle.host_core.specs.Host.{docs_of, visit_by}
use Rattle.host_laws.specs.Runs.{IsShort, Runs}
use Rattle.link_core.specs.Laws.{RequestsLead}
use Rattle.serve_core.specs.Laws.{DoorLeads}
use Rattle.top_call.specs.Answering.{State, start, replies}
use Rattle.top_call.specs.Hosting.{docs_after, ServedIsARun}
use Rattle.top_call.specs.Run.{serving_of}

-- a body is shorter than the laws of hosts ask
short-enough : (n : ℕ) → n ≤ 262144 → n < 2 ^ 31
short-enough n few = omega (arith, few)

abbrev HasShort : Request → Type 0
HasShort request = IsShort request.body

leads-short : (state : State) (requests : List Request) (last : State) → RequestsLead replies state requests last → All HasShort requests
leads-short state [] last leads = All-nil HasShort
leads-short state (request ∷ requests) last leads =
    All-cons HasShort request requests (short-enough _ leads.1) (leads-short leads.0 requests last leads.3)

module _ (schema : Schema) where
  -- answers to requests, from some documents to those of a state of the schema
  record RunsTo (docs : Docs) (requests : List Request) (last : State) : Type 0 where
    answers : List Answer
    runs : Runs schema.types (behaviours_shown schema) docs requests answers
    leaves : docs_of last ≡ docs_after docs answers
    same : last.schema ≡ schema

  leads-runs : (state : State) (requests : List Request) (last : State) → state.schema ≡ schema → RequestsLead replies state requests last
      → RunsTo (docs_of state) requests last
  leads-runs state [] last same leads =
      record { answers = []; runs = tt; leaves = ap docs_of leads; same = ap (λ (s : State). s.schema) leads ∙ same }
  leads-runs state (request ∷ requests) last same leads =
      let next : State = leads.0 in
      let answer : Answer = record { reply = leads.2.0; docs = docs_of next } in
      let first : Steps (visit_by schema request) (docs_of state) answer =
      subst (λ (s : Schema). Steps (visit_by s request) (docs_of state) answer) same leads.2.1.steps in
      let rest = leads-runs next requests last (leads.2.1.schema ∙ same) leads.3 in
      record { answers = answer ∷ rest.answers; runs = (first, rest.runs); leaves = rest.leaves; same = rest.same }

pub served-runs : DoorLeads replies → ServedIsARun
served-runs leads r end served =
    let led = leads (serving_of r served.served) end served.door in
    let schema : Schema = served.served.schema in
    let runs = leads-runs schema (start schema) led.0 served.served.last refl led.1 in
    record {
      requests = led.0;
      answers = runs.answers;
      short = leads-short (start schema) led.0 served.served.last led.1;
      runs = runs.runs;
      docs = runs.leaves;
      same_schema = runs.same;
    }
