-- One request to a host: the reply, and the documents after it.
use Rattle.std.specs.Prelude.{◌≡◌, ℕ, List, is_some, Ok, Err, MatchOption, if◌then◌else◌}
use Rattle.snap_core.specs.Value.{Value}
use Rattle.pointer_core.specs.Path.{Path}
use Rattle.pointer_core.specs.declared.refusal.Rule.TheVariants as rule
use Rattle.patch_core.specs.declared.patch.Patch.{Patch}
use Rattle.type_table.specs.Table.{Catalog}
use Rattle.type_core.specs.Making.{Outcome}
use Rattle.model_syntax.specs.Shown.{ShownBehaviour}
use Rattle.expr_core.specs.Schema.{views_in}
use Rattle.edit_core.specs.Labelled.{bare}
use Rattle.tree_core.specs.State.{State}
use Rattle.doc_core.specs.Changing.{created}
use Rattle.doc_core.specs.Documents.{IsCopy}
use Rattle.http_front.specs.Reply.{Reply}
use Rattle.http_front.specs.Request.{Request}
use Rattle.route_core.specs.Ask.{Ask, try, list, create, discard, show, replace, change, resolve, act, view, Asked, unknown, wrong, well, asked_by}
use Rattle.host_replies.specs.Replies.{rule_reply, method_reply, snapshot_reply, names_reply, removed_reply}
use Rattle.host_core.specs.Answering.{Done, refusal_reply, stays, trying, showing, resolving, viewing, patching, replacing, acting}
use Rattle.host_core.specs.Calling.{Call, Calls}
use Rattle.host_core.specs.Docs.{Docs, names_of, find, with_snapshot, with_doc, without, are_full}
use Rattle.host_core.specs.Reading.{Read, Points, value_in, Lists}

-- a request to documents of these types, whose models have this beside their properties
pub record Visit : Type 0 where
  pub types : Catalog
  pub behaviours : List ShownBehaviour
  pub request : Request

-- a reply, and the documents after it
pub record Answer : Type 0 where
  pub reply : Reply
  pub docs : Docs

-- a reply that leaves the documents as they are
abbrev pub unchanged : Docs → Reply → Answer
unchanged docs reply = record { reply = reply; docs = docs }

-- A new document: refused `exists` where there is one of that name, then `full`, then by its body.

abbrev pub doc_made : List ℕ → Docs → Outcome State → Answer
doc_made name docs (Ok s) = record {
  reply = snapshot_reply 201 (bare s.tree);
  docs = with_doc (record { name = name; snapshot = bare s.tree }) docs;
}
doc_made name docs (Err refusal) = unchanged docs (refusal_reply refusal)

abbrev pub doc_read : Catalog → List ℕ → Docs → Read Value → Answer
doc_read types name docs (Ok v) = doc_made name docs (created types v)
doc_read types name docs (Err reply) = unchanged docs reply

abbrev pub creating : Visit → List ℕ → Docs → Answer
creating visit name docs =
    if is_some (find name docs) then unchanged docs (rule_reply rule.Exists)
    else if are_full docs then unchanged docs (rule_reply rule.Full)
    else doc_read visit.types name docs (value_in visit.request.body)

-- a document removed, if there is one of that name
abbrev pub discarding : List ℕ → Docs → Answer
discarding name docs =
    if is_some (find name docs) then record { reply = removed_reply name; docs = without name docs }
    else unchanged docs (rule_reply rule.Unknown)

-- What a request does to a document that shows a snapshot. It works on some copy of the document, whatever the numbers of its
-- nodes are.

abbrev pub Shows : Visit → Value → Done → Type 0
Shows visit snapshot done =
    (s : State) × IsCopy visit.types snapshot s × (path : Read Path) × Points visit.request.query path × (done ≡ stays s (showing s path))

abbrev pub Resolves : Visit → Value → Done → Type 0
Resolves visit snapshot done =
    (s : State) × IsCopy visit.types snapshot s
    × (path : Read Path) × Points visit.request.query path × (done ≡ stays s (resolving visit.types s path))

abbrev pub Views : Visit → List ℕ → Value → Done → Type 0
Views visit name snapshot done =
    (s : State) × IsCopy visit.types snapshot s
    × (path : Read Path) × Points visit.request.query path × (done ≡ stays s (viewing visit.types (views_in visit.behaviours) s name path))

abbrev pub Replaces : Visit → Value → Done → Type 0
Replaces visit snapshot done =
    (s : State) × IsCopy visit.types snapshot s × (done ≡ replacing visit.types s (value_in visit.request.body))

abbrev pub Changes : Visit → Value → Done → Type 0
Changes visit snapshot done =
    (s : State) × IsCopy visit.types snapshot s
    × (patches : Read (List Patch)) × Lists visit.request.body patches × (done ≡ patching visit.types s patches)

abbrev pub Acts : Visit → Value → Done → Type 0
Acts visit snapshot done =
    (s : State) × IsCopy visit.types snapshot s
    × (call : Read Call) × Calls visit.request.body call × (done ≡ acting visit.types visit.behaviours s call)

-- a document after a request on it
abbrev pub after_done : List ℕ → Docs → Done → Answer
after_done name docs done = record { reply = done.reply; docs = with_snapshot name done.snapshot docs }

-- a request on the document of a name, which is unknown where there is none
abbrev pub On : List ℕ → Docs → (Value → Done → Type 0) → Answer → Type 0
On name docs Does answer =
    MatchOption (find name docs) (answer ≡ unchanged docs (rule_reply rule.Unknown))
    (λ snapshot. (done : Done) × Does snapshot done × (answer ≡ after_done name docs done))

abbrev pub AnswersAsk : Visit → Ask → Docs → Answer → Type 0
AnswersAsk visit try docs answer = answer ≡ unchanged docs (trying visit.types (value_in visit.request.body))
AnswersAsk visit list docs answer = answer ≡ unchanged docs (names_reply (names_of docs))
AnswersAsk visit (create name) docs answer = answer ≡ creating visit name docs
AnswersAsk visit (discard name) docs answer = answer ≡ discarding name docs
AnswersAsk visit (show name) docs answer = On name docs (Shows visit) answer
AnswersAsk visit (replace name) docs answer = On name docs (Replaces visit) answer
AnswersAsk visit (change name) docs answer = On name docs (Changes visit) answer
AnswersAsk visit (resolve name) docs answer = On name docs (Resolves visit) answer
AnswersAsk visit (act name) docs answer = On name docs (Acts visit) answer
AnswersAsk visit (view name one) docs answer = On name docs (Views visit one) answer

-- a request: its path is judged first, with a document's name in it, then its method, and then what it asks for
abbrev pub AnswersAsked : Visit → Asked → Docs → Answer → Type 0
AnswersAsked visit unknown docs answer = answer ≡ unchanged docs (rule_reply rule.Unknown)
AnswersAsked visit (wrong allow) docs answer = answer ≡ unchanged docs (method_reply allow)
AnswersAsked visit (well ask) docs answer = AnswersAsk visit ask docs answer

abbrev pub Steps : Visit → Docs → Answer → Type 0
Steps visit docs answer = AnswersAsked visit (asked_by visit.request.method visit.request.path) docs answer
