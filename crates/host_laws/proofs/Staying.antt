-- All documents stay sound and settled, whatever a request asks for.
use Rattle.std.proofs.Common.{◌≡◌, ℕ, List, [], ◌∷◌, Bool, true, false, Option, Some, None, Ok, Err, refl, sym, subst, IfOk, if◌then◌else◌}
use Rattle.std.specs.Prelude.{is_some, MatchOption}
use Rattle.std.specs.List.{AllByRecursion}
use Rattle.std.specs.Ordering.{nat_cmp, is_lt}
use Rattle.std.specs.Cmp.Lexicographic.{slice_cmp}
use Rattle.std.specs.Str.{bytes_eq}
use Rattle.std.proofs.lemmas.List.Elements.{All-from_recursion, recursion_from_All}
use Rattle.snap_core.specs.Value.{Value, IsPlain}
use Rattle.pointer_core.specs.declared.refusal.Rule.TheVariants as rule
use Rattle.type_core.specs.Making.{Outcome}
use Rattle.edit_core.specs.Labelled.{bare}
use Rattle.tree_core.specs.State.{State}
use Rattle.doc_core.specs.Changing.{created}
use Rattle.route_core.specs.Ask.{Ask, try, list, create, discard, show, replace, change, resolve, act, view, Asked, unknown, wrong, well, asked_by}
use Rattle.host_replies.specs.Replies.{rule_reply, removed_reply}
use Rattle.host_core.specs.Answering.{Done}
use Rattle.host_core.specs.Asking.{Visit, Answer, unchanged, doc_made, doc_read, creating, discarding, after_done, On, Shows, Resolves, Views, Replaces, Changes, Acts, AnswersAsk, AnswersAsked}
use Rattle.host_core.specs.Docs.{Doc, Docs, are_full, find, with_doc, with_snapshot, without}
use Rattle.host_core.specs.Reading.{Read, value_in}
use Rattle.host_core.specs.Sound.{IsPlainSchema}
use Rattle.host_core.proofs.Spelled.{spelled-plain}
use Rattle.host_laws.specs.Laws.{DocumentsStaySound}
use Rattle.host_laws.specs.Runs.{IsShort}
use Rattle.host_laws.specs.Sound.{IsSettledSnapshot}
use Rattle.host_laws.proofs.Changed.{StaysSettled, same-settled, replaces-settled, changes-settled, acts-settled}
use Rattle.host_laws.proofs.Created.{created-sound}

-- a fact of each document's snapshot
module _ (P : Value → Type 0) where
  abbrev Each : Docs → Type 0
  Each docs = AllByRecursion (λ (d : Doc). P d.snapshot) docs

  pub each-found : (name : List ℕ) (v : Value) (docs : Docs) → Each docs → find name docs ≡ Some v → P v
  each-found name v [] each found = absurd (cc)
  each-found name v (d ∷ docs) each found =
      let later : find name docs ≡ Some v → P v = each-found name v docs each.1 in
      (elim (bytes_eq name d.name) as (λ b. (if b then Some d.snapshot else find name docs) ≡ Some v → P v) [
        | true ↦ λ e. let same : d.snapshot ≡ v = cc in subst P same each.0
        | false ↦ later
      ]) found

  each-set : (name : List ℕ) (v : Value) (docs : Docs) → P v → Each docs → Each (with_snapshot name v docs)
  each-set name v [] p each = tt
  each-set name v (d ∷ docs) p each = elim (bytes_eq name d.name) as (λ b. Each (if b then record d { snapshot = v } ∷ docs else d ∷ with_snapshot name v docs)) [
    | true ↦ (p, each.1)
    | false ↦ (each.0, each-set name v docs p each.1)
  ]

  each-with : (new : Doc) (docs : Docs) → P new.snapshot → Each docs → Each (with_doc new docs)
  each-with new [] p each = (p, tt)
  each-with new (d ∷ docs) p each = elim (is_lt (slice_cmp nat_cmp new.name d.name)) as (λ b. Each (if b then new ∷ d ∷ docs else d ∷ with_doc new docs)) [
    | true ↦ (p, each)
    | false ↦ (each.0, each-with new docs p each.1)
  ]

  each-without : (name : List ℕ) (docs : Docs) → Each docs → Each (without name docs)
  each-without name [] each = tt
  each-without name (d ∷ docs) each = elim (bytes_eq name d.name) as (λ b. Each (if b then docs else d ∷ without name docs)) [
    | true ↦ each.1
    | false ↦ (each.0, each-without name docs each.1)
  ]

-- a request whose body is short, to documents of types that have no fault
module _ (visit : Visit) (plainly : IsPlainSchema visit.types visit.behaviours) (short : IsShort visit.request.body) where
  abbrev AreFine : Docs → Type 0
  AreFine docs = Each (IsSettledSnapshot visit.types) docs

  -- what a request on one document does to it
  abbrev pub Keeps : (Value → Done → Type 0) → Type 0
  Keeps Does = (v : Value) (done : Done) → IsSettledSnapshot visit.types v → Does v done → StaysSettled visit.types v done

  pub shows-keeps : Keeps (Shows visit)
  shows-keeps v done settled (s, copy, path, points, is) = same-settled visit.types v s _ done copy settled is

  pub resolves-keeps : Keeps (Resolves visit)
  resolves-keeps v done settled (s, copy, path, points, is) = same-settled visit.types v s _ done copy settled is

  pub views-keeps : (name : List ℕ) → Keeps (Views visit name)
  views-keeps name v done settled (s, copy, path, points, is) = same-settled visit.types v s _ done copy settled is

  pub replaces-keeps : Keeps (Replaces visit)
  replaces-keeps = replaces-settled visit plainly.sound

  pub changes-keeps : Keeps (Changes visit)
  changes-keeps = changes-settled visit plainly.sound short

  pub acts-keeps : Keeps (Acts visit)
  acts-keeps = acts-settled visit plainly

  by-answer : (answer made : Answer) → answer ≡ made → AreFine made.docs → AreFine answer.docs
  by-answer answer made is fine = let P : Answer → Type 0 = λ a. AreFine a.docs in subst P (sym is) fine

  made-fine : (name : List ℕ) (docs : Docs) (v : Value) (o : Outcome State) → created visit.types v ≡ o → IsPlain v → AreFine docs → AreFine (doc_made name docs o).docs
  made-fine name docs v (Ok s) is plain fine =
      each-with (IsSettledSnapshot visit.types) (record { name = name; snapshot = bare s.tree }) docs (created-sound visit.types v s plainly.sound plain is).shows fine
  made-fine name docs v (Err refusal) is plain fine = fine

  read-fine : (name : List ℕ) (docs : Docs) (given : Read Value) → IfOk given (λ (v : Value). IsPlain v) → AreFine docs → AreFine (doc_read visit.types name docs given).docs
  read-fine name docs (Ok v) plain fine = made-fine name docs v (created visit.types v) refl plain fine
  read-fine name docs (Err reply) plain fine = fine

  create-fine : (name : List ℕ) (docs : Docs) → AreFine docs → AreFine (creating visit name docs).docs
  create-fine name docs fine = by (is_some (find name docs)) (are_full docs) where
    by : (there full : Bool)
        → AreFine (if there then unchanged docs (rule_reply rule.Exists)
        else if full then unchanged docs (rule_reply rule.Full) else doc_read visit.types name docs (value_in visit.request.body)).docs
    by true full = fine
    by false true = fine
    by false false = read-fine name docs (value_in visit.request.body) (spelled-plain visit.request.body) fine

  discard-fine : (name : List ℕ) (docs : Docs) → AreFine docs → AreFine (discarding name docs).docs
  discard-fine name docs fine = by (is_some (find name docs)) where
    by : (there : Bool) → AreFine (if there then record { reply = removed_reply name; docs = without name docs } else unchanged docs (rule_reply rule.Unknown)).docs
    by true = each-without (IsSettledSnapshot visit.types) name docs fine
    by false = fine

  on-fine : (name : List ℕ) (docs : Docs) (Does : Value → Done → Type 0) (answer : Answer) → Keeps Does → AreFine docs → On name docs Does answer → AreFine answer.docs
  on-fine name docs Does answer keeps fine on = by (find name docs) refl on where
    by : (o : Option Value) → find name docs ≡ o
        → MatchOption o (answer ≡ unchanged docs (rule_reply rule.Unknown)) (λ v. (done : Done) × Does v done × (answer ≡ after_done name docs done)) → AreFine answer.docs
    by None e is = by-answer answer (unchanged docs (rule_reply rule.Unknown)) is fine
    by (Some v) e (done, does, is) =
        by-answer answer (after_done name docs done) is (each-set (IsSettledSnapshot visit.types) name done.snapshot docs
        (keeps v done (each-found (IsSettledSnapshot visit.types) name v docs fine e) does).snapshot fine)

  ask-fine : (ask : Ask) (docs : Docs) (answer : Answer) → AreFine docs → AnswersAsk visit ask docs answer → AreFine answer.docs
  ask-fine try docs answer fine is = by-answer answer (unchanged docs _) is fine
  ask-fine list docs answer fine is = by-answer answer (unchanged docs _) is fine
  ask-fine (create name) docs answer fine is = by-answer answer (creating visit name docs) is (create-fine name docs fine)
  ask-fine (discard name) docs answer fine is = by-answer answer (discarding name docs) is (discard-fine name docs fine)
  ask-fine (show name) docs answer fine on = on-fine name docs (Shows visit) answer shows-keeps fine on
  ask-fine (replace name) docs answer fine on = on-fine name docs (Replaces visit) answer replaces-keeps fine on
  ask-fine (change name) docs answer fine on = on-fine name docs (Changes visit) answer changes-keeps fine on
  ask-fine (resolve name) docs answer fine on = on-fine name docs (Resolves visit) answer resolves-keeps fine on
  ask-fine (act name) docs answer fine on = on-fine name docs (Acts visit) answer acts-keeps fine on
  ask-fine (view name one) docs answer fine on = on-fine name docs (Views visit one) answer (views-keeps one) fine on

  asked-fine : (asked : Asked) (docs : Docs) (answer : Answer) → AreFine docs → AnswersAsked visit asked docs answer → AreFine answer.docs
  asked-fine unknown docs answer fine is = by-answer answer (unchanged docs _) is fine
  asked-fine (wrong allow) docs answer fine is = by-answer answer (unchanged docs _) is fine
  asked-fine (well ask) docs answer fine answers = ask-fine ask docs answer fine answers

pub stay-sound : DocumentsStaySound
stay-sound visit docs answer plainly short fine steps =
    let Fine : Doc → Type 0 = λ d. IsSettledSnapshot visit.types d.snapshot in
    All-from_recursion Fine answer.docs
    (asked-fine visit plainly short (asked_by visit.request.method visit.request.path) docs answer (recursion_from_All Fine docs fine) steps)
