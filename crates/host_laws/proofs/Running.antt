-- What a request tells of the documents that it finds, and what a run tells.
use Rattle.std.proofs.Common.{◌≡◌, ℕ, List, [], ◌∷◌, true, false, Option, Some, None, inl, inr, ⊎_elim, refl, sym, ap, subst, ◌∙◌, if◌then◌else◌}
use Rattle.std.specs.Prelude.{◌≢◌, ◌⊎◌, is_some, MatchOption}
use Rattle.std.specs.List.{AllByRecursion}
use Rattle.std.specs.Str.{bytes_eq}
use Rattle.std.proofs.lemmas.List.Elements.{All-nil, recursion_from_All}
use Rattle.std.proofs.lemmas.Slice.Eq.{bytes_eq-Decides}
use Rattle.snap_core.specs.Value.{Value}
use Rattle.snap_core.proofs.Levels.{same_key}
use Rattle.pointer_core.specs.declared.refusal.Rule.TheVariants as rule
use Rattle.patch_core.specs.Fits.{LeadsTo}
use Rattle.patch_core.specs.Inverse.{back}
use Rattle.type_table.specs.Table.{Catalog}
use Rattle.model_syntax.specs.Shown.{ShownBehaviour}
use Rattle.http_front.specs.Request.{Request}
use Rattle.route_core.specs.Ask.{Ask, try, list, create, discard, show, replace, change, resolve, act, view, Asked, unknown, wrong, well, asked_by}
use Rattle.host_replies.specs.Replies.{rule_reply, removed_reply}
use Rattle.host_core.specs.Answering.{Done}
use Rattle.host_core.specs.Asking.{Visit, Answer, unchanged, doc_read, creating, discarding, after_done, On, Shows, Resolves, Views, Replaces, Changes, Acts, AnswersAsk, AnswersAsked, Steps}
use Rattle.host_core.specs.Docs.{Doc, Docs, AreNamed, are_full, find, without}
use Rattle.host_core.specs.Laws.{name_asked}
use Rattle.host_core.specs.Reading.{value_in}
use Rattle.host_core.specs.Sound.{IsPlainSchema, TellsChange}
use Rattle.host_core.proofs.Finding.{find-with_snapshot, find-without}
use Rattle.host_core.proofs.OneDocument.{names-ascend, others-stay}
use Rattle.host_laws.specs.Laws.{RunsStaySound}
use Rattle.host_laws.specs.Runs.{IsShort, Runs, IsTold, AreTold}
use Rattle.host_laws.specs.Sound.{AreSoundDocs, IsSettledSnapshot}
use Rattle.host_laws.proofs.Changed.{StaysSettled}
use Rattle.host_laws.proofs.Staying.{Keeps, each-found, shows-keeps, resolves-keeps, views-keeps, replaces-keeps, changes-keeps, acts-keeps, stay-sound}

-- the document of a name, which is there before an answer and after it
module _ (types : Catalog) (n : List ℕ) (docs : Docs) (answer : Answer) (v w : Value) (was : find n docs ≡ Some v) (is : find n answer.docs ≡ Some w) where
  abbrev Told : Type 0
  Told = (w ≡ v) ⊎ TellsChange v (record { reply = answer.reply; snapshot = w })

  same-told : find n answer.docs ≡ find n docs → Told
  same-told same = let found : Some w ≡ Some v = sym is ∙ same ∙ was in let e : w ≡ v = cc in inl e

  create-told : (visit : Visit) → answer ≡ creating visit n docs → Told
  create-told visit e = same-told (ap (λ a. find n a.docs) e ∙ ap (find n) (by (find n docs) was)) where
    by : (o : Option Value) → o ≡ Some v
        → (if is_some o then unchanged docs (rule_reply rule.Exists)
        else if are_full docs then unchanged docs (rule_reply rule.Full) else doc_read visit.types n docs (value_in visit.request.body)).docs ≡ docs
    by (Some x) e = refl
    by None e = absurd (cc)

  discard-told : AreNamed docs → answer ≡ discarding n docs → Told
  discard-told named e =
      let gone : find n answer.docs ≡ None = ap (λ a. find n a.docs) e ∙ by (find n docs) was in absurd (cc) where
        by : (o : Option Value) → o ≡ Some v
            → find n (if is_some o then record { reply = removed_reply n; docs = without n docs } else unchanged docs (rule_reply rule.Unknown)).docs ≡ None
        by (Some x) e = find-without n docs named
        by None e = absurd (cc)

  on-told : (Does : Value → Done → Type 0) → ((done : Done) → Does v done → StaysSettled types v done) → On n docs Does answer → Told
  on-told Does keeps on = by (find n docs) was on where
    by : (o : Option Value) → o ≡ Some v
        → MatchOption o (answer ≡ unchanged docs (rule_reply rule.Unknown)) (λ u. (done : Done) × Does u done × (answer ≡ after_done n docs done)) → Told
    by None e on = absurd (cc)
    by (Some u) e (done, does, made) =
        let same : u ≡ v = cc in
        let Done-there : Value → Type 0 = λ x. Does x done in
        let found : Some w ≡ Some done.snapshot = sym is ∙ ap (λ a. find n a.docs) made ∙ find-with_snapshot n done.snapshot v docs was in
        let left : done.snapshot ≡ w = cc in
        let There : TellsChange v done → Value → Type 0 = λ t x. LeadsTo t.patches v x in
        let Back : TellsChange v done → Value → Type 0 = λ t x. LeadsTo (back t.patches) x v in
        ⊎_elim (λ e. inl (sym left ∙ e))
        (λ t. inr (record { patches = t.patches; fault = t.fault; reply = ap (λ a. a.reply) made ∙ t.reply; leads = subst (There t) left t.leads; leads_back = subst (Back t) left t.leads_back }))
        (keeps done (subst Done-there same does)).told

  -- a request on this document, or on another
  own-or : (m : List ℕ) → (m ≡ n → Told) → (Some m ≢ Some n → Told) → Told
  own-or m own others = same_key m n (λ same e. own same) (λ e. others (λ h. apart e h)) where
    apart : bytes_eq m n ≡ false → Some m ≡ Some n → ⊥
    apart e h =
        let same : m ≡ n = cc in
        let equal : bytes_eq m n ≡ true = (bytes_eq-Decides m n).1 same in
        absurd (cc)

-- a request whose body is short, to sound documents of types that have no fault
module _ (visit : Visit) (plainly : IsPlainSchema visit.types visit.behaviours) (short : IsShort visit.request.body) (docs : Docs) (named : AreNamed docs) (fine : AreSoundDocs visit.types docs)
    (n : List ℕ) (answer : Answer) (v w : Value) (was : find n docs ≡ Some v) (is : find n answer.docs ≡ Some w) where
  abbrev ToldHere : Type 0
  ToldHere = (w ≡ v) ⊎ TellsChange v (record { reply = answer.reply; snapshot = w })

  settled : IsSettledSnapshot visit.types v
  settled = each-found (IsSettledSnapshot visit.types) n v docs (recursion_from_All (λ (d : Doc). IsSettledSnapshot visit.types d.snapshot) docs fine) was

  own-on : (Does : Value → Done → Type 0) → Keeps visit plainly short Does → (m : List ℕ) → On m docs Does answer → (Some m ≢ Some n → ToldHere) → ToldHere
  own-on Does keeps m on others =
      own-or visit.types n docs answer v w was is m
      (λ same. let P : List ℕ → Type 0 = λ k. On k docs Does answer in
      on-told visit.types n docs answer v w was is Does (λ done does. keeps v done settled does) (subst P same on)) others

  ask-told : (ask : Ask) → AnswersAsk visit ask docs answer → (name_asked (well ask) ≢ Some n → ToldHere) → ToldHere
  ask-told try given others = others (λ e. cc)
  ask-told list given others = others (λ e. cc)
  ask-told (create m) given others =
      own-or visit.types n docs answer v w was is m
      (λ same. let P : List ℕ → Type 0 = λ k. answer ≡ creating visit k docs in create-told visit.types n docs answer v w was is visit (subst P same given)) others
  ask-told (discard m) given others =
      own-or visit.types n docs answer v w was is m
      (λ same. let P : List ℕ → Type 0 = λ k. answer ≡ discarding k docs in discard-told visit.types n docs answer v w was is named (subst P same given)) others
  ask-told (show m) on others = own-on (Shows visit) (shows-keeps visit plainly short) m on others
  ask-told (replace m) on others = own-on (Replaces visit) (replaces-keeps visit plainly short) m on others
  ask-told (change m) on others = own-on (Changes visit) (changes-keeps visit plainly short) m on others
  ask-told (resolve m) on others = own-on (Resolves visit) (resolves-keeps visit plainly short) m on others
  ask-told (act m) on others = own-on (Acts visit) (acts-keeps visit plainly short) m on others
  ask-told (view m one) on others = own-on (Views visit one) (views-keeps visit plainly short one) m on others

  asked-told : (asked : Asked) → AnswersAsked visit asked docs answer → (name_asked asked ≢ Some n → ToldHere) → ToldHere
  asked-told unknown given others = others (λ e. cc)
  asked-told (wrong allow) given others = others (λ e. cc)
  asked-told (well ask) given others = ask-told ask given others

step-told : (visit : Visit) → IsPlainSchema visit.types visit.behaviours → IsShort visit.request.body → (docs : Docs) (answer : Answer) → AreNamed docs → AreSoundDocs visit.types docs
    → Steps visit docs answer → IsTold visit.types docs answer
step-told visit plainly short docs answer named fine steps =
    record {
      named = names-ascend visit docs answer named steps;
      sound = stay-sound visit docs answer plainly short fine steps;
      told = λ n v w was is.
          asked-told visit plainly short docs named fine n answer v w was is (asked_by visit.request.method visit.request.path) steps
          (λ apart. same-told visit.types n docs answer v w was is (others-stay visit docs answer n steps apart));
    }

module _ (types : Catalog) (behaviours : List ShownBehaviour) (plainly : IsPlainSchema types behaviours) where
  abbrev HasShort : Request → Type 0
  HasShort request = IsShort request.body

  run-told : (requests : List Request) (docs : Docs) (answers : List Answer) → AllByRecursion HasShort requests → AreNamed docs → AreSoundDocs types docs
      → Runs types behaviours docs requests answers → AreTold types docs answers
  run-told [] docs [] short named fine runs = tt
  run-told [] docs (answer ∷ answers) short named fine runs = absurd runs
  run-told (request ∷ requests) docs [] short named fine runs = absurd runs
  run-told (request ∷ requests) docs (answer ∷ answers) short named fine runs =
      let told : IsTold types docs answer =
      step-told (record { types = types; behaviours = behaviours; request = request }) plainly short.0 docs answer named fine runs.0 in
      (told, run-told requests answer.docs answers short.1 told.named told.sound runs.1)

pub runs-told : RunsStaySound
runs-told types behaviours requests answers plainly short runs =
    run-told types behaviours plainly requests [] answers (recursion_from_All (λ (r : Request). IsShort r.body) requests short) tt
    (All-nil (λ (d : Doc). IsSettledSnapshot types d.snapshot)) runs
