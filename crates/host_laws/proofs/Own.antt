-- What a request on a document gets, by this document alone.
use Rattle.std.proofs.Common.{◌≡◌, ℕ, List, [], ◌∷◌, map, Bool, true, false, Option, Some, None, refl, sym, ap, subst, ◌∙◌, if◌then◌else◌}
use Rattle.std.specs.Prelude.{◌≢◌, is_some, MatchOption}
use Rattle.std.specs.List.{AllByRecursion}
use Rattle.std.specs.Ordering.{nat_cmp}
use Rattle.std.specs.Cmp.Lexicographic.{slice_cmp}
use Rattle.std.specs.Str.{bytes_eq}
use Rattle.std.specs.declared.cmp.Ordering.TheVariants.{Less}
use Rattle.std.proofs.lemmas.Cmp.{nat_list_cmp_total, tied_itself}
use Rattle.std.proofs.lemmas.List.Elements.{recursion_from_All}
use Rattle.std.proofs.lemmas.Slice.Eq.{bytes_eq-Decides}
use Rattle.snap_core.specs.Value.{Value}
use Rattle.snap_core.proofs.Levels.{same_key}
use Rattle.pointer_core.specs.declared.refusal.Rule.TheVariants as rule
use Rattle.type_table.specs.Table.{Catalog}
use Rattle.model_syntax.specs.Shown.{ShownBehaviour}
use Rattle.http_front.specs.Reply.{Reply}
use Rattle.http_front.specs.Request.{Request}
use Rattle.route_core.specs.Ask.{Ask, try, list, create, discard, show, replace, change, resolve, act, view, Asked, unknown, wrong, well, asked_by}
use Rattle.host_replies.specs.Replies.{rule_reply, removed_reply}
use Rattle.host_core.specs.Answering.{Done}
use Rattle.host_core.specs.Asking.{Visit, Answer, unchanged, doc_read, creating, discarding, after_done, On, Shows, Resolves, Views, Replaces, Changes, Acts, AnswersAsk, AnswersAsked, Steps}
use Rattle.host_core.specs.Docs.{Doc, Docs, AreNamed, are_full, find, without}
use Rattle.host_core.specs.Laws.{Alike, named_in, name_asked, on_doc}
use Rattle.host_core.specs.Reading.{value_in}
use Rattle.host_core.proofs.Finding.{find-with_snapshot, find-without}
use Rattle.host_core.proofs.OneDocument.{names-ascend, others-stay, replies-are-own}
use Rattle.host_laws.specs.Laws.{OtherRepliesAreOwn, RunsAreOwn}
use Rattle.host_laws.specs.Runs.{Runs, IsTaken, is_name, is_on, requests_on, replies_on}

-- two hosts that show the same under a name
module _ (name : List ℕ) (docs others : Docs) (same : find name others ≡ find name docs) where
  abbrev Own : Answer → (Answer → Type 0) → Type 0
  Own answer There = (other : Answer) × Alike name answer other × There other

  unchanged-own : (answer : Answer) (reply : Reply) → answer ≡ unchanged docs reply → Alike name answer (unchanged others reply)
  unchanged-own answer reply is =
      let A : Answer → Type 0 = λ a. Alike name a (unchanged others reply) in subst A (sym is) (record { reply = refl; doc = same })

  discard-own : AreNamed docs → AreNamed others → (answer : Answer) → answer ≡ discarding name docs → Alike name answer (discarding name others)
  discard-own named named2 answer is =
      let By : Bool → Docs → Answer = λ b ds. if b then record { reply = removed_reply name; docs = without name ds } else unchanged ds (rule_reply rule.Unknown) in
      let There : Option Value → Type 0 = λ o. Alike name (discarding name docs) (By (is_some o) others) in
      let Here : Bool → Type 0 = λ b. Alike name (By b docs) (By b others) in
      let A : Answer → Type 0 = λ a. Alike name a (discarding name others) in
      let alike : Here (is_some (find name docs)) = elim (is_some (find name docs)) as Here [
        | true ↦ record { reply = refl; doc = find-without name others named2 ∙ sym (find-without name docs named) }
        | false ↦ record { reply = refl; doc = same }
      ] in
      subst A (sym is) (subst There (sym same) alike)

  abbrev OnBy : Docs → Option Value → (Value → Done → Type 0) → Answer → Type 0
  OnBy ds o Does answer =
      MatchOption o (answer ≡ unchanged ds (rule_reply rule.Unknown)) (λ v. (done : Done) × Does v done × (answer ≡ after_done name ds done))

  on-own : (Does : Value → Done → Type 0) (answer : Answer) → On name docs Does answer → Own answer (On name others Does)
  on-own Does answer on = subst (λ o. Own answer (OnBy others o Does)) (sym same) (by (find name docs) refl on) where
    by : (o : Option Value) → find name docs ≡ o → OnBy docs o Does answer → Own answer (OnBy others o Does)
    by None e is = (unchanged others (rule_reply rule.Unknown), unchanged-own answer (rule_reply rule.Unknown) is, refl)
    by (Some v) e (done, does, is) =
        let A : Answer → Type 0 = λ a. Alike name a (after_done name others done) in (
          after_done name others done,
          subst A (sym is) (record {
            reply = refl;
            doc = find-with_snapshot name done.snapshot v others (same ∙ e) ∙ sym (find-with_snapshot name done.snapshot v docs e);
          }),
          (done, does, refl),
        )

  -- a new document, where the one host is full and doesn't say so
  abbrev creating-by : Visit → Docs → Option Value → Bool → Answer
  creating-by visit ds o full =
      if is_some o then unchanged ds (rule_reply rule.Exists)
      else if full then unchanged ds (rule_reply rule.Full) else doc_read visit.types name ds (value_in visit.request.body)

  create-own : (visit : Visit) (answer : Answer) → are_full docs ≡ true → IsTaken answer → answer ≡ creating visit name docs → Own answer (λ a. a ≡ creating visit name others)
  create-own visit answer full taken is = by (find name docs) refl where
    by : (o : Option Value) → find name docs ≡ o → Own answer (λ a. a ≡ creating visit name others)
    by None e =
        absurd (taken (ap (λ (a : Answer). a.reply) (is ∙ ap (λ p. creating-by visit docs p (are_full docs)) e ∙ ap (creating-by visit docs None) full)))
    by (Some v) e =
        let here : answer ≡ unchanged docs (rule_reply rule.Exists) = is ∙ ap (λ p. creating-by visit docs p (are_full docs)) e in
        let there : unchanged others (rule_reply rule.Exists) ≡ creating visit name others = sym (ap (λ p. creating-by visit others p (are_full others)) (same ∙ e)) in
        (unchanged others (rule_reply rule.Exists), unchanged-own answer (rule_reply rule.Exists) here, there)

  name-of : (n : List ℕ) → Some n ≡ Some name → n ≡ name
  name-of n e = cc

  on-named : (Does : Value → Done → Type 0) (n : List ℕ) (answer : Answer) → Some n ≡ Some name → On n docs Does answer → Own answer (On n others Does)
  on-named Does n answer e on =
      let P : List ℕ → Type 0 = λ m. On m docs Does answer → Own answer (On m others Does) in subst P (sym (name-of n e)) (on-own Does answer) on

  -- whatever the request is, where it is known of a new document
  ask-own : (visit : Visit) (ask : Ask) (answer : Answer) → named_in ask ≡ Some name → AreNamed docs → AreNamed others
      → (ask ≡ create name → answer ≡ creating visit name docs → Own answer (λ a. a ≡ creating visit name others))
      → AnswersAsk visit ask docs answer → Own answer (AnswersAsk visit ask others)
  ask-own visit try answer on named named2 made is = absurd (cc)
  ask-own visit list answer on named named2 made is = absurd (cc)
  ask-own visit (create n) answer on named named2 made is =
      let P : List ℕ → Type 0 = λ m.
      (create m ≡ create name → answer ≡ creating visit name docs → Own answer (λ a. a ≡ creating visit name others)) → answer ≡ creating visit m docs
      → Own answer (AnswersAsk visit (create m) others) in
      subst P (sym (name-of n on)) (λ known e. known refl e) made is
  ask-own visit (discard n) answer on named named2 made is =
      let P : List ℕ → Type 0 = λ m. answer ≡ discarding m docs → Own answer (AnswersAsk visit (discard m) others) in
      subst P (sym (name-of n on)) (λ e. (discarding name others, discard-own named named2 answer e, refl)) is
  ask-own visit (show n) answer on named named2 made is = on-named (Shows visit) n answer on is
  ask-own visit (replace n) answer on named named2 made is = on-named (Replaces visit) n answer on is
  ask-own visit (change n) answer on named named2 made is = on-named (Changes visit) n answer on is
  ask-own visit (resolve n) answer on named named2 made is = on-named (Resolves visit) n answer on is
  ask-own visit (act n) answer on named named2 made is = on-named (Acts visit) n answer on is
  ask-own visit (view n one) answer on named named2 made is = on-named (Views visit one) n answer on is

  asked-own : (visit : Visit) (asked : Asked) (answer : Answer) → name_asked asked ≡ Some name → AreNamed docs → AreNamed others
      → (asked ≡ well (create name) → answer ≡ creating visit name docs → Own answer (λ a. a ≡ creating visit name others))
      → AnswersAsked visit asked docs answer → Own answer (AnswersAsked visit asked others)
  asked-own visit unknown answer on named named2 made is = absurd (cc)
  asked-own visit (wrong allow) answer on named named2 made is = absurd (cc)
  asked-own visit (well ask) answer on named named2 made answers = ask-own visit ask answer on named named2 (λ e. made (ap well e)) answers

pub other-replies-own : OtherRepliesAreOwn
other-replies-own visit docs others answer name on other same named named2 steps =
    asked-own name docs others same visit (asked_by visit.request.method visit.request.path) answer on named named2 (λ e. absurd (other e)) steps

-- so it is with a request that isn't refused for want of room
step-own : (visit : Visit) (docs others : Docs) (answer : Answer) (name : List ℕ) → on_doc visit ≡ Some name → find name others ≡ find name docs → AreNamed docs → AreNamed others
    → are_full others ≡ false → IsTaken answer → Steps visit docs answer → (other : Answer) × Alike name answer other × Steps visit others other
step-own visit docs others answer name on same named named2 room taken steps = by (are_full docs) refl where
  by : (b : Bool) → are_full docs ≡ b → (other : Answer) × Alike name answer other × Steps visit others other
  by false full = replies-are-own visit docs others answer name on same named named2 full room steps
  by true full =
      asked-own name docs others same visit (asked_by visit.request.method visit.request.path) answer on named named2
      (λ e is. create-own name docs others same visit answer full taken is) steps

itself : (name : List ℕ) → bytes_eq name name ≡ true
itself name = (bytes_eq-Decides name name).1 refl

-- a host with no document but one of this name is not full
module _ (name : List ℕ) where
  abbrev IsAlone : Docs → Type 0
  IsAlone docs = (other : List ℕ) → other ≢ name → find other docs ≡ None

  first-found : (d : Doc) (docs : Docs) → find d.name (d ∷ docs) ≡ Some d.snapshot
  first-found d docs = ap (λ b. if b then Some d.snapshot else find d.name docs) (itself d.name)

  second-found : (d e : Doc) (docs : Docs) → ¬ (find e.name (d ∷ e ∷ docs) ≡ None)
  second-found d e docs = elim (bytes_eq e.name d.name) as (λ b. ¬ ((if b then Some d.snapshot else find e.name (e ∷ docs)) ≡ None)) [
    | true ↦ λ none. absurd (cc)
    | false ↦ λ none. let found : Some e.snapshot ≡ None = sym (first-found e docs) ∙ none in absurd (cc)
  ]

  both-named : (d e : Doc) → d.name ≡ name → slice_cmp nat_cmp d.name e.name ≡ Less → e.name ≢ name
  both-named d e one before two =
      let P : List ℕ → Type 0 = λ n. slice_cmp nat_cmp d.name n ≡ Less in
      let Q : List ℕ → Type 0 = λ n. slice_cmp nat_cmp n name ≡ Less in
      let less : slice_cmp nat_cmp name name ≡ Less = subst Q one (subst P two before) in
      let equal = tied_itself nat_list_cmp_total name in
      absurd (cc)

  alone-not_full : (docs : Docs) → AreNamed docs → IsAlone docs → are_full docs ≡ false
  alone-not_full [] named alone = refl
  alone-not_full (d ∷ []) named alone = refl
  alone-not_full (d ∷ e ∷ docs) named alone = same_key d.name name
      (λ one equal. absurd (second-found d e docs (alone e.name (both-named d e one named.0))))
      (λ other. let none : find d.name (d ∷ e ∷ docs) ≡ None = alone d.name (λ one. apart one other) in
      let found : Some d.snapshot ≡ None = sym (first-found d (e ∷ docs)) ∙ none in absurd (cc)) where
        apart : d.name ≡ name → bytes_eq d.name name ≡ false → ⊥
        apart one other = let equal : bytes_eq d.name name ≡ true = (bytes_eq-Decides d.name name).1 one in absurd (cc)

  on-name : (o : Option (List ℕ)) → is_name name o ≡ true → o ≡ Some name
  on-name None e = absurd (cc)
  on-name (Some n) e = ap (λ (m : List ℕ). Some m) ((bytes_eq-Decides n name).0 e)

  off-name : (o : Option (List ℕ)) → is_name name o ≡ false → o ≢ Some name
  off-name None e h = cc
  off-name (Some n) e h =
      let same : n ≡ name = cc in
      let equal : bytes_eq n name ≡ true = (bytes_eq-Decides n name).1 same in
      absurd (cc)

  other-name : (o : Option (List ℕ)) (other : List ℕ) → o ≡ Some name → other ≢ name → o ≢ Some other
  other-name o other on apart is = let found : Some other ≡ Some name = sym is ∙ on in let same : other ≡ name = cc in apart same

-- a run, and the run of the requests on one document alone
module _ (types : Catalog) (behaviours : List ShownBehaviour) (name : List ℕ) where
  abbrev visit : Request → Visit
  visit request = record { types = types; behaviours = behaviours; request = request }

  abbrev replies : List Answer → List Reply
  replies answers = map (λ (answer : Answer). answer.reply) answers

  abbrev OwnRun : Docs → List Request → List Reply → Type 0
  OwnRun others requests told = (own : List Answer) × Runs types behaviours others requests own × (replies own ≡ told)

  run-own : (requests : List Request) (docs others : Docs) (answers : List Answer) → find name others ≡ find name docs → AreNamed docs → AreNamed others → IsAlone name others
      → AllByRecursion IsTaken answers → Runs types behaviours docs requests answers → OwnRun others (requests_on name requests) (replies_on name requests answers)
  run-own [] docs others [] same named named2 alone taken runs = ([], tt, refl)
  run-own [] docs others (answer ∷ answers) same named named2 alone taken runs = absurd runs
  run-own (request ∷ requests) docs others [] same named named2 alone taken runs = absurd runs
  run-own (request ∷ requests) docs others (answer ∷ answers) same named named2 alone taken runs =
      let later : AreNamed answer.docs = names-ascend (visit request) docs answer named runs.0 in
      (elim (is_on name request) as
      (λ b. is_on name request ≡ b
      → OwnRun others (if b then request ∷ requests_on name requests else requests_on name requests) (if b then answer.reply ∷ replies_on name requests answers else replies_on name requests answers)) [
        | true ↦ λ e.
            let on : on_doc (visit request) ≡ Some name = on-name name (on_doc (visit request)) e in
            let step = step-own (visit request) docs others answer name on same named named2 (alone-not_full name others named2 alone) taken.0 runs.0 in
            let next = run-own requests answer.docs step.0.docs answers step.1.doc later (names-ascend (visit request) others step.0 named2 step.2)
            (λ other apart. others-stay (visit request) others step.0 other step.2 (other-name name (on_doc (visit request)) other on apart) ∙ alone other apart) taken.1 runs.1 in
            (step.0 ∷ next.0, (step.2, next.1), ap (λ r. r ∷ replies next.0) step.1.reply ∙ ap (λ rs. answer.reply ∷ rs) next.2)
        | false ↦ λ e.
            run-own requests answer.docs others answers (same ∙ sym (others-stay (visit request) docs answer name runs.0 (off-name name (on_doc (visit request)) e))) later named2 alone
            taken.1 runs.1
      ]) refl

pub runs-own : RunsAreOwn
runs-own types behaviours requests answers name runs taken =
    run-own types behaviours name requests [] [] answers refl tt tt (λ other apart. refl) (recursion_from_All IsTaken answers taken) runs
