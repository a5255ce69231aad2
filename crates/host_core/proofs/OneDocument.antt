-- What a request does to the names, to other documents, and by one document alone.
use Rattle.std.proofs.Common.{◌≡◌, ℕ, List, Bool, true, false, Option, Some, None, Ok, Err, refl, sym, ap, subst, ◌∙◌, if◌then◌else◌}
use Rattle.std.specs.Prelude.{◌≢◌, is_some, MatchOption}
use Rattle.snap_core.specs.Value.{Value, AreAscending}
use Rattle.pointer_core.specs.declared.refusal.Rule.TheVariants as rule
use Rattle.type_table.specs.Table.{Catalog}
use Rattle.type_core.specs.Making.{Outcome}
use Rattle.edit_core.specs.Labelled.{bare}
use Rattle.tree_core.specs.State.{State}
use Rattle.doc_core.specs.Changing.{created}
use Rattle.http_front.specs.Reply.{Reply}
use Rattle.route_core.specs.Ask.{Ask, try, list, create, discard, show, replace, change, resolve, act, view, Asked, unknown, wrong, well, asked_by}
use Rattle.host_replies.specs.Replies.{rule_reply, removed_reply}
use Rattle.host_core.specs.Answering.{Done}
use Rattle.host_core.specs.Asking.{Visit, Answer, unchanged, doc_made, doc_read, creating, discarding, after_done, On, Shows, Resolves, Views, Replaces, Changes, Acts, AnswersAsk, AnswersAsked}
use Rattle.host_core.specs.Docs.{Doc, Docs, AreNamed, are_full, find, with_doc, with_snapshot, without}
use Rattle.host_core.specs.Laws.{NamesAscend, OthersStay, RepliesAreOwn, Alike, named_in, name_asked}
use Rattle.host_core.specs.Reading.{Read, value_in}
use Rattle.host_core.proofs.Holding.{names-with_snapshot}
use Rattle.host_core.proofs.Naming.{named-with_doc, named-without}
use Rattle.host_core.proofs.Finding.{find-with_snapshot, find-with_doc, find-without, find-with_snapshot-other, find-with_doc-other, find-without-other}

-- a fact of the documents after an answer, whichever it is
module _ (P : Docs → Type 0) where
  by : (answer made : Answer) → answer ≡ made → P made.docs → P answer.docs
  by answer made is holds = let Q : Answer → Type 0 = λ a. P a.docs in subst Q (sym is) holds

  -- one more document, or none
  made : (name : List ℕ) (docs : Docs) (outcome : Outcome State) → P docs → ((v : Value) → P (with_doc (record { name = name; snapshot = v }) docs))
      → P (doc_made name docs outcome).docs
  made name docs (Ok s) same more = more (bare s.tree)
  made name docs (Err refusal) same more = same

  read : (types : Catalog) (name : List ℕ) (docs : Docs) (given : Read Value) → P docs → ((v : Value) → P (with_doc (record { name = name; snapshot = v }) docs))
      → P (doc_read types name docs given).docs
  read types name docs (Ok v) same more = made name docs (created types v) same more
  read types name docs (Err reply) same more = same

  create-holds : (visit : Visit) (name : List ℕ) (docs : Docs) → P docs → (find name docs ≡ None → (v : Value) → P (with_doc (record { name = name; snapshot = v }) docs))
      → P (creating visit name docs).docs
  create-holds visit name docs same more = by-found (find name docs) refl where
    by-full : (b : Bool) → find name docs ≡ None
        → P (if b then unchanged docs (rule_reply rule.Full) else doc_read visit.types name docs (value_in visit.request.body)).docs
    by-full true none = same
    by-full false none = read visit.types name docs (value_in visit.request.body) same (more none)

    by-found : (o : Option Value) → find name docs ≡ o
        → P (if is_some o then unchanged docs (rule_reply rule.Exists)
        else if are_full docs then unchanged docs (rule_reply rule.Full) else doc_read visit.types name docs (value_in visit.request.body)).docs
    by-found (Some v) e = same
    by-found None e = by-full (are_full docs) e

  discard-holds : (name : List ℕ) (docs : Docs) → P docs → P (without name docs) → P (discarding name docs).docs
  discard-holds name docs same fewer = by-found (is_some (find name docs)) where
    by-found : (b : Bool) → P (if b then record { reply = removed_reply name; docs = without name docs } else unchanged docs (rule_reply rule.Unknown)).docs
    by-found true = fewer
    by-found false = same

  on-holds : (name : List ℕ) (docs : Docs) (Does : Value → Done → Type 0) (answer : Answer) → On name docs Does answer
      → P docs → ((v : Value) → P (with_snapshot name v docs)) → P answer.docs
  on-holds name docs Does answer on same set = by-found (find name docs) on where
    by-found : (o : Option Value) → MatchOption o (answer ≡ unchanged docs (rule_reply rule.Unknown)) (λ snapshot. (done : Done) × Does snapshot done × (answer ≡ after_done name docs done))
        → P answer.docs
    by-found None is = by answer (unchanged docs (rule_reply rule.Unknown)) is same
    by-found (Some v) (done, does, is) = by answer (after_done name docs done) is (set done.snapshot)

-- names

ask-named : (visit : Visit) (ask : Ask) (docs : Docs) (answer : Answer) → AreNamed docs → AnswersAsk visit ask docs answer → AreNamed answer.docs
ask-named visit try docs answer named is = by AreNamed answer (unchanged docs _) is named
ask-named visit list docs answer named is = by AreNamed answer (unchanged docs _) is named
ask-named visit (create name) docs answer named is =
    by AreNamed answer (creating visit name docs) is (create-holds AreNamed visit name docs named (λ none v. named-with_doc (record { name = name; snapshot = v }) docs none named))
ask-named visit (discard name) docs answer named is =
    by AreNamed answer (discarding name docs) is (discard-holds AreNamed name docs named (named-without name docs named))
ask-named visit (show name) docs answer named on = on-holds AreNamed name docs (Shows visit) answer on named (λ v. subst AreAscending (sym (names-with_snapshot name v docs)) named)
ask-named visit (replace name) docs answer named on = on-holds AreNamed name docs (Replaces visit) answer on named (λ v. subst AreAscending (sym (names-with_snapshot name v docs)) named)
ask-named visit (change name) docs answer named on = on-holds AreNamed name docs (Changes visit) answer on named (λ v. subst AreAscending (sym (names-with_snapshot name v docs)) named)
ask-named visit (resolve name) docs answer named on = on-holds AreNamed name docs (Resolves visit) answer on named (λ v. subst AreAscending (sym (names-with_snapshot name v docs)) named)
ask-named visit (act name) docs answer named on = on-holds AreNamed name docs (Acts visit) answer on named (λ v. subst AreAscending (sym (names-with_snapshot name v docs)) named)
ask-named visit (view name one) docs answer named on = on-holds AreNamed name docs (Views visit one) answer on named (λ v. subst AreAscending (sym (names-with_snapshot name v docs)) named)

asked-named : (visit : Visit) (asked : Asked) (docs : Docs) (answer : Answer) → AreNamed docs → AnswersAsked visit asked docs answer → AreNamed answer.docs
asked-named visit unknown docs answer named is = by AreNamed answer (unchanged docs _) is named
asked-named visit (wrong allow) docs answer named is = by AreNamed answer (unchanged docs _) is named
asked-named visit (well ask) docs answer named answers = ask-named visit ask docs answer named answers

pub names-ascend : NamesAscend
names-ascend visit docs answer named steps = asked-named visit (asked_by visit.request.method visit.request.path) docs answer named steps

-- other documents

apart-names : (name other : List ℕ) → (Some name ≢ Some other) → name ≢ other
apart-names name other apart same = apart (ap (λ (n : List ℕ). Some n) same)

abbrev Same : List ℕ → Docs → Docs → Type 0
Same other before docs = find other docs ≡ find other before

ask-others : (visit : Visit) (ask : Ask) (docs : Docs) (answer : Answer) (other : List ℕ) → AnswersAsk visit ask docs answer → named_in ask ≢ Some other
    → find other answer.docs ≡ find other docs
ask-others visit try docs answer other is apart = by (Same other docs) answer (unchanged docs _) is refl
ask-others visit list docs answer other is apart = by (Same other docs) answer (unchanged docs _) is refl
ask-others visit (create name) docs answer other is apart =
    by (Same other docs) answer (creating visit name docs) is (create-holds (Same other docs) visit name docs refl
    (λ none v. find-with_doc-other (record { name = name; snapshot = v }) other docs (apart-names name other apart)))
ask-others visit (discard name) docs answer other is apart =
    by (Same other docs) answer (discarding name docs) is (discard-holds (Same other docs) name docs refl (find-without-other name other docs (apart-names name other apart)))
ask-others visit (show name) docs answer other on apart =
    on-holds (Same other docs) name docs (Shows visit) answer on refl (λ v. find-with_snapshot-other name other v docs (apart-names name other apart))
ask-others visit (replace name) docs answer other on apart =
    on-holds (Same other docs) name docs (Replaces visit) answer on refl (λ v. find-with_snapshot-other name other v docs (apart-names name other apart))
ask-others visit (change name) docs answer other on apart =
    on-holds (Same other docs) name docs (Changes visit) answer on refl (λ v. find-with_snapshot-other name other v docs (apart-names name other apart))
ask-others visit (resolve name) docs answer other on apart =
    on-holds (Same other docs) name docs (Resolves visit) answer on refl (λ v. find-with_snapshot-other name other v docs (apart-names name other apart))
ask-others visit (act name) docs answer other on apart =
    on-holds (Same other docs) name docs (Acts visit) answer on refl (λ v. find-with_snapshot-other name other v docs (apart-names name other apart))
ask-others visit (view name one) docs answer other on apart =
    on-holds (Same other docs) name docs (Views visit one) answer on refl (λ v. find-with_snapshot-other name other v docs (apart-names name other apart))

asked-others : (visit : Visit) (asked : Asked) (docs : Docs) (answer : Answer) (other : List ℕ) → AnswersAsked visit asked docs answer → name_asked asked ≢ Some other
    → find other answer.docs ≡ find other docs
asked-others visit unknown docs answer other is apart = by (Same other docs) answer (unchanged docs _) is refl
asked-others visit (wrong allow) docs answer other is apart = by (Same other docs) answer (unchanged docs _) is refl
asked-others visit (well ask) docs answer other answers apart = ask-others visit ask docs answer other answers apart

pub others-stay : OthersStay
others-stay visit docs answer other steps apart = asked-others visit (asked_by visit.request.method visit.request.path) docs answer other steps apart

-- one document alone

module _ (name : List ℕ) (docs others : Docs) (same : find name others ≡ find name docs) where
  unchanged-alike : (reply : Reply) → Alike name (unchanged docs reply) (unchanged others reply)
  unchanged-alike reply = record { reply = refl; doc = same }

  made-alike : (outcome : Outcome State) → find name docs ≡ None → Alike name (doc_made name docs outcome) (doc_made name others outcome)
  made-alike (Ok s) none =
      let new : Doc = record { name = name; snapshot = bare s.tree } in
      record { reply = refl; doc = find-with_doc new others (same ∙ none) ∙ sym (find-with_doc new docs none) }
  made-alike (Err refusal) none = unchanged-alike _

  read-alike : (types : Catalog) (given : Read Value) → find name docs ≡ None → Alike name (doc_read types name docs given) (doc_read types name others given)
  read-alike types (Ok v) none = made-alike (created types v) none
  read-alike types (Err reply) none = unchanged-alike reply

  -- a new document, by what is found of the name and by whether the hosts are full
  abbrev creating-by : Visit → Docs → Option Value → Bool → Answer
  creating-by visit ds o full =
      if is_some o then unchanged ds (rule_reply rule.Exists)
      else if full then unchanged ds (rule_reply rule.Full) else doc_read visit.types name ds (value_in visit.request.body)

  create-alike : (visit : Visit) → are_full docs ≡ false → are_full others ≡ false → Alike name (creating visit name docs) (creating visit name others)
  create-alike visit full full2 =
      let One : Option Value → Bool → Type 0 = λ o b. Alike name (creating visit name docs) (creating-by visit others o b) in
      let Two : Option Value → Bool → Type 0 = λ o b. Alike name (creating-by visit docs o b) (creating-by visit others o false) in
      subst (λ o. One o (are_full others)) (sym same) (subst (One (find name docs)) (sym full2) (subst (Two (find name docs)) (sym full) (by-found (find name docs) refl))) where
        by-found : (o : Option Value) → find name docs ≡ o → Alike name (creating-by visit docs o false) (creating-by visit others o false)
        by-found (Some v) e = unchanged-alike _
        by-found None e = read-alike visit.types (value_in visit.request.body) e

  discard-alike : AreNamed docs → AreNamed others → Alike name (discarding name docs) (discarding name others)
  discard-alike named named2 =
      let By : Bool → Docs → Answer = λ b ds. if b then record { reply = removed_reply name; docs = without name ds } else unchanged ds (rule_reply rule.Unknown) in
      let One : Option Value → Type 0 = λ o. Alike name (discarding name docs) (By (is_some o) others) in
      subst One (sym same) (by-found (is_some (find name docs))) where
        by-found : (b : Bool)
            → Alike name (if b then record { reply = removed_reply name; docs = without name docs } else unchanged docs (rule_reply rule.Unknown))
            (if b then record { reply = removed_reply name; docs = without name others } else unchanged others (rule_reply rule.Unknown))
        by-found true = record { reply = refl; doc = find-without name others named2 ∙ sym (find-without name docs named) }
        by-found false = unchanged-alike _

  abbrev OnBy : Docs → Option Value → (Value → Done → Type 0) → Answer → Type 0
  OnBy ds o Does answer =
      MatchOption o (answer ≡ unchanged ds (rule_reply rule.Unknown)) (λ snapshot. (done : Done) × Does snapshot done × (answer ≡ after_done name ds done))

  abbrev Own : Answer → (Answer → Type 0) → Type 0
  Own answer Steps-there = (other : Answer) × Alike name answer other × Steps-there other

  on-own : (Does : Value → Done → Type 0) (answer : Answer) → On name docs Does answer → Own answer (On name others Does)
  on-own Does answer on = subst (λ o. Own answer (OnBy others o Does)) (sym same) (by-found (find name docs) refl on) where
    by-found : (o : Option Value) → find name docs ≡ o → OnBy docs o Does answer → Own answer (OnBy others o Does)
    by-found None e is =
        let A : Answer → Type 0 = λ a. Alike name a (unchanged others (rule_reply rule.Unknown)) in
        (unchanged others (rule_reply rule.Unknown), subst A (sym is) (unchanged-alike _), refl)
    by-found (Some v) e (done, does, is) =
        let A : Answer → Type 0 = λ a. Alike name a (after_done name others done) in (
          after_done name others done,
          subst A (sym is) (record {
            reply = refl;
            doc = find-with_snapshot name done.snapshot v others (same ∙ e) ∙ sym (find-with_snapshot name done.snapshot v docs e);
          }),
          (done, does, refl),
        )

  given-own : (answer made there : Answer) → answer ≡ made → Alike name made there → Own answer (λ a. a ≡ there)
  given-own answer made there is alike =
      let A : Answer → Type 0 = λ a. Alike name a there in (there, subst A (sym is) alike, refl)

  name-of : (n : List ℕ) → Some n ≡ Some name → n ≡ name
  name-of n e = cc

  ask-own : (visit : Visit) (ask : Ask) (answer : Answer) → named_in ask ≡ Some name → AreNamed docs → AreNamed others → are_full docs ≡ false → are_full others ≡ false
      → AnswersAsk visit ask docs answer → Own answer (AnswersAsk visit ask others)
  ask-own visit try answer on named named2 full full2 is = absurd (cc)
  ask-own visit list answer on named named2 full full2 is = absurd (cc)
  ask-own visit (create n) answer on named named2 full full2 is =
      let P : List ℕ → Type 0 = λ m. answer ≡ creating visit m docs → Own answer (AnswersAsk visit (create m) others) in
      subst P (sym (name-of n on)) (λ e. given-own answer (creating visit name docs) (creating visit name others) e (create-alike visit full full2)) is
  ask-own visit (discard n) answer on named named2 full full2 is =
      let P : List ℕ → Type 0 = λ m. answer ≡ discarding m docs → Own answer (AnswersAsk visit (discard m) others) in
      subst P (sym (name-of n on)) (λ e. given-own answer (discarding name docs) (discarding name others) e (discard-alike named named2)) is
  ask-own visit (show n) answer on named named2 full full2 is =
      let P : List ℕ → Type 0 = λ m. On m docs (Shows visit) answer → Own answer (On m others (Shows visit)) in subst P (sym (name-of n on)) (on-own (Shows visit) answer) is
  ask-own visit (replace n) answer on named named2 full full2 is =
      let P : List ℕ → Type 0 = λ m. On m docs (Replaces visit) answer → Own answer (On m others (Replaces visit)) in subst P (sym (name-of n on)) (on-own (Replaces visit) answer) is
  ask-own visit (change n) answer on named named2 full full2 is =
      let P : List ℕ → Type 0 = λ m. On m docs (Changes visit) answer → Own answer (On m others (Changes visit)) in subst P (sym (name-of n on)) (on-own (Changes visit) answer) is
  ask-own visit (resolve n) answer on named named2 full full2 is =
      let P : List ℕ → Type 0 = λ m. On m docs (Resolves visit) answer → Own answer (On m others (Resolves visit)) in subst P (sym (name-of n on)) (on-own (Resolves visit) answer) is
  ask-own visit (act n) answer on named named2 full full2 is =
      let P : List ℕ → Type 0 = λ m. On m docs (Acts visit) answer → Own answer (On m others (Acts visit)) in subst P (sym (name-of n on)) (on-own (Acts visit) answer) is
  ask-own visit (view n one) answer on named named2 full full2 is =
      let P : List ℕ → Type 0 = λ m. On m docs (Views visit one) answer → Own answer (On m others (Views visit one)) in subst P (sym (name-of n on)) (on-own (Views visit one) answer) is

asked-own : (visit : Visit) (asked : Asked) (docs others : Docs) (answer : Answer) (name : List ℕ) → name_asked asked ≡ Some name → find name others ≡ find name docs
    → AreNamed docs → AreNamed others → are_full docs ≡ false → are_full others ≡ false → AnswersAsked visit asked docs answer
    → (other : Answer) × Alike name answer other × AnswersAsked visit asked others other
asked-own visit unknown docs others answer name on same named named2 full full2 is = absurd (cc)
asked-own visit (wrong allow) docs others answer name on same named named2 full full2 is = absurd (cc)
asked-own visit (well ask) docs others answer name on same named named2 full full2 answers = ask-own name docs others same visit ask answer on named named2 full full2 answers

pub replies-are-own : RepliesAreOwn
replies-are-own visit docs others answer name on same named named2 full full2 steps =
    asked-own visit (asked_by visit.request.method visit.request.path) docs others answer name on same named named2 full full2 steps
