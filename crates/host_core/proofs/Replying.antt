-- From the bytes of a reply to what a request came to.
use Rattle.std.proofs.Common.{◌≡◌, ℕ, ◌<◌, List, Bool, Option, Some, None, Result, Ok, Err, IfOk, length, get_or, set, refl, sym, ap, subst, ◌∙◌}
use Rattle.std.specs.Prelude.{MatchOption}
use Rattle.std.specs.declared.alloc.AllocError.{AllocError}
use Rattle.std.proofs.lemmas.List.{get_or_default}
use Rattle.snap_core.specs.Value.{Value}
use Rattle.pointer_core.specs.declared.refusal.Rule.TheVariants.{Unknown}
use Rattle.http_front.specs.Reply.{Reply, printed}
use Rattle.host_replies.specs.Replies.{rule_reply}
use Rattle.host_core.specs.declared.held.Held.{Held}
use Rattle.host_core.specs.Answering.{Done}
use Rattle.host_core.specs.Asking.{Answer, On, unchanged, after_done}
use Rattle.host_core.specs.Docs.{Docs, find, with_snapshot}
use Rattle.host_core.specs.Inside.{IsAnswered, IsDone, StandsAt, held_docs, snapshot_of}
use Rattle.host_core.specs.Keeping.{IsKept}
use Rattle.host_core.proofs.Holding.{stands-found, stands-set, with_snapshot-same}

-- a reply that leaves a document as it is
pub done-by : (close : Bool) (Does : Done → Type 0) (done : Done) (result : Result (List ℕ) AllocError) (snapshot : Value) → Does done
    → IfOk result (λ bytes. bytes ≡ printed close done.reply) → snapshot ≡ done.snapshot → IfOk result (λ bytes. IsDone close Does bytes snapshot)
done-by close Does done (Ok bytes) snapshot does h same = (done, does, h, same)
done-by close Does done (Err e) snapshot does h same = tt

-- what a request came to, told in another way
pub done-as : (close : Bool) (Does More : Done → Type 0) (result : Result (List ℕ) AllocError) (snapshot : Value) → ((done : Done) → Does done → More done)
    → IfOk result (λ bytes. IsDone close Does bytes snapshot) → IfOk result (λ bytes. IsDone close More bytes snapshot)
done-as close Does More (Ok bytes) snapshot more (done, does, is, same) = (done, more done does, is, same)
done-as close Does More (Err e) snapshot more done = tt

-- a reply once a change is kept
pub kept-by : (close : Bool) (Does : Done → Type 0) (done : Done) (result : Result (List ℕ) AllocError) (snapshot : Value) → Does done
    → IfOk result (λ bytes. IsKept close done bytes snapshot) → IfOk result (λ bytes. IsDone close Does bytes snapshot)
kept-by close Does done (Ok bytes) snapshot does kept = (done, does, kept.bytes_are, kept.shows)
kept-by close Does done (Err e) snapshot does kept = tt

-- a reply that leaves the documents as they are
pub same-by : (close : Bool) (Gives : Answer → Type 0) (docs : Docs) (reply : Reply) (result : Result (List ℕ) AllocError) → Gives (unchanged docs reply)
    → IfOk result (λ bytes. bytes ≡ printed close reply) → IfOk result (λ bytes. IsAnswered close Gives bytes docs)
same-by close Gives docs reply (Ok bytes) gives h = (unchanged docs reply, gives, h, refl)
same-by close Gives docs reply (Err e) gives h = tt

-- an element that was read, whatever stands for one that isn't there
pub read-is : (docs : List Held) (at : ℕ) (d : Held) → at < length docs → get_or docs at d ≡ get_or docs at (get_or docs at d)
read-is docs at d within = get_or_default docs at d (get_or docs at d) within

-- what a request on the document of a name came to, once it is found
found-answer : (close : Bool) (name : List ℕ) (docs after : Docs) (Does : Value → Done → Type 0) (bytes : List ℕ) (shown now : Value) → find name docs ≡ Some shown
    → IsDone close (Does shown) bytes now → after ≡ with_snapshot name now docs → IsAnswered close (On name docs Does) bytes after
found-answer close name docs after Does bytes shown now found (done, does, is, same) set =
    let P : Option Value → Type 0 = λ o. MatchOption o (after_done name docs done ≡ unchanged docs (rule_reply Unknown))
    (λ snapshot. (d : Done) × Does snapshot d × (after_done name docs done ≡ after_done name docs d)) in
    (after_done name docs done, subst P (sym found) (done, does, refl), is, set ∙ ap (λ v. with_snapshot name v docs) same)

pub on-read : (close : Bool) (Does : Value → Done → Type 0) (name : List ℕ) (docs : List Held) (at : ℕ) (held : Held) (result : Result (List ℕ) AllocError)
    → StandsAt name at docs → held ≡ get_or docs at held → IfOk result (λ bytes. IsDone close (Does (snapshot_of held.document)) bytes (snapshot_of held.document))
    → IfOk result (λ bytes. IsAnswered close (On name (held_docs docs) Does) bytes (held_docs docs))
on-read close Does name docs at held (Ok bytes) stands here done =
    let found : find name (held_docs docs) ≡ Some (snapshot_of held.document) = stands-found name at docs held stands here in
    found-answer close name (held_docs docs) (held_docs docs) Does bytes (snapshot_of held.document) (snapshot_of held.document) found done
    (sym (with_snapshot-same name (snapshot_of held.document) (held_docs docs) found))
on-read close Does name docs at held (Err e) stands here done = tt

pub on-changed : (close : Bool) (Does : Value → Done → Type 0) (name : List ℕ) (docs after : List Held) (at : ℕ) (held new : Held) (result : Result (List ℕ) AllocError)
    → StandsAt name at docs → held ≡ get_or docs at held → new.name ≡ held.name → after ≡ set docs at new
    → IfOk result (λ bytes. IsDone close (Does (snapshot_of held.document)) bytes (snapshot_of new.document))
    → IfOk result (λ bytes. IsAnswered close (On name (held_docs docs) Does) bytes (held_docs after))
on-changed close Does name docs after at held new (Ok bytes) stands here named changed done =
    found-answer close name (held_docs docs) (held_docs after) Does bytes (snapshot_of held.document) (snapshot_of new.document)
    (stands-found name at docs held stands here) done (ap held_docs changed ∙ stands-set name at docs held new stands here named)
on-changed close Does name docs after at held new (Err e) stands here named changed done = tt

pub on-none : (close : Bool) (Does : Value → Done → Type 0) (name : List ℕ) (docs : Docs) (result : Result (List ℕ) AllocError) → find name docs ≡ None
    → IfOk result (λ bytes. bytes ≡ printed close (rule_reply Unknown)) → IfOk result (λ bytes. IsAnswered close (On name docs Does) bytes docs)
on-none close Does name docs result none h =
    let P : Option Value → Type 0 = λ o. MatchOption o (unchanged docs (rule_reply Unknown) ≡ unchanged docs (rule_reply Unknown))
    (λ snapshot. (d : Done) × Does snapshot d × (unchanged docs (rule_reply Unknown) ≡ after_done name docs d)) in
    same-by close (On name docs Does) docs (rule_reply Unknown) result (subst P (sym none) refl) h
