-- Bytes are one arrival at most, where a head stands at their front or can still come.
use Rattle.std.proofs.Common.{◌≡◌, ℕ, ◌<◌, ◌≤◌, ◌⊎◌, nat_le, if◌then◌else◌, List, [], ◌++◌, length, take, drop, Result, Ok, Err, refl, sym, ap, ◌∙◌, subst, inl, inr, arith, append_assoc, length-append}
use Rattle.std.proofs.Math.Seq.{take-append_seam, drop-append_seam}
use Rattle.std.proofs.lemmas.Bool.{le-leb, lt-leb}
use Rattle.httparse.specs.Grammar.{RequestHead, ReadsRequest}
use Rattle.httparse.proofs.GrammarLemmas.{request_unique, ReadsRequest-append}
use Rattle.http_front.specs.Arrival.{Arrival, whole, partial, refused, Arrives, BeginsWithHead, MayBecomeHead}
use Rattle.http_front.specs.Head.{body_length}
use Rattle.http_front.specs.Request.{Request, request_of, fields_of}
use Rattle.http_front.specs.Laws.{HasHead, WholeIsOnly, WholeStays, ArrivesOnce}

-- the arrival that a head with this body's length and the bytes after it make
abbrev arrival_after : RequestHead → Result ℕ ℕ → List ℕ → Arrival
arrival_after head (Err status) rest = refused status
arrival_after head (Ok n) rest = if nat_le n (length rest) then whole (request_of head (take n rest)) (drop n rest) else partial

after_whole : (head : RequestHead) (body rest : List ℕ) → arrival_after head (Ok (length body)) (body ++ rest) ≡ whole (request_of head body) rest
after_whole head body rest =
    let fits : length body ≤ length (body ++ rest) = omega (arith, length-append body rest) in
    rw (le-leb (length body) (length (body ++ rest)) fits) (rw (take-append_seam body rest, drop-append_seam body rest) refl)

after_lacks : (head : RequestHead) (n : ℕ) (rest : List ℕ) → length rest < n → arrival_after head (Ok n) rest ≡ partial
after_lacks head n rest short = rw (lt-leb n (length rest) short) refl

abbrev arrival_of_head : RequestHead → List ℕ → Arrival
arrival_of_head head rest = arrival_after head (body_length (fields_of head)) rest

same_after : (bytes : List ℕ) (h k : RequestHead) (r q : List ℕ) → BeginsWithHead bytes h r → BeginsWithHead bytes k q
    → arrival_of_head h r ≡ arrival_of_head k q
same_after bytes h k r q x y =
    let same = request_unique bytes h k r q x.reads y.reads in
    ap (λ (g : RequestHead). arrival_of_head g r) same.0 ∙ ap (arrival_of_head k) same.1

-- a head at the front decides what the bytes are
head_decides : (bytes : List ℕ) (head : RequestHead) (rest : List ℕ) → BeginsWithHead bytes head rest
    → (x : Arrival) → Arrives bytes x → x ≡ arrival_of_head head rest
head_decides bytes head rest b (whole request r) a =
    ap (λ (q : Request). whole q r) a.same ∙ sym (same_after bytes head a.head rest (request.body ++ r) b a.begins
    ∙ ap (λ (n : Result ℕ ℕ). arrival_after a.head n (request.body ++ r)) a.sized ∙ after_whole a.head request.body r)
head_decides bytes head rest b partial (inl a) =
    sym (same_after bytes head a.head rest a.rest b a.begins
    ∙ ap (λ (n : Result ℕ ℕ). arrival_after a.head n a.rest) a.sized ∙ after_lacks a.head a.size a.rest a.lacks)
head_decides bytes head rest b partial (inr a) = absurd (a.none head rest b.reads)
head_decides bytes head rest b (refused status) (inl a) =
    sym (same_after bytes head a.head rest a.rest b a.begins ∙ ap (λ (n : Result ℕ ℕ). arrival_after a.head n a.rest) a.refusal)
head_decides bytes head rest b (refused status) (inr (inl a)) = elim a.large [
  | inl full ↦ absurd (full.none head rest b)
  | inr many ↦ absurd (many.never (may_now bytes head rest b))
]
  where
    may_now : (bytes : List ℕ) (head : RequestHead) (rest : List ℕ) → BeginsWithHead bytes head rest → MayBecomeHead bytes
    may_now bytes head rest b = record { more = []; head = head; rest = rest ++ []; reads = ReadsRequest-append bytes head rest [] b.reads; fields = b.fields }
head_decides bytes head rest b (refused status) (inr (inr a)) =
    absurd (a.never [] head (rest ++ []) (ReadsRequest-append bytes head rest [] b.reads))

-- a head that isn't too large stands at the front
abbrev HasBoundedHead : List ℕ → Type 0
HasBoundedHead bytes = (head : RequestHead) × (rest : List ℕ) × BeginsWithHead bytes head rest

-- an arrival shows such a head, or the head that stands there is too large
shows_bounded : (bytes : List ℕ) (x : Arrival) → HasHead bytes → Arrives bytes x
    → HasBoundedHead bytes ⊎ (x ≡ refused 431)
shows_bounded bytes (whole request rest) h a = inl (a.head, request.body ++ rest, a.begins)
shows_bounded bytes partial h (inl a) = inl (a.head, a.rest, a.begins)
shows_bounded bytes partial h (inr a) = absurd (a.none h.0 h.1 h.2)
shows_bounded bytes (refused status) h (inl a) = inl (a.head, a.rest, a.begins)
shows_bounded bytes (refused status) h (inr (inl a)) = inr (ap refused a.code)
shows_bounded bytes (refused status) h (inr (inr a)) =
    absurd (a.never [] h.0 (h.1 ++ []) (ReadsRequest-append bytes h.0 h.1 [] h.2))

-- what bytes without a head are, where one can still come
abbrev without_head : List ℕ → Arrival
without_head bytes = if nat_le 65536 (length bytes) then refused 431 else partial

-- an arrival shows a head, or there's none
shows_head : (bytes : List ℕ) (x : Arrival) → MayBecomeHead bytes → Arrives bytes x
    → HasBoundedHead bytes ⊎ (x ≡ without_head bytes)
shows_head bytes (whole request rest) may a = inl (a.head, request.body ++ rest, a.begins)
shows_head bytes partial may (inl a) = inl (a.head, a.rest, a.begins)
shows_head bytes partial may (inr a) = inr (rw (lt-leb 65536 (length bytes) a.room) refl)
shows_head bytes (refused status) may (inl a) = inl (a.head, a.rest, a.begins)
shows_head bytes (refused status) may (inr (inl a)) = elim a.large [
  | inl full ↦ inr (rw (le-leb 65536 (length bytes) full.full) (ap refused a.code))
  | inr many ↦ absurd (many.never may)
]
shows_head bytes (refused status) may (inr (inr a)) = absurd (a.never may.more may.head may.rest may.reads)

once_with_head : (bytes : List ℕ) (x y : Arrival) → HasBoundedHead bytes → Arrives bytes x → Arrives bytes y → x ≡ y
once_with_head bytes x y h a b =
    head_decides bytes h.0 h.1 h.2 x a ∙ sym (head_decides bytes h.0 h.1 h.2 y b)

-- where both are the one arrival without a head that isn't too large, or show such a head
once_or : (bytes : List ℕ) (x y z : Arrival) → Arrives bytes x → Arrives bytes y
    → HasBoundedHead bytes ⊎ (x ≡ z) → HasBoundedHead bytes ⊎ (y ≡ z) → x ≡ y
once_or bytes x y z a b (inl h) q = once_with_head bytes x y h a b
once_or bytes x y z a b (inr p) (inl h) = once_with_head bytes x y h a b
once_or bytes x y z a b (inr p) (inr q) = p ∙ sym q

pub arrives_once : ArrivesOnce
arrives_once bytes x y (inl h) a b =
    once_or bytes x y (refused 431) a b (shows_bounded bytes x h a) (shows_bounded bytes y h b)
arrives_once bytes x y (inr may) a b =
    once_or bytes x y (without_head bytes) a b (shows_head bytes x may a) (shows_head bytes y may b)

pub whole_is_only : WholeIsOnly
whole_is_only bytes request rest other a b =
    once_with_head bytes other (whole request rest) (a.head, request.body ++ rest, a.begins) b a

pub whole_stays : WholeStays
whole_stays bytes request rest more a = record {
  head = a.head;
  begins = record {
    reads = subst (ReadsRequest (bytes ++ more) a.head) (append_assoc request.body rest more)
        (ReadsRequest-append bytes a.head (request.body ++ rest) more a.begins.reads);
    fields = a.begins.fields;
    size = a.begins.size;
  };
  sized = a.sized;
  same = a.same;
}
