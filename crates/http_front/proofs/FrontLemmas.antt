-- What the beginning of a whole request is.
use Rattle.std.proofs.Common.{◌≡◌, ℕ, ◌≤◌, List, [], ◌∷◌, ◌++◌, length, take, drop, Result, Ok, Err, refl, sym, ap, ◌∙◌, inl, inr, arith, get_or, length-append, take-append-drop, codes, cond, Bool, true, false}
use Rattle.std.specs.Prelude.{nat_le}
use Rattle.std.specs.Str.Parse.{digits_value}
use Rattle.std.proofs.Math.Seq.{take-append_seam}
use Rattle.std.proofs.lemmas.Bool.{leb-true}
use Rattle.std.proofs.lemmas.List.{take-append-le}
use Rattle.std.proofs.lemmas.List.Elements.{All-nil}
use Rattle.std.proofs.lemmas.List.Folds.{list_all_at}
use Rattle.std.specs.List.{list_all}
use Rattle.httparse.specs.Grammar.{RequestHead, print_request, ReadsRequest, IsRequestHead, IsField, AllPass, is_token_byte, is_uri_byte, crlf}
use Rattle.httparse.proofs.GrammarLemmas.{request_prefix_free}
use Rattle.httparse.proofs.OnLiterals.{httparse_on_literals}
use Rattle.http_front.specs.Arrival.{whole, partial, refused, BeginsWithHead, MayBecomeHead}
use Rattle.http_front.specs.Head.{NamedValue, values_of, body_length, given_length, bounded_length, is_length_text, lacks}
use Rattle.http_front.specs.Request.{fields_of}
use Rattle.http_front.specs.Laws.{FrontOfWhole, WholeIsShort, PartialIsShort, NothingIsPartial}
use Rattle.http_front.proofs.LawLemmas.{whole_is_only, whole_stays}

-- a head that is small enough stands in bytes that are as many
stands_within : (bytes more : List ℕ) (head : RequestHead) (rest : List ℕ) → BeginsWithHead (bytes ++ more) head rest → 65536 ≤ length bytes
    → BeginsWithHead bytes head (drop (length (print_request head)) bytes)
stands_within bytes more head rest b full =
    let size = length (print_request head) in
    let fits : size ≤ length bytes = omega (arith, b.size) in
    let front : take size bytes ≡ print_request head =
    sym (take-append-le size bytes more fits) ∙ ap (take size) b.reads.1 ∙ take-append_seam (print_request head) rest in
    record {
      reads = (b.reads.0, sym (take-append-drop size bytes) ∙ ap (λ (s : List ℕ). s ++ drop size bytes) front);
      fields = b.fields;
      size = b.size;
    }

pub front_of_whole : FrontOfWhole
front_of_whole bytes more request rest (whole other between) a f =
    let same : whole other (between ++ more) ≡ whole request rest =
    whole_is_only (bytes ++ more) request rest (whole other (between ++ more)) a (whole_stays bytes other between more f) in
    inr (between, cc, cc)
front_of_whole bytes more request rest partial a f = inl refl
front_of_whole bytes more request rest (refused status) a (inl f) =
    let same : f.head ≡ a.head =
    (request_prefix_free bytes more f.head a.head f.rest (request.body ++ rest) f.begins.reads a.begins.reads).0 in
    let both : Err status ≡ Ok (length request.body) =
    sym f.refusal ∙ ap (λ (h : RequestHead). body_length (fields_of h)) same ∙ a.sized in
    cc
front_of_whole bytes more request rest (refused status) a (inr (inl f)) = elim f.large [
  | inl full ↦ absurd (full.none a.head (drop (length (print_request a.head)) bytes) (stands_within bytes more a.head (request.body ++ rest) a.begins full.full))
  | inr many ↦ absurd (many.never (record {
    more = more;
    head = a.head;
    rest = request.body ++ rest;
    reads = a.begins.reads;
    fields = a.begins.fields;
  }))
]
front_of_whole bytes more request rest (refused status) a (inr (inr f)) = absurd (f.never more a.head (request.body ++ rest) a.begins.reads)

-- a body has at most 262,144 bytes
within_bound : (b : Bool) (n m : ℕ) → cond {A = Result ℕ ℕ} b (Ok n) (Err 413) ≡ Ok m → (b ≡ true) × (n ≡ m)
within_bound true n m e = (refl, cc)
within_bound false n m e = cc

bounded-le : (n m : ℕ) → bounded_length n ≡ Ok m → m ≤ 262144
bounded-le n m e =
    let g : (nat_le n 262144 ≡ true) × (n ≡ m) = within_bound (nat_le n 262144) n m e in
    let most : n ≤ 262144 = leb-true n 262144 g.0 in
    omega (arith, most, g.1)

taken : (b : Bool) (r : Result ℕ ℕ) (status m : ℕ) → cond b r (Err status) ≡ Ok m → r ≡ Ok m
taken true r status m e = e
taken false r status m e = cc

given-le : (values : List (List ℕ)) (m : ℕ) → given_length values ≡ Ok m → m ≤ 262144
given-le [] m e = (let zero : 0 ≡ m = cc in omega (arith, zero))
given-le (v ∷ []) m e = bounded-le (digits_value 10 v) m (taken (is_length_text v) (bounded_length (digits_value 10 v)) 400 m e)
given-le (v ∷ w ∷ values) m e = cc

pub body-le : (fields : List NamedValue) (m : ℕ) → body_length fields ≡ Ok m → m ≤ 262144
body-le fields m e =
    given-le (values_of (codes "content-length") fields) m
    (taken (lacks (codes "transfer-encoding") fields) (given_length (values_of (codes "content-length") fields)) 501 m e)

pub whole_is_short : WholeIsShort
whole_is_short bytes request a =
    omega (arith, body-le (fields_of a.head) (length request.body) a.sized, a.begins.size, simp length-append at (ap length a.begins.reads.1))

pub partial_is_short : PartialIsShort
partial_is_short bytes (inl a) =
    omega (arith, body-le (fields_of a.head) a.size a.sized, a.lacks, a.begins.size, simp length-append at (ap length a.begins.reads.1))
partial_is_short bytes (inr a) = omega (arith, a.room)

-- a head has some bytes
some-head : (head : RequestHead) (rest : List ℕ) → [] ≡ print_request head ++ rest → ⊥
unfolding print_request
some-head head rest e = absurd (omega (arith, simp length-append at (ap length e)))

true_unless : (b : Bool) → (b ≡ false → ⊥) → b ≡ true
true_unless true never = refl
true_unless false never = absurd (never refl)

passes_all : (test : ℕ → Bool) (bytes : List ℕ) → list_all test bytes ≡ true → AllPass test bytes
passes_all test bytes all k d inside =
    true_unless (test (get_or bytes k d)) (λ no. (let e : true ≡ false = sym all ∙ list_all_at test bytes k d inside no in cc))

-- GET / HTTP/1.1
abbrev least_head : RequestHead
least_head = record {
  blank = [];
  method = codes "GET";
  target = codes "/";
  minor = 1;
  line_end = crlf;
  fields = [];
  last = crlf;
}

least_is_head : IsRequestHead least_head
unfolding httparse_on_literals lib.Utf8.encode
least_is_head = record {
  method = (omega arith, passes_all is_token_byte (codes "GET") refl);
  target = (omega arith, passes_all is_uri_byte (codes "/") refl);
  target_text = (47 ∷ [], (refl, refl));
  minor = omega arith;
  fields = All-nil IsField;
}

least_reads : ReadsRequest ([] ++ (print_request least_head ++ [])) least_head []
least_reads = (least_is_head, refl)

any_may : MayBecomeHead []
any_may = record { more = print_request least_head ++ []; head = least_head; rest = []; reads = least_reads; fields = omega arith }

pub nothing_is_partial : NothingIsPartial
nothing_is_partial (whole request rest) a = absurd (some-head a.head (request.body ++ rest) a.begins.reads.1)
nothing_is_partial partial a = refl
nothing_is_partial (refused status) (inl a) = absurd (some-head a.head a.rest a.begins.reads.1)
nothing_is_partial (refused status) (inr (inl a)) = elim a.large [
  | inl full ↦ absurd (omega (arith, full.full))
  | inr many ↦ absurd (many.never any_may)
]
nothing_is_partial (refused status) (inr (inr a)) = absurd (a.never (print_request least_head ++ []) least_head [] least_reads)
