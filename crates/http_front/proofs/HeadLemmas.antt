-- What bytes are at whose front the parser found a head.
use Rattle.std.proofs.Common.{◌≡◌, ℕ, ◌+◌, ◌-◌, ◌<◌, ◌≤◌, List, [], ◌++◌, length, map, take, drop, Result, Ok, Err, refl, sym, ap, ◌∙◌, subst, inl, arith, take-append-drop, length-take, length-drop}
use Rattle.std.proofs.lemmas.List.{drop-drop, length-map}
use Rattle.httparse.specs.Grammar.{RequestHead, print_request, ReadsRequest}
use Rattle.httparse.specs.Spans.{header_bytes}
use Rattle.httparse.specs.declared.spans.HeaderSpan.{HeaderSpan}
use Rattle.httparse.specs.declared.spans.RequestSpans.{RequestSpans}
use Rattle.httparse.proofs.GrammarLemmas.{request_unique, ReadsRequest-append}
use Rattle.http_front.specs.Arrival.{BeginsWithHead, HasNoHead, IsOpen, HasRequest, LacksBody, HasRefusedHead, HasLargeHead}
use Rattle.http_front.specs.Front.{IsHeadFound, CoversHead}
use Rattle.http_front.specs.Head.{body_length}
use Rattle.http_front.specs.Request.{Request, request_of, fields_of}

-- bytes that begin with a head are open: it stands there already
pub head_is_open : (bytes : List ℕ) (head : RequestHead) (rest : List ℕ) → ReadsRequest bytes head rest → IsOpen bytes
head_is_open bytes head rest reads = inl ([], head, rest ++ [], ReadsRequest-append bytes head rest [] reads)

module _ (bytes : List ℕ) (headers : List HeaderSpan) (spans : RequestSpans) (x : IsHeadFound bytes headers spans) where
  few_fields : length x.head.fields ≤ 64
  few_fields =
      omega (arith, x.room, length-take spans.headers headers, simp length-map at (ap length x.found.fields))

  pub covers : CoversHead bytes (take spans.headers headers) spans x.head
  covers = record { method = x.found.method; target = x.found.path; minor = x.found.version; fields = x.found.fields }

  pub begins : spans.len ≤ 65536 → BeginsWithHead bytes x.head (drop spans.len bytes)
  begins small = record { reads = x.found.reads; fields = few_fields; size = omega (arith, x.found.len) }

  -- a head of more bytes is the only one there
  none_small : 65536 < spans.len → HasNoHead bytes
  none_small large head rest b =
      let same : x.head ≡ head = (request_unique bytes x.head head (drop spans.len bytes) rest x.found.reads b.reads).0 in
      omega (arith, b.size, x.found.len, ap (λ (h : RequestHead). length (print_request h)) same)

  pub is_large : 65536 < spans.len → HasLargeHead bytes 431
  is_large large = record {
    large = inl (record {
      none = none_small large;
      full = omega (arith, x.within.section.len_fits);
      is_open = head_is_open bytes x.head (drop spans.len bytes) x.found.reads;
    });
    code = refl;
  }

  module _ (small : spans.len ≤ 65536) where
    sized_by : (size : Result ℕ ℕ) → size ≡ body_length (map (header_bytes bytes) (take spans.headers headers)) → body_length (fields_of x.head) ≡ size
    sized_by size is = sym (is ∙ ap body_length x.found.fields)

    pub is_refused : (status : ℕ) → Err status ≡ body_length (map (header_bytes bytes) (take spans.headers headers)) → HasRefusedHead bytes status
    is_refused status is = record { head = x.head; rest = drop spans.len bytes; begins = begins small; refusal = sized_by (Err status) is }

    module _ (n : ℕ) (is : Ok n ≡ body_length (map (header_bytes bytes) (take spans.headers headers))) where
      pub lacks_body : length bytes - spans.len < n → LacksBody bytes
      lacks_body short = record {
        head = x.head;
        rest = drop spans.len bytes;
        size = n;
        begins = begins small;
        sized = sized_by (Ok n) is;
        lacks = omega (arith, length-drop spans.len bytes);
      }

      split : drop spans.len bytes ≡ take n (drop spans.len bytes) ++ drop (spans.len + n) bytes
      split =
          sym (take-append-drop n (drop spans.len bytes)) ∙ ap (λ (s : List ℕ). take n (drop spans.len bytes) ++ s) (drop-drop n spans.len bytes)

      is_whole : n ≤ length bytes - spans.len
          → HasRequest bytes (request_of x.head (take n (drop spans.len bytes))) (drop (spans.len + n) bytes)
      is_whole fits = record {
        head = x.head;
        begins = subst (BeginsWithHead bytes x.head) split (begins small);
        sized = sized_by (Ok n) is ∙ ap Ok (sym (length-take n (drop spans.len bytes) ∙ omega (arith, length-drop spans.len bytes)));
        same = refl;
      }

      pub has_request : n ≤ length bytes - spans.len → (request : Request) → request ≡ request_of x.head (take n (drop spans.len bytes))
          → HasRequest bytes request (drop (spans.len + n) bytes)
      has_request fits request same = subst (λ (r : Request). HasRequest bytes r (drop (spans.len + n) bytes)) (sym same) (is_whole fits)
