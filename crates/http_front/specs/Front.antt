-- Words of private clauses: what the code has found of a head.
use Rattle.std.specs.Prelude.{◌≡◌, ℕ, ◌≤◌, List, [], ◌∷◌, length, map, All, Result, Ok, Err, ⊤}
use Rattle.httparse.specs.Grammar.{RequestHead}
use Rattle.httparse.specs.Spans.{IsWithin, IsHeaderWithin, IsRequestWithin, IsRequestAt, header_bytes, span_bytes}
use Rattle.httparse.specs.declared.spans.HeaderSpan.{HeaderSpan}
use Rattle.httparse.specs.declared.spans.RequestSpans.{RequestSpans}
use Rattle.http_front.specs.declared.fields.Values.{Values}
use Rattle.http_front.specs.declared.fields.Values.TheVariants.{Absent, One, Several}
use Rattle.http_front.specs.Answer.{IsHeadStatus}
use Rattle.http_front.specs.Request.{fields_of}

-- a head of at most as many fields as there are headers was found at the front of the bytes
pub record IsHeadFound (bytes : List ℕ) (headers : List HeaderSpan) (spans : RequestSpans) : Type 0 where
  pub within : IsRequestWithin bytes headers spans
  pub head : RequestHead
  pub found : IsRequestAt bytes headers spans head
  pub room : length headers ≡ 64

-- the spans of a head and of its fields lie in so many bytes
pub record HasSpans (len : ℕ) (headers : List HeaderSpan) (spans : RequestSpans) : Type 0 where
  pub method : IsWithin len spans.method
  pub target : IsWithin len spans.path
  pub fields : All (IsHeaderWithin len) headers

-- the spans are those of this head and of all its fields
pub record CoversHead (bytes : List ℕ) (headers : List HeaderSpan) (spans : RequestSpans) (head : RequestHead) : Type 0 where
  pub method : span_bytes bytes spans.method ≡ head.method
  pub target : span_bytes bytes spans.path ≡ head.target
  pub minor : spans.version ≡ head.minor
  pub fields : map (header_bytes bytes) headers ≡ fields_of head

-- these are all the values: none, this one, or two and more
abbrev pub AreValues : Values → List (List ℕ) → Type 0
AreValues Absent values = values ≡ []
AreValues (One value) values = values ≡ value.now ∷ []
AreValues Several values = 2 ≤ length values

-- an error is the status of a refusal
abbrev pub IfRefused : Result ℕ ℕ → Type 0
IfRefused (Ok length) = ⊤
IfRefused (Err status) = IsHeadStatus status
