-- What the bytes of a link that have come so far are.
use Rattle.std.specs.Prelude.{◌≡◌, ℕ, ◌<◌, ◌≤◌, ◌⊎◌, List, ◌++◌, length, Ok, Err}
use Rattle.httparse.specs.Grammar.{RequestHead, print_request, ReadsRequest, HasNoRequest, NeverHasRequest, EndsInTarget}
use Rattle.httparse.specs.Spans.{RequestExceeds}
use Rattle.http_front.specs.Head.{body_length}
use Rattle.http_front.specs.Request.{Request, fields_of, request_of}

pub data Arrival : Type 0 where
  -- a request, and the bytes after it
  whole : Request → List ℕ → Arrival
  -- the beginning of a request
  partial : Arrival
  -- no request: the status of the refusal
  refused : ℕ → Arrival

-- a head of at most 64 fields and 65,536 bytes stands at the front, and then these bytes
pub record BeginsWithHead (bytes : List ℕ) (head : RequestHead) (rest : List ℕ) : Type 0 where
  pub reads : ReadsRequest bytes head rest
  pub fields : length head.fields ≤ 64
  pub size : length (print_request head) ≤ 65536

-- no head of at most 64 fields and 65,536 bytes stands at the front
abbrev pub HasNoHead : List ℕ → Type 0
HasNoHead bytes = (head : RequestHead) (rest : List ℕ) → ¬ (BeginsWithHead bytes head rest)

-- some bytes can follow so that a head of at most 64 fields stands at the front
pub record MayBecomeHead (bytes : List ℕ) : Type 0 where
  pub more : List ℕ
  pub head : RequestHead
  pub rest : List ℕ
  pub reads : ReadsRequest (bytes ++ more) head rest
  pub fields : length head.fields ≤ 64

-- some bytes can follow so that a head, of however many fields, stands at the front; or the target is still being read
abbrev pub IsOpen : List ℕ → Type 0
IsOpen bytes =
    ((more : List ℕ) × (head : RequestHead) × (rest : List ℕ) × ReadsRequest (bytes ++ more) head rest) ⊎ EndsInTarget bytes

-- a head, the whole of the request's body, and then these bytes
pub record HasRequest (bytes : List ℕ) (request : Request) (rest : List ℕ) : Type 0 where
  pub head : RequestHead
  pub begins : BeginsWithHead bytes head (request.body ++ rest)
  pub sized : body_length (fields_of head) ≡ Ok (length request.body)
  pub same : request ≡ request_of head request.body

-- a head, and fewer bytes than its body has
pub record LacksBody (bytes : List ℕ) : Type 0 where
  pub head : RequestHead
  pub rest : List ℕ
  pub size : ℕ
  pub begins : BeginsWithHead bytes head rest
  pub sized : body_length (fields_of head) ≡ Ok size
  pub lacks : length rest < size

-- no head yet, of however many fields, and room for the rest of one that can still come
pub record LacksHead (bytes : List ℕ) : Type 0 where
  pub none : HasNoRequest bytes
  pub room : length bytes < 65536
  pub is_open : IsOpen bytes

-- a head whose fields are refused with this status
pub record HasRefusedHead (bytes : List ℕ) (status : ℕ) : Type 0 where
  pub head : RequestHead
  pub rest : List ℕ
  pub begins : BeginsWithHead bytes head rest
  pub refusal : body_length (fields_of head) ≡ Err status

-- no head in 65,536 bytes or more, though a longer one stands there or can still come
pub record OverflowsBytes (bytes : List ℕ) : Type 0 where
  pub none : HasNoHead bytes
  pub full : 65536 ≤ length bytes
  pub is_open : IsOpen bytes

-- 65 fields stand there, and no head of at most 64 can come
pub record OverflowsFields (bytes : List ℕ) : Type 0 where
  pub many : RequestExceeds 64 bytes
  pub never : ¬ (MayBecomeHead bytes)

-- no head that is small enough: 431 (Request Header Fields Too Large)
pub record HasLargeHead (bytes : List ℕ) (status : ℕ) : Type 0 where
  pub large : OverflowsBytes bytes ⊎ OverflowsFields bytes
  pub code : status ≡ 431

-- no head, whatever bytes follow: 400 (Bad Request)
pub record NeverHasHead (bytes : List ℕ) (status : ℕ) : Type 0 where
  pub never : NeverHasRequest bytes
  pub code : status ≡ 400

-- the bytes are such an arrival
abbrev pub Arrives : List ℕ → Arrival → Type 0
Arrives bytes (whole request rest) = HasRequest bytes request rest
Arrives bytes partial = LacksBody bytes ⊎ LacksHead bytes
Arrives bytes (refused status) = HasRefusedHead bytes status ⊎ (HasLargeHead bytes status ⊎ NeverHasHead bytes status)
