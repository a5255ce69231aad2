-- What holds of arrivals whatever the bytes are.
use Rattle.std.specs.Prelude.{◌≡◌, ℕ, ◌<◌, ◌≤◌, ◌⊎◌, List, [], ◌++◌, length}
use Rattle.httparse.specs.Grammar.{RequestHead, ReadsRequest}
use Rattle.http_front.specs.Request.{Request}
use Rattle.http_front.specs.Arrival.{Arrival, whole, partial, Arrives, MayBecomeHead}

-- a request that has come whole is the only answer to its bytes
abbrev pub WholeIsOnly : Type 0
WholeIsOnly =
    (bytes : List ℕ) (request : Request) (rest : List ℕ) (other : Arrival)
    → Arrives bytes (whole request rest) → Arrives bytes other → other ≡ whole request rest

-- bytes after a request that has come whole change nothing of it
abbrev pub WholeStays : Type 0
WholeStays =
    (bytes : List ℕ) (request : Request) (rest more : List ℕ)
    → Arrives bytes (whole request rest) → Arrives (bytes ++ more) (whole request (rest ++ more))

-- the beginning of a whole request is partial, or the whole of it stands there already
abbrev pub FrontOfWhole : Type 0
FrontOfWhole =
    (bytes more : List ℕ) (request : Request) (rest : List ℕ) (front : Arrival)
    → Arrives (bytes ++ more) (whole request rest) → Arrives bytes front
    → (front ≡ partial) ⊎ ((between : List ℕ) × (front ≡ whole request between) × (rest ≡ between ++ more))

-- the largest request has 327,680 bytes, and what is the beginning of one has fewer
abbrev pub WholeIsShort : Type 0
WholeIsShort = (bytes : List ℕ) (request : Request) → Arrives bytes (whole request []) → length bytes ≤ 327680

abbrev pub PartialIsShort : Type 0
PartialIsShort = (bytes : List ℕ) → Arrives bytes partial → length bytes < 327680

-- no bytes are the beginning of a request
abbrev pub NothingIsPartial : Type 0
NothingIsPartial = (arrival : Arrival) → Arrives [] arrival → arrival ≡ partial

-- a head of however many fields and bytes stands at the front
abbrev pub HasHead : List ℕ → Type 0
HasHead bytes = (head : RequestHead) × (rest : List ℕ) × ReadsRequest bytes head rest

-- there is one answer where a head stands at the front, or one of at most 64 fields can still come
abbrev pub ArrivesOnce : Type 0
ArrivesOnce =
    (bytes : List ℕ) (one other : Arrival)
    → HasHead bytes ⊎ MayBecomeHead bytes → Arrives bytes one → Arrives bytes other → one ≡ other
