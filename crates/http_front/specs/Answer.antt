-- What an answer to the bytes of a link says of them.
use Rattle.std.specs.Prelude.{◌≡◌, ℕ, ◌≤◌, ◌⊎◌, List, drop, ⊤}
use Rattle.http_front.specs.declared.request.Next.{Next}
use Rattle.http_front.specs.declared.request.Next.TheVariants.{Found, NeedMore, Bad}
use Rattle.http_front.specs.Arrival.{Arrival, whole, partial, refused}
use Rattle.http_front.specs.Request.{seen}

-- the arrival that the answer stands for
abbrev pub arrival_of : List ℕ → Next → Arrival
arrival_of bytes (Found request used) = whole (seen request) (drop used bytes)
arrival_of bytes NeedMore = partial
arrival_of bytes (Bad status) = refused status

-- no more bytes are used than there are
abbrev pub UsesAtMost : ℕ → Next → Type 0
UsesAtMost most (Found request used) = used ≤ most
UsesAtMost most NeedMore = ⊤
UsesAtMost most (Bad status) = ⊤

-- the statuses with which heads are refused
abbrev pub IsHeadStatus : ℕ → Type 0
IsHeadStatus status = (status ≡ 400) ⊎ ((status ≡ 413) ⊎ ((status ≡ 431) ⊎ (status ≡ 501)))

-- a refusal has one of these statuses
abbrev pub RefusesHead : Next → Type 0
RefusesHead (Found request used) = ⊤
RefusesHead NeedMore = ⊤
RefusesHead (Bad status) = IsHeadStatus status
