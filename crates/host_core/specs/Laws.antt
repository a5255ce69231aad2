-- What holds of every request to a host.
use Rattle.std.specs.Prelude.{◌≡◌, ◌≢◌, ℕ, List, false, Option, Some, None}
use Rattle.route_core.specs.Ask.{Ask, try, list, create, discard, show, replace, change, resolve, act, view, Asked, unknown, wrong, well, asked_by}
use Rattle.host_core.specs.Asking.{Visit, Answer, Steps}
use Rattle.host_core.specs.Docs.{Docs, AreNamed, are_full, find}

-- the document that a request is on, if it is on one
abbrev pub named_in : Ask → Option (List ℕ)
named_in try = None
named_in list = None
named_in (create name) = Some name
named_in (discard name) = Some name
named_in (show name) = Some name
named_in (replace name) = Some name
named_in (change name) = Some name
named_in (resolve name) = Some name
named_in (act name) = Some name
named_in (view name one) = Some name

abbrev pub name_asked : Asked → Option (List ℕ)
name_asked unknown = None
name_asked (wrong allow) = None
name_asked (well ask) = named_in ask

abbrev pub on_doc : Visit → Option (List ℕ)
on_doc visit = name_asked (asked_by visit.request.method visit.request.path)

-- names stay ascending, each document's once
abbrev pub NamesAscend : Type 0
NamesAscend = (visit : Visit) (docs : Docs) (answer : Answer) → AreNamed docs → Steps visit docs answer → AreNamed answer.docs

-- a request leaves each document as it was that it isn't on
abbrev pub OthersStay : Type 0
OthersStay =
    (visit : Visit) (docs : Docs) (answer : Answer) (name : List ℕ) → Steps visit docs answer → on_doc visit ≢ Some name
    → find name answer.docs ≡ find name docs

-- a reply, and what became of the document of a name
pub record Alike (name : List ℕ) (answer other : Answer) : Type 0 where
  pub reply : other.reply ≡ answer.reply
  pub doc : find name other.docs ≡ find name answer.docs

-- what a request on a document gets, and what becomes of the document, goes by this document alone where no host is full
abbrev pub RepliesAreOwn : Type 0
RepliesAreOwn =
    (visit : Visit) (docs others : Docs) (answer : Answer) (name : List ℕ)
    → on_doc visit ≡ Some name → find name others ≡ find name docs → AreNamed docs → AreNamed others
    → are_full docs ≡ false → are_full others ≡ false → Steps visit docs answer
    → (other : Answer) × Alike name answer other × Steps visit others other
