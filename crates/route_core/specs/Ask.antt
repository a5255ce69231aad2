-- What a method asks for at a place.
use Rattle.std.specs.Prelude.{ℕ, List, [], ◌∷◌, codes, Option, Some, None, if◌then◌else◌}
use Rattle.std.specs.Str.{bytes_eq}
use Rattle.route_core.specs.declared.ask.Ask as declared
use Rattle.route_core.specs.declared.ask.Ask.TheVariants as ask
use Rattle.route_core.specs.declared.ask.Asked as declared_asked
use Rattle.route_core.specs.declared.ask.Asked.TheVariants as asked
use Rattle.route_core.specs.declared.place.Part.TheVariants.{Whole, Snapshot, Patches, Reference, Actions}
use Rattle.route_core.specs.Place.{Place, check, names, document}
use Rattle.route_core.specs.Place as place
use Rattle.route_core.specs.Path.{place_of}

-- what a request asks for: trying a value; the names of all documents; or, of the document of that name, to make it or to
-- remove it, its snapshot or another one in its place, a patch of it, what a reference leads to, to call an action in it, or what a
-- view of that name answers
pub data Ask : Type 0 where
  try : Ask
  list : Ask
  create : List ℕ → Ask
  discard : List ℕ → Ask
  show : List ℕ → Ask
  replace : List ℕ → Ask
  change : List ℕ → Ask
  resolve : List ℕ → Ask
  act : List ℕ → Ask
  view : List ℕ → List ℕ → Ask

-- no such place; another method than those that the place takes; or something that can be asked
pub data Asked : Type 0 where
  unknown : Asked
  wrong : List ℕ → Asked
  well : Ask → Asked

-- a method that a place takes, and what it asks for
pub record Taken : Type 0 where
  pub method : List ℕ
  pub ask : Ask

-- what a method asks for where these are taken; the text names them
abbrev pub asked_among : List ℕ → List Taken → List ℕ → Asked
asked_among allow [] method = wrong allow
asked_among allow (taken ∷ others) method =
    if bytes_eq method taken.method then well taken.ask else asked_among allow others method

-- one method
abbrev pub asked_by_one : List ℕ → Ask → List ℕ → Asked
asked_by_one name one method = asked_among name (record { method = name; ask = one } ∷ []) method

-- what a method asks for at a place
abbrev pub asked_at : Place → List ℕ → Asked
asked_at check = asked_by_one (codes "POST") try
asked_at names = asked_by_one (codes "GET") list
asked_at (document name Whole) =
    asked_among (codes "POST, DELETE")
    (record { method = codes "POST"; ask = create name } ∷ record { method = codes "DELETE"; ask = discard name } ∷ [])
asked_at (document name Snapshot) =
    asked_among (codes "GET, PUT")
    (record { method = codes "GET"; ask = show name } ∷ record { method = codes "PUT"; ask = replace name } ∷ [])
asked_at (document name Patches) = asked_by_one (codes "POST") (change name)
asked_at (document name Reference) = asked_by_one (codes "GET") (resolve name)
asked_at (document name Actions) = asked_by_one (codes "POST") (act name)
asked_at (place.view name one) = asked_by_one (codes "GET") (view name one)

-- what a method asks for at the place that a path names
abbrev pub asked_of : Option Place → List ℕ → Asked
asked_of None method = unknown
asked_of (Some place) method = asked_at place method

-- what a request asks for: first its path is looked at, with a document's name in it, and then its method
abbrev pub asked_by : List ℕ → List ℕ → Asked
asked_by method path = asked_of (place_of path) method

-- what the program says that is asked
abbrev pub seen_ask : declared.Ask → Ask
seen_ask ask.Try = try
seen_ask ask.List = list
seen_ask (ask.Create name) = create name.now
seen_ask (ask.Discard name) = discard name.now
seen_ask (ask.Show name) = show name.now
seen_ask (ask.Replace name) = replace name.now
seen_ask (ask.Change name) = change name.now
seen_ask (ask.Resolve name) = resolve name.now
seen_ask (ask.Act name) = act name.now
seen_ask (ask.View name one) = view name.now one.now

abbrev pub seen : declared_asked.Asked → Asked
seen asked.Unknown = unknown
seen (asked.Wrong allow) = wrong allow.now
seen (asked.Well one) = well (seen_ask one)
