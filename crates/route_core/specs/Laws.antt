-- What some paths name.
use Rattle.std.specs.Prelude.{◌≡◌, ℕ, List, Some, None}
use Rattle.route_core.specs.Path.{place_of}
use Rattle.route_core.specs.Place.{Place}

-- a path names a place
abbrev pub PathNames : List ℕ → Place → Type 0
PathNames path place = place_of path ≡ Some place

-- a path names nothing
abbrev pub NamesNothing : List ℕ → Type 0
NamesNothing path = place_of path ≡ None
