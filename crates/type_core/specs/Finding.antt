-- Looking for a doubled identifier, step by step.
use Rattle.std.specs.Prelude.{◌≡◌, List, [], ◌∷◌, ◌++◌, map, Bool, true, Option, Some, None, if◌then◌else◌}
use Rattle.std.specs.List.{list_any}
use Rattle.snap_core.specs.declared.ident.Ident.{Ident}
use Rattle.snap_core.specs.declared.number.ModelNo.{ModelNo}
use Rattle.pointer_core.specs.Path.{Path}
use Rattle.type_core.specs.Doubled.{Identified, Key, key_of, same_key, doubled_after}

-- Of these models either one is doubled, the first at this path, or none is, and then they are seen.
abbrev pub Finds : Option Path → List Key → List Key → List Identified → Type 0
Finds (Some path) old new ids = doubled_after old ids ≡ Some path
Finds None old new ids = (doubled_after old ids ≡ None) × (new ≡ old ++ map key_of ids)

-- the keys that are met, with an identifier of a model, if there is one
abbrev pub met : List Key → ModelNo → Option Ident → List Key
met keys m (Some i) = if list_any (same_key (m, i)) keys then keys else keys ++ (m, i) ∷ []
met keys m None = keys

-- an identifier of a model was met; none is asked for
abbrev pub is_met : List Key → ModelNo → Option Ident → Bool
is_met keys m (Some i) = list_any (same_key (m, i)) keys
is_met keys m None = true
