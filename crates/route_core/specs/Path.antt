-- The routes, and the place that a path names by them.
use Rattle.std.specs.Prelude.{ℕ, List, [], ◌∷◌, map, fold, Bool, ◌&&◌, ◌==◌, nat_lt, not, if◌then◌else◌, Option, Some, None, Result, Ok, Err, codes}
use Rattle.std.specs.List.{list_all}
use Rattle.matchit.specs.Rows.{RowsOf}
use Rattle.matchit.specs.Order.{placed}
use Rattle.matchit.specs.Params.{walk}
use Rattle.matchit.specs.Route.{Scan, parse_route}
use Rattle.matchit.specs.Router.{RouteOf, route_from}
use Rattle.matchit.specs.Seek.{first}
use Rattle.matchit.specs.declared.error.InsertError.{InsertError}
use Rattle.route_core.specs.declared.place.Part.{Part}
use Rattle.route_core.specs.declared.place.Part.TheVariants.{Whole, Snapshot, Patches, Reference, Actions}
use Rattle.route_core.specs.declared.routes.Route.{Route}
use Rattle.route_core.specs.declared.routes.Route.TheVariants as route
use Rattle.route_core.specs.Place.{Place, check, names, document, view, is_document_name}

-- the rows of a router
abbrev pub Rows : Type 0
Rows = RowsOf (RouteOf Route)

-- a route and its text
pub record Row : Type 0 where
  pub text : List ℕ
  pub value : Route

-- the rows with a route that reads so
abbrev pub with_scan : Rows → Route → Result Scan InsertError → Rows
with_scan rows value (Ok scan) = placed (scan.pattern, route_from scan value) rows
with_scan rows value (Err e) = rows

-- the rows with one more route
abbrev pub with_row : Rows → Row → Rows
with_row rows row = with_scan rows row.value (parse_route row.text)

-- the routes, by the syntax of `matchit`: a name in braces stands for one segment
abbrev pub table : List Row
table =
    record { text = codes "/check"; value = route.Check }
    ∷ record { text = codes "/docs"; value = route.Names }
    ∷ record { text = codes "/docs/{d}"; value = route.Document Whole }
    ∷ record { text = codes "/docs/{d}/snapshot"; value = route.Document Snapshot }
    ∷ record { text = codes "/docs/{d}/patches"; value = route.Document Patches }
    ∷ record { text = codes "/docs/{d}/reference"; value = route.Document Reference }
    ∷ record { text = codes "/docs/{d}/actions"; value = route.Document Actions }
    ∷ record { text = codes "/docs/{d}/views/{v}"; value = route.View }
    ∷ []

unfoldable pub routes : Rows
routes = fold with_row [] table

-- the path is ASCII and has no percent sign, so that it stands for itself
abbrev pub is_plain_path : List ℕ → Bool
is_plain_path path = list_all (λ b. nat_lt b 128 && not (b == 37)) path

-- what the parameters of a route took of a path, in order
abbrev pub taken : RouteOf Route → List ℕ → List (List ℕ)
taken found path = map (λ part. part.1) (walk found.pattern found.text path found.names 0 0)

-- the place of a document's part, where this is a document's name
abbrev pub named_place : List ℕ → Part → Option Place
named_place name part = if is_document_name name then Some (document name part) else None

-- the place of a view, where the first of two names is a document's
abbrev pub viewed : List (List ℕ) → Option Place
viewed (name ∷ one ∷ parts) = if is_document_name name then Some (view name one) else None
viewed _ = None

-- the place of a route, by what its parameters took
abbrev pub place_at : Route → List (List ℕ) → Option Place
place_at route.Check parts = Some check
place_at route.Names parts = Some names
place_at (route.Document part) [] = None
place_at (route.Document part) (name ∷ parts) = named_place name part
place_at route.View parts = viewed parts

-- the place of the route that was found
abbrev pub place_found : List ℕ → Option (RouteOf Route) → Option Place
place_found path None = None
place_found path (Some found) = place_at found.value (taken found path)

-- the place that a path names, if it names one
abbrev pub place_of : List ℕ → Option Place
place_of path = if is_plain_path path then place_found path (first routes path) else None
