-- The views in progress, and by what a body is evaluated.
use Rattle.std.specs.Prelude.{ℕ, List, [], ◌∷◌, ◌++◌}
use Rattle.node_core.specs.View.{labelled}
use Rattle.live_tree.specs.Contents.{state}
use Rattle.eval_core.specs.declared.site.Site.{Site}
use Rattle.eval_core.specs.Sight.{Sight}
use Rattle.eval_core.specs.Scope as core
use Rattle.eval_core.specs.Asking.{Asked, Stack, site_of, first_asked, asked}
use Rattle.pointer_core.specs.Path.{Path}
use Rattle.view_engine.specs.Saying.{Saying}
use Rattle.view_engine.specs.Told.{Telling}
use Rattle.view_engine.specs.TreeSight.{Whole, sight_of}
use Rattle.view_engine.specs.declared.scope.Going.{Going, fold-Going}
use Rattle.view_engine.specs.declared.scope.Going.TheOpen.{Going-F}
use Rattle.view_engine.specs.declared.scope.Scope.{Scope}

-- the views in progress, and where a refusal of the body itself is told
pub record Standing : Type 0 where
  pub stack : Stack
  pub here : Site

abbrev pub going_step : Going-F Standing → Standing
going_step Going-F.Nothing = record { stack = []; here = Site.Frame }
going_step (Going-F.View n v before) =
    let q : Asked = record { node = n; view = v } in record { stack = before.now.stack ++ q ∷ []; here = site_of q }

abbrev pub standing_of : Going → Standing
standing_of = fold-Going Standing going_step

-- a tree, with a schema's types, and what it shows
abbrev pub whole_in : {S : Type 0} → (S → Saying) → Scope S → Whole
whole_in says s = record { table = (says s.schema.now).catalog.table; tree = (state s.tree.now).tree }

abbrev pub sight_in : {S : Type 0} → (S → Saying) → Scope S → Sight
sight_in says s = sight_of (whole_in says s)

-- what a body is evaluated by
abbrev pub scope_of : {S : Type 0} → (S → Saying) → Scope S → core.Scope
scope_of says s =
    let standing : Standing = standing_of s.going in
    record {
      viewing = (says s.schema.now).viewing;
      sight = sight_in says s;
      ask = asked (says s.schema.now).viewing (sight_in says s) s.room standing.stack;
      here = standing.here;
    }

-- where too many views in progress are told: at the first of them
abbrev pub first_site : Stack → Asked → Site
first_site stack q = site_of (first_asked stack q)

-- what is counted gives nothing
abbrev pub nothing_of : {T : Type 0} → T → Unit {0}
nothing_of x = tt

-- by what the sites of refusals are told
abbrev pub telling_by : {S : Type 0} → (S → Saying) → Scope S → Path → Telling
telling_by says s frame = record { sight = sight_in says s; name_of = (says s.schema.now).name_of; frame = frame }
