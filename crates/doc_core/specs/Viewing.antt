-- What views of a document answer.
use Rattle.std.specs.Prelude.{ℕ, List, [], ◌∷◌, ◌++◌, Option, option_and_then, unwrap_or}
use Rattle.std.specs.Option.{option_map}
use Rattle.snap_core.specs.Value.{Value}
use Rattle.pointer_core.specs.Path.{Path}
use Rattle.pointer_core.specs.declared.refusal.Rule.TheVariants as rule
use Rattle.type_table.specs.Table.{Catalog}
use Rattle.type_core.specs.Making.{Outcome}
use Rattle.model_syntax.specs.Shown.{ShownView}
use Rattle.edit_core.specs.Labelled.{Labelled}
use Rattle.tree_core.specs.Asking.{place_along, place_at}
use Rattle.tree_core.specs.Outcome.{◌>>=◌, or_refuse}
use Rattle.view_engine.specs.Did.{cost_of}
use Rattle.eval_core.specs.Asking.{Asked}
use Rattle.schema_views.specs.Answering.{answered, run_of}
use Rattle.schema_views.specs.Locating.{view_there}

-- the view of a name at a pointer, by the types and the views of each model
abbrev pub viewed : Catalog → List (List ShownView) → Path → List ℕ → Labelled → Outcome Value
viewed types views path name root = do
  place ← place_at path root
  asked ← or_refuse (view_there types views name place root) (path ++ name ∷ []) rule.Unknown
  answered types views asked root

-- how many expressions evaluating it counts: none, where nothing is evaluated
abbrev pub view_asked : Catalog → List (List ShownView) → Path → List ℕ → Labelled → Option Asked
view_asked types views path name root = option_and_then (λ place. view_there types views name place root) (place_along path root)

abbrev pub most_steps : Catalog → List (List ShownView) → Path → List ℕ → Labelled → ℕ
most_steps types views path name root =
    unwrap_or (option_map (λ asked. cost_of (run_of types views asked root)) (view_asked types views path name root)) 0
