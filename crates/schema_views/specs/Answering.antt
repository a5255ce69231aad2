-- What a view answers, as the value that tells it.
use Rattle.std.specs.Prelude.{◌≡◌, ℕ, List, [], codes, unwrap_or, Result, Ok, Err}
use Rattle.snap_core.specs.Value.{Value, text, list, dict, Items, no_parts, part, no_members, member}
use Rattle.snap_core.specs.View.{view}
use Rattle.snap_core.specs.declared.snap.Snap.{Snap}
use Rattle.snap_core.specs.declared.number.NodeNo.{NodeNo}
use Rattle.pointer_core.specs.Path.{Path, printed}
use Rattle.type_table.specs.Table.{Catalog}
use Rattle.type_core.specs.Making.{Outcome}
use Rattle.type_core.specs.Made.{refused_as}
use Rattle.model_syntax.specs.Shown.{ShownView}
use Rattle.edit_core.specs.Labelled.{Labelled}
use Rattle.tree_core.specs.Reading.{path_to}
use Rattle.eval_core.specs.Answer.{Answer, AnswerList, plain, node, several, no_answers, answer}
use Rattle.eval_core.specs.Asking.{Asked, view_run}
use Rattle.eval_core.specs.Run.{Run, Fault}
use Rattle.eval_core.specs.Sight.{Sight}
use Rattle.view_engine.specs.TreeSight.{sight_of}
use Rattle.view_engine.specs.Told.{Telling, refusal_of}
use Rattle.view_engine.specs.declared.halt.RunError.{RunError}
use Rattle.view_engine.specs.declared.halt.RunError.TheVariants.{Memory, Refused}
use Rattle.schema_views.specs.Saying.{saying_by}

-- a record of one entry
abbrev pub only : List ℕ → Value → Value
only key v = dict tt (member key v no_members)

-- a node is told by its path, and several answers one by one
abbrev mutual
  pub answer_value : (NodeNo → Path) → Answer → Value
  answer_value path (plain v) = only (codes "plain") v
  answer_value path (node n) = only (codes "node") (text (printed (path n)))
  answer_value path (several xs) = only (codes "several") (list tt (answer_values path xs))

  pub answer_values : (NodeNo → Path) → AnswerList → Items
  answer_values path no_answers = no_parts
  answer_values path (answer x xs) = part (answer_value path x) (answer_values path xs)

-- the path of a node of a tree; the empty path, where it is dead
abbrev pub path_in : Labelled → NodeNo → Path
path_in root n = unwrap_or (path_to n.0 root) []

-- an outcome of evaluating over a tree, told
abbrev pub told : Labelled → Telling → Result Answer Fault → Outcome Value
told root t (Ok x) = Ok (answer_value (path_in root) x)
told root t (Err fault) = Err (refused_as (refusal_of t fault))

-- what is seen of a tree by its types
abbrev pub seen : Catalog → Labelled → Sight
seen types root = sight_of (record { table = types.table; tree = root })

-- evaluating a view of a node, from nothing
abbrev pub run_of : Catalog → List (List ShownView) → Asked → Labelled → Run Answer
run_of types views q root = view_run (saying_by types views).viewing (seen types root) q.node q.view 0

-- what a view of a node answers
abbrev pub answered : Catalog → List (List ShownView) → Asked → Labelled → Outcome Value
answered types views q root =
    told root (record { sight = seen types root; name_of = (saying_by types views).name_of; frame = [] }) (run_of types views q root).outcome

-- a call shows what an outcome says, unless memory ran out
abbrev pub Shows : Result Snap RunError → Outcome Value → Type 0
Shows (Ok shown) outcome = outcome ≡ Ok (view shown)
Shows (Err (Refused refusal)) outcome = outcome ≡ Err (refused_as refusal)
Shows (Err Memory) outcome = Unit {0}
