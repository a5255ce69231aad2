-- By what statements run: what a schema says of views and actions, and where an action runs.
use Rattle.std.specs.Prelude.{ℕ, suc, nat_lt, List, [], Option, unwrap_or, Result, Ok, Err, if◌then◌else◌}
use Rattle.snap_core.specs.declared.number.ModelNo.{ModelNo}
use Rattle.snap_core.specs.declared.number.NodeNo.{NodeNo}
use Rattle.pointer_core.specs.Path.{Path}
use Rattle.pointer_core.specs.declared.refusal.Rule.{Rule}
use Rattle.pointer_core.specs.declared.refusal.Rule.TheVariants as rule
use Rattle.type_table.specs.Table.{Catalog}
use Rattle.type_core.specs.Making.{Outcome}
use Rattle.expr_syntax.specs.declared.number.ViewNo.{ViewNo}
use Rattle.model_syntax.specs.Shown.{ShownAction, ShownMiddleware}
use Rattle.edit_core.specs.Labelled.{Labelled}
use Rattle.tree_core.specs.Changed.{Changed}
use Rattle.tree_core.specs.Outcome.{refuse}
use Rattle.tree_core.specs.Reading.{path_to}
use Rattle.tree_core.specs.Recorded.{tree_in}
use Rattle.tree_core.specs.Writing.{Tree}
use Rattle.eval_core.specs.Answer.{Answer, AnswerList, node}
use Rattle.eval_core.specs.Asking.{frame_scope}
use Rattle.eval_core.specs.Run.{Fault, Run, Eval}
use Rattle.eval_core.specs.Scope.{Scope, Viewing}
use Rattle.eval_core.specs.Sight.{Sight}
use Rattle.view_engine.specs.TreeSight.{sight_of}
use Rattle.view_engine.specs.Told as views
use Rattle.action_core.specs.Act.{State, Ran, Act, root_of, refuses, with_change, with_met}

-- what a schema says: its types, its views, and the actions and the middleware of each model
pub record Behaving : Type 0 where
  pub types : Catalog
  pub viewing : Viewing
  pub name_of : ViewNo → Option (List ℕ)
  pub action_of : ModelNo → List ℕ → Option ShownAction
  pub middleware_of : ModelNo → List ShownMiddleware

-- the nodes on which actions run, the latest first, and the frame of the latest action: the path that its node had when
-- it began, and its name
pub record Running : Type 0 where
  pub nodes : List NodeNo
  pub frame : Path

-- an action that is called: of which node, its name, and what it is given
pub record Callee : Type 0 where
  pub node : NodeNo
  pub name : List ℕ
  pub given : AnswerList

-- by what the statements of an action run
pub record Acting : Type 0 where
  pub behaving : Behaving
  pub running : Running
  -- how an action is called among them
  pub call : Callee → Act (Unit {0})

-- where a node stands, and what is seen of a snapshot
abbrev pub node_path : NodeNo → Labelled → Path
node_path n root = unwrap_or (path_to n.0 root) []

abbrev pub sight_in : Behaving → Labelled → Sight
sight_in behaving root = sight_of (record { table = behaving.types.table; tree = root })

-- Evaluating.

-- a refusal of an evaluation is told by a path
abbrev pub told : {A : Type 0} → views.Telling → Result A Fault → Outcome A
told t (Ok x) = Ok x
told t (Err fault) = refuse (views.path_of t fault.site) fault.rule

-- what an evaluation gives, as an action in a frame meets it
abbrev pub run_told : {A : Type 0} → views.Telling → Run A → State → Ran A
run_told t run s = record { outcome = told t run.outcome; state = with_met run s }

-- the expressions of one statement or of one condition, evaluated from nothing and counted together
unfoldable pub evaluates : {A : Type 0} → Behaving → Path → (Scope → Eval A) → Act A
evaluates behaving frame eval s =
    let sight : Sight = sight_in behaving (root_of s) in
    let run = eval (frame_scope behaving.viewing sight) 0 in
    run_told (record { sight = sight; name_of = behaving.name_of; frame = frame }) run s

-- Writing.

-- a node that is dead, and a node or a key of the wrong kind, are told of the frame
abbrev pub path_in_frame : Path → Rule → Path → Path
path_in_frame frame rule.Dead path = frame
path_in_frame frame rule.Kind path = frame
path_in_frame frame r path = path

-- an outcome, as the frame is told of it
abbrev pub in_frame : {A : Type 0} → Path → Outcome A → Outcome A
in_frame frame (Ok x) = Ok x
in_frame frame (Err e) = refuse (path_in_frame frame e.rule e.path) e.rule

-- the state that a change leaves, unless it is refused
abbrev pub changed_to : State → Outcome Changed → Ran (Unit {0})
changed_to s (Ok changed) = record { outcome = Ok tt; state = with_change changed s }
changed_to s (Err e) = record { outcome = Err e; state = s }

-- one change of the tree, recorded
unfoldable pub writes : Path → (Tree → Outcome Changed) → Act (Unit {0})
writes frame change s = changed_to s (in_frame frame (change (tree_in s.tree)))

-- Counting.

-- how many statements a request may run
abbrev pub most_statements : ℕ
most_statements = 100000

-- one statement more is counted
unfoldable pub counts : Path → Act (Unit {0})
counts frame s =
    if nat_lt s.counted most_statements
    then record { outcome = Ok tt; state = record s { counted = suc s.counted } }
    else record { outcome = refuse frame rule.Budget; state = s }

-- a node, where the answer is one
abbrev pub on_node : {A : Type 0} → Path → Answer → (NodeNo → Act A) → Act A
on_node frame (node n) use_node = use_node n
on_node frame x use_node = refuses frame rule.Kind
