-- Whether an action may begin, and what its parameters are bound to.
use Rattle.std.specs.Prelude.{ℕ, List, [], ◌∷◌, ◌++◌, option_map, option_and_then, Option, Some, None, Ok, Err, if◌then◌else◌}
use Rattle.snap_core.specs.Value.{Value}
use Rattle.snap_core.specs.declared.ident.Ident.{Ident}
use Rattle.snap_core.specs.declared.number.ModelNo.{ModelNo}
use Rattle.snap_core.specs.declared.number.NodeNo.{NodeNo}
use Rattle.pointer_core.specs.Path.{Path}
use Rattle.pointer_core.specs.declared.refusal.Rule.TheVariants as rule
use Rattle.type_table.specs.Identifiers.{ident_of}
use Rattle.type_table.specs.Names.{shape_by}
use Rattle.type_table.specs.Table.{Catalog}
use Rattle.type_table.specs.Targets.{target_of}
use Rattle.type_core.specs.Making.{Outcome, making}
use Rattle.expr_syntax.specs.Syntax.{Statements}
use Rattle.model_syntax.specs.declared.behaviour.Param.{Param}
use Rattle.model_syntax.specs.Shown.{ShownAction}
use Rattle.edit_core.specs.declared.kind.Kind.{Kind}
use Rattle.edit_core.specs.declared.kind.Kind.TheVariants.{Model}
use Rattle.edit_core.specs.Labelled.{Labelled}
use Rattle.edit_core.specs.Typing.{is_kind}
use Rattle.tree_core.specs.Reading.{kind_at}
use Rattle.tree_core.specs.Outcome.{◌>>=◌, or_refuse}
use Rattle.eval_core.specs.Answer.{Answer, AnswerList, plain, node, no_answers, answer}
use Rattle.eval_core.specs.Asking.{bound_at}
use Rattle.eval_core.specs.Scope.{Env}
use Rattle.eval_core.specs.Sight.{Sight}
use Rattle.answer_writing.specs.Taking.{plain_in}
use Rattle.action_core.specs.Behaving.{Behaving, Callee, node_path, sight_in}

-- Arguments, each by the type of its parameter.

-- an argument that is of the parameter's type: an answer, the identifier of a node of a model, or a node that is dead
pub data Argument : Type 0 where
  as_given : Answer → Argument
  to_be_found : ModelNo → Ident → Argument
  gone : Argument

-- what making comes to, if it isn't refused
abbrev pub made_in : Outcome Value → Option Value
made_in (Ok v) = Some v
made_in (Err e) = None

-- a plain argument at a reference, and elsewhere
abbrev pub plain_argument : Option ModelNo → Value → Option Argument
plain_argument (Some m) v = option_map (to_be_found m) (ident_of (Some v))
plain_argument None v = Some (as_given (plain v))

-- a node at a reference: one of its model, or a dead one
abbrev pub node_argument : NodeNo → ModelNo → Option Kind → Option Argument
node_argument n m None = Some gone
node_argument n m kind = if is_kind kind (Model m) then Some (as_given (node n)) else None

abbrev pub node_at : NodeNo → Labelled → Option ModelNo → Option Argument
node_at n root (Some m) = node_argument n m (kind_at n.0 root)
node_at n root None = None

-- a plain argument, made by its type
abbrev pub value_argument : Catalog → ℕ → Option ModelNo → Option Value → Option Argument
value_argument types t target v = option_and_then (plain_argument target) (option_and_then (λ w. made_in (making types t (Some w))) v)

abbrev pub argument_of : Catalog → Labelled → ℕ → Option ModelNo → Answer → Option Argument
argument_of types root t target (node n) = node_at n root target
argument_of types root t target x = value_argument types t target (plain_in x)

-- the model that a parameter's references lead to, names followed, where it takes references
abbrev pub parameter_target : Catalog → ℕ → Option ModelNo
parameter_target types t = target_of types.table (shape_by types.table t)

-- an argument beside the name that it is bound to
abbrev pub Bound : Type 0
Bound = List ℕ × Argument

abbrev pub bound_before : List ℕ → Option (List Bound) → Argument → Option (List Bound)
bound_before name rest argument = option_map (λ bs. (name, argument) ∷ bs) rest

-- the arguments, as many as there are parameters and each of its parameter's type
abbrev pub arguments_of : Catalog → Labelled → List Param → AnswerList → Option (List Bound)
arguments_of types root [] no_answers = Some []
arguments_of types root (p ∷ ps) (answer x xs) =
    option_and_then (bound_before p.name (arguments_of types root ps xs)) (argument_of types root p.of.0 (parameter_target types p.of.0) x)
arguments_of types root ps xs = None

-- what an argument is in the body; none where a reference leads to no node
abbrev pub reached : Sight → Argument → Option Answer
reached sight (as_given x) = Some x
reached sight (to_be_found m i) = option_map node (sight.known m i)
reached sight gone = None

-- the names that the arguments are bound to
abbrev pub all_reached : Sight → List Bound → Option Env
all_reached sight [] = Some []
all_reached sight (b ∷ bs) = option_and_then (λ x. option_map (λ env. (b.0, x) ∷ env) (all_reached sight bs)) (reached sight b.1)

-- Beginning.

-- An action that begins: its frame, its statements, and the names that are bound in them.
pub record Begun : Type 0 where
  pub frame : Path
  pub body : Statements
  pub env : Env

-- models alone have actions
abbrev pub action_under : Behaving → List ℕ → Kind → Option ShownAction
action_under behaving name (Model m) = behaving.action_of m name
action_under behaving name kind = None

-- the frame of a callee: the path of its node, and its name
abbrev pub frame_of : Callee → Labelled → Path
frame_of callee root = node_path callee.node root ++ callee.name ∷ []

-- the arguments bound to the names of the parameters: all are judged by their types before a reference is followed
abbrev pub arguments_bound : Behaving → Callee → Labelled → ShownAction → Outcome Env
arguments_bound behaving callee root action = do
  given ← or_refuse (arguments_of behaving.types root action.params callee.given) (frame_of callee root) rule.Arguments
  or_refuse (all_reached (sight_in behaving root) given) (frame_of callee root) rule.Reference

-- an action with its arguments, and of a node of a kind
abbrev pub action_begun : Behaving → Callee → Labelled → ShownAction → Outcome Begun
action_begun behaving callee root action = do
  env ← arguments_bound behaving callee root action
  Ok (record { frame = frame_of callee root; body = action.body; env = env ++ bound_at (sight_in behaving root) callee.node })

abbrev pub begun_of_kind : Behaving → Callee → Labelled → Kind → Outcome Begun
begun_of_kind behaving callee root kind = do
  action ← or_refuse (action_under behaving callee.name kind) (frame_of callee root) rule.Unknown
  action_begun behaving callee root action

-- What an action that is called is refused for by itself, in the order of the rules; a dead node is told of the caller.
abbrev pub begun_by : Behaving → Path → Callee → Labelled → Outcome Begun
begun_by behaving caller callee root = do
  kind ← or_refuse (kind_at callee.node.0 root) caller rule.Dead
  begun_of_kind behaving callee root kind
