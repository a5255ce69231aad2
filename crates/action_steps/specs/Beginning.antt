-- What arguments are, as definitions see them, and the names that are bound in an action.
use Rattle.std.specs.Prelude.{◌++◌, Ok}
use Rattle.pointer_core.specs.Path.{Path}
use Rattle.pointer_core.specs.declared.refusal.Rule.TheVariants as rule
use Rattle.type_table.specs.Table.{Catalog}
use Rattle.type_core.specs.Making.{Outcome}
use Rattle.edit_core.specs.Labelled.{Labelled}
use Rattle.tree_core.specs.Outcome.{◌>>=◌, or_refuse}
use Rattle.answer_ops.specs.View.{answer_of, answers_of}
use Rattle.eval_core.specs.Asking.{bound_at}
use Rattle.eval_core.specs.Scope.{Env}
use Rattle.eval_core.specs.Sight.{Sight}
use Rattle.view_engine.specs.TreeSight.{sight_of}
use Rattle.action_core.specs.Beginning as begun
use Rattle.action_core.specs.Beginning.{as_given, to_be_found, gone, Bound, arguments_of, all_reached}
use Rattle.action_steps.specs.declared.arguments.Argument.{Argument}
use Rattle.action_steps.specs.declared.arguments.Argument.TheVariants.{AsGiven, ToBeFound, Gone}
use Rattle.action_steps.specs.declared.arguments.Given.{Given}
use Rattle.action_steps.specs.declared.binding.Called.{Called}

-- an argument that is of its parameter's type
abbrev pub argument_as : Argument → begun.Argument
argument_as (AsGiven x) = as_given (answer_of x)
argument_as (ToBeFound m i) = to_be_found m i
argument_as Gone = gone

-- beside the name that it is bound to
abbrev pub bound_as : Given → Bound
bound_as g = (g.name, argument_as g.argument)

-- what is seen of a snapshot by its types
abbrev pub seen : Catalog → Labelled → Sight
seen types root = sight_of (record { table = types.table; tree = root })

-- the names that are bound in an action: its parameters, and what is bound on each node
abbrev pub names_bound : Catalog → Labelled → Path → Called → Outcome Env
names_bound types root frame c = do
  given ← or_refuse (arguments_of types root c.params.now (answers_of c.args.now)) frame rule.Arguments
  env ← or_refuse (all_reached (seen types root) given) frame rule.Reference
  Ok (env ++ bound_at (seen types root) c.node)
