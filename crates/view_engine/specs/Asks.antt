-- What a view answers, and an expression in a frame, by a schema and a tree.
use Rattle.std.specs.Prelude.{ℕ, List}
use Rattle.pointer_core.specs.Path.{Path}
use Rattle.expr_syntax.specs.Syntax.{Expression, items}
use Rattle.expr_syntax.specs.Shown.{shown}
use Rattle.live_tree.specs.Contents.{Contents, state}
use Rattle.eval_core.specs.Answer.{Answer}
use Rattle.eval_core.specs.Sight.{Sight}
use Rattle.eval_core.specs.Run.{Run, Eval, andthen}
use Rattle.eval_core.specs.Scope.{Scope, Env}
use Rattle.eval_core.specs.Evaluating.{evaluated, told}
use Rattle.eval_core.specs.Asking.{frame_scope}
use Rattle.view_engine.specs.TreeSight.{sight_of}
use Rattle.view_engine.specs.Saying.{Saying}
use Rattle.view_engine.specs.Told.{Telling}
use Rattle.view_engine.specs.Names.{bindings_of}
use Rattle.view_engine.specs.declared.views.Framed.{Framed}

-- what is seen of a tree by a schema
abbrev pub sight_by : Saying → Contents → Sight
sight_by says tree = sight_of (record { table = says.catalog.table; tree = (state tree).tree })

-- by what refusals are told, with the path of the frame
abbrev pub telling : Saying → Contents → Path → Telling
telling says tree frame = record { sight = sight_by says tree; name_of = says.name_of; frame = frame }

-- an expression of a statement or a condition, after so many of it were counted
abbrev pub in_frame : Saying → Contents → Framed → ℕ → Run Answer
in_frame says tree framed before =
    evaluated (frame_scope says.viewing (sight_by says tree)) (shown framed.expr.now) (bindings_of framed.env.now.bindings) before

-- what is walked of what an expression gives
abbrev pub items_evaluated : Scope → Expression → Env → Eval Answer
items_evaluated s e env = andthen (evaluated s e env) (told s items)

-- and in a frame, after so many expressions of the statement were counted
abbrev pub items_in_frame : Saying → Contents → Framed → ℕ → Run Answer
items_in_frame says tree framed before =
    items_evaluated (frame_scope says.viewing (sight_by says tree)) (shown framed.expr.now) (bindings_of framed.env.now.bindings) before
