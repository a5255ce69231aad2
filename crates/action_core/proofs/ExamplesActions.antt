-- Actions that run statements, call others, and are refused, computed on an office.
use Rattle.std.proofs.Common.{◌≡◌, [], ◌∷◌, Ok, pos, decimal, refl}
use Rattle.std.specs.Prelude.{codes}
use Rattle.snap_core.specs.Value.{integer, text}
use Rattle.pointer_core.specs.declared.refusal.Rule.TheVariants as rule
use Rattle.edit_core.specs.Rules.{added, removed, replaced}
use Rattle.tree_core.specs.Outcome.{refuse}
use Rattle.eval_core.specs.Answer.{plain}
use Rattle.eval_core.specs.Run.{lift, looks, counts, joined, ended, andthen, enters}
use Rattle.view_engine.specs.TreeSight.{sight_of}
use Rattle.action_core.specs.Act as act
use Rattle.action_core.specs.Act.{tells, ◌>>=◌, or_else, all_or_nothing}
use Rattle.action_core.specs.Behaving as behaving
use Rattle.action_core.specs.Behaving.{evaluates, writes}
use Rattle.action_core.proofs.Office.{call, todo, one_todo, two_todos}
use Rattle.action_core.proofs.Actions.{called, answered}

-- a todo is added
add-todo : answered one_todo 0 (codes "addTodo") (plain (text (codes "t2")) ∷ plain (text (codes "u1")) ∷ [])
    ≡ (Ok tt, added (codes "todos" ∷ decimal 1 ∷ []) (todo (codes "t2") (text (codes "u1")) (codes "Post")) ∷ [])
unfolding lift looks counts joined ended andthen enters sight_of tells act.looks ◌>>=◌ or_else all_or_nothing evaluates writes behaving.counts
add-todo = refl

-- an owner is renamed by its todo: it is neither the todo nor below it
blame : answered one_todo 3 (codes "blame") [] ≡ (refuse (codes "users" ∷ codes "u1" ∷ codes "name" ∷ []) rule.Protected, [])
unfolding lift looks counts joined ended andthen enters sight_of tells act.looks ◌>>=◌ or_else all_or_nothing evaluates writes behaving.counts
blame = refl

-- the office acts too where it asks its todos for it
blame-all : answered one_todo 0 (codes "blameAll") []
    ≡ (Ok tt, replaced (codes "users" ∷ codes "u1" ∷ codes "name" ∷ []) (text (codes "Ann")) (text (codes "late")) ∷ [])
unfolding lift looks counts joined ended andthen enters sight_of tells act.looks ◌>>=◌ or_else all_or_nothing evaluates writes behaving.counts
blame-all = refl

-- an action that throws keeps what it wrote
mess : answered one_todo 0 (codes "mess") []
    ≡ (
      refuse (codes "mess" ∷ []) (rule.Thrown (codes "stop")),
      replaced (codes "count" ∷ []) (integer (pos 0)) (integer (pos 1)) ∷ replaced (codes "count" ∷ []) (integer (pos 1)) (integer (pos 2)) ∷ [],
    )
unfolding lift looks counts joined ended andthen enters sight_of tells act.looks ◌>>=◌ or_else all_or_nothing evaluates writes behaving.counts
mess = refl

-- a todo that is held is the same one where another goes before it
held : answered two_todos 0 (codes "held") []
    ≡ (Ok tt, removed (codes "todos" ∷ decimal 0 ∷ []) call ∷ replaced (codes "todos" ∷ decimal 0 ∷ codes "title" ∷ []) (text (codes "Post")) (text (codes "held")) ∷ [])
unfolding lift looks counts joined ended andthen enters sight_of tells act.looks ◌>>=◌ or_else all_or_nothing evaluates writes behaving.counts
held = refl

-- an action that calls itself again and again comes to its end where 32 run; 32 statements were run
again : answered one_todo 0 (codes "again") [] ≡ (refuse (codes "again" ∷ []) rule.Calls, [])
unfolding lift looks counts joined ended andthen enters sight_of tells act.looks ◌>>=◌ or_else all_or_nothing evaluates writes behaving.counts
again = refl

again-counted : (called one_todo 0 (codes "again") []).state.counted ≡ 32
unfolding lift looks counts joined ended andthen enters sight_of tells act.looks ◌>>=◌ or_else all_or_nothing evaluates writes behaving.counts
again-counted = refl
