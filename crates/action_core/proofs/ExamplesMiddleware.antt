-- Actions with middleware around them, computed on an office.
use Rattle.std.proofs.Common.{◌≡◌, [], ◌∷◌, true, false, Ok, pos, decimal, length, refl}
use Rattle.std.specs.Prelude.{codes}
use Rattle.snap_core.specs.Value.{boolean, integer, text}
use Rattle.pointer_core.specs.declared.refusal.Rule.TheVariants as rule
use Rattle.edit_core.specs.Rules.{replaced}
use Rattle.tree_core.specs.Outcome.{refuse}
use Rattle.tree_core.specs.Recorded.{state_of}
use Rattle.eval_core.specs.Run.{lift, looks, counts, joined, ended, andthen, enters}
use Rattle.view_engine.specs.TreeSight.{sight_of}
use Rattle.action_core.specs.Act as act
use Rattle.action_core.specs.Act.{tells, ◌>>=◌, or_else, all_or_nothing}
use Rattle.action_core.specs.Behaving as behaving
use Rattle.action_core.specs.Behaving.{evaluates, writes}
use Rattle.action_core.proofs.Office.{one_todo, in_focus}
use Rattle.action_core.proofs.Actions.{called, answered}

-- an atomic action that throws keeps nothing
atomic-mess : answered one_todo 0 (codes "messAtomic") [] ≡ (refuse (codes "messAtomic" ∷ []) (rule.Thrown (codes "stop")), [])
unfolding lift looks counts joined ended andthen enters sight_of tells act.looks ◌>>=◌ or_else all_or_nothing evaluates writes behaving.counts
atomic-mess = refl

-- the tree is as before, with its labels; two edits were tried, and three statements run
atomic-mess-tree : (called one_todo 0 (codes "messAtomic") []).state.tree ≡ state_of one_todo
unfolding lift looks counts joined ended andthen enters sight_of tells act.looks ◌>>=◌ or_else all_or_nothing evaluates writes behaving.counts
atomic-mess-tree = refl

atomic-mess-tried : length (called one_todo 0 (codes "messAtomic") []).state.tried ≡ 2
unfolding lift looks counts joined ended andthen enters sight_of tells act.looks ◌>>=◌ or_else all_or_nothing evaluates writes behaving.counts
atomic-mess-tried = refl

atomic-mess-counted : (called one_todo 0 (codes "messAtomic") []).state.counted ≡ 3
unfolding lift looks counts joined ended andthen enters sight_of tells act.looks ◌>>=◌ or_else all_or_nothing evaluates writes behaving.counts
atomic-mess-counted = refl

-- a todo that an atomic action drops, and that comes back, is still the one that is held
held-back : answered one_todo 0 (codes "heldBack") []
    ≡ (Ok tt, replaced (codes "todos" ∷ decimal 0 ∷ codes "title" ∷ []) (text (codes "Call")) (text (codes "back")) ∷ [])
unfolding lift looks counts joined ended andthen enters sight_of tells act.looks ◌>>=◌ or_else all_or_nothing evaluates writes behaving.counts
held-back = refl

-- an atomic action that is refused within an atomic one that goes on takes back its own writes alone
goes-on : answered one_todo 0 (codes "goesOn") []
    ≡ (Ok tt, replaced (codes "count" ∷ []) (integer (pos 0)) (integer (pos 1)) ∷ replaced (codes "count" ∷ []) (integer (pos 1)) (integer (pos 3)) ∷ [])
unfolding lift looks counts joined ended andthen enters sight_of tells act.looks ◌>>=◌ or_else all_or_nothing evaluates writes behaving.counts
goes-on = refl

-- and where the outer one is refused as well, all is taken back
gives-up : answered one_todo 0 (codes "givesUp") [] ≡ (refuse (codes "givesUp" ∷ []) (rule.Thrown (codes "outside")), [])
unfolding lift looks counts joined ended andthen enters sight_of tells act.looks ◌>>=◌ or_else all_or_nothing evaluates writes behaving.counts
gives-up = refl

-- a todo isn't finished while one is in focus, and is where none is
guarded : answered in_focus 3 (codes "finish") [] ≡ (refuse (codes "todos" ∷ decimal 0 ∷ codes "finish" ∷ []) rule.Guarded, [])
unfolding lift looks counts joined ended andthen enters sight_of tells act.looks ◌>>=◌ or_else all_or_nothing evaluates writes behaving.counts
guarded = refl

admitted : answered one_todo 3 (codes "finish") []
    ≡ (Ok tt, replaced (codes "todos" ∷ decimal 0 ∷ codes "done" ∷ []) (boolean false) (boolean true) ∷ [])
unfolding lift looks counts joined ended andthen enters sight_of tells act.looks ◌>>=◌ or_else all_or_nothing evaluates writes behaving.counts
admitted = refl
