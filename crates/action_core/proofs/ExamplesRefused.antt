-- The first rule that a statement or a call doesn't meet, and its place, computed on an office.
use Rattle.std.proofs.Common.{◌≡◌, ℕ, List, [], ◌∷◌, true, Ok, pos, negsuc, decimal, refl}
use Rattle.std.specs.Prelude.{codes}
use Rattle.snap_core.specs.Value.{null, boolean, integer, text, dict, no_members, member}
use Rattle.pointer_core.specs.Path.{Path}
use Rattle.pointer_core.specs.declared.refusal.Rule.{Rule}
use Rattle.pointer_core.specs.declared.refusal.Rule.TheVariants as rule
use Rattle.edit_core.specs.Rules.{removed, replaced}
use Rattle.expr_syntax.specs.declared.op.Op.{Op}
use Rattle.expr_syntax.specs.Syntax.{Expression, Statement, constant, variable, own, get, two_sided, set, put, push, insert, replace, drop, clear, apply, each, call, attempt, throw, no_more, more}
use Rattle.expr_syntax.specs.Syntax as syntax
use Rattle.expr_syntax.specs.ShownStatements.{statements}
use Rattle.tree_core.specs.Outcome.{refuse}
use Rattle.tree_core.specs.Recorded.{new_tree}
use Rattle.tree_core.specs.Recorded as recorded
use Rattle.tree_core.specs.Writing.{Tree}
use Rattle.eval_core.specs.Answer.{Answer, plain, node}
use Rattle.eval_core.specs.Asking.{bound_at}
use Rattle.eval_core.specs.Run.{lift, looks, counts, joined, ended, andthen, enters}
use Rattle.view_engine.specs.TreeSight.{sight_of}
use Rattle.action_core.specs.Act as act
use Rattle.action_core.specs.Act.{State, Ran, state_of, root_of, tells, ◌>>=◌, or_else, all_or_nothing}
use Rattle.action_core.specs.Behaving as behaving
use Rattle.action_core.specs.Behaving.{Running, sight_in, evaluates, writes}
use Rattle.action_core.specs.Running.{ran_block}
use Rattle.action_core.specs.Calling as calling
use Rattle.action_core.proofs.Office.{types, number, office, user, call as to_call, post, one_todo, two_todos}
use Rattle.action_core.proofs.Actions as actions
use Rattle.action_core.proofs.Actions.{Shown, shown, answered}

-- statements of an action `does` of a node, with the names that are bound in every action
abbrev running_on : ℕ → Running
running_on n = record { nodes = number n ∷ []; frame = codes "does" ∷ [] }

abbrev block_run : ℕ → List Statement → State → Ran (Unit {0})
block_run n body s =
    ran_block (record { behaving = actions.behaving; running = running_on n; call = calling.called actions.behaving 31 (running_on n) })
    (statements body) (bound_at (sight_in actions.behaving (root_of s)) (number n)) s

abbrev does : ℕ → List Statement → Tree → Shown
does n body tree = shown (block_run n body (state_of (recorded.state_of tree)))

-- refused, with nothing kept
abbrev no : Path → Rule → Shown
no path r = (refuse path r, [])

abbrev no_at_frame : Rule → Shown
no_at_frame r = no (codes "does" ∷ []) r

abbrev words : List ℕ → Expression
words t = constant (text t)

abbrev number_of : ℕ → Expression
number_of n = constant (integer (pos n))

abbrev top : Expression
top = variable (codes "root")

abbrev users : Expression
users = get top (codes "users")

abbrev todos : Expression
todos = get top (codes "todos")

abbrev nothing : Expression
nothing = constant null

abbrev the : ℕ → Answer
the n = node (number n)

-- two users, and a user whose boss is gone
abbrev two_users : Tree
two_users = new_tree types (office null [] [] (member (codes "u1") (user (codes "u1") (codes "Ann")) (member (codes "u2") (user (codes "u2") (codes "Bea")) no_members)))

abbrev bossed : Tree
bossed = new_tree types (office null [] [] (member (codes "u1") (dict tt (member (codes "boss") (text (codes "u9")) (member (codes "id") (text (codes "u1")) (member (codes "name") (text (codes "Ann")) no_members)))) no_members))

-- a request that ran so many statements
abbrev counted_before : ℕ → State
counted_before n = let s = state_of (recorded.state_of one_todo) in record s { counted = n }

-- Targets and keys.

-- a target that is no node
no-target : does 0 (set nothing (codes "count") (number_of 1) ∷ []) one_todo
    ≡ no_at_frame rule.Kind
unfolding lift looks counts joined ended andthen enters sight_of tells act.looks ◌>>=◌ or_else all_or_nothing evaluates writes behaving.counts
no-target = refl

-- a name that is no property
no-property : does 0 (set top (codes "none") (number_of 1) ∷ []) one_todo
    ≡ no (codes "none" ∷ []) rule.Path
unfolding lift looks counts joined ended andthen enters sight_of tells act.looks ◌>>=◌ or_else all_or_nothing evaluates writes behaving.counts
no-property = refl

-- a property of an array
of-array : does 0 (set todos (codes "title") (words (codes "x")) ∷ []) one_todo
    ≡ no_at_frame rule.Kind
unfolding lift looks counts joined ended andthen enters sight_of tells act.looks ◌>>=◌ or_else all_or_nothing evaluates writes behaving.counts
of-array = refl

-- a key that is no text at a map, and one that is no integer at an array
put-integer : does 0 (put users (number_of 5) nothing ∷ []) one_todo
    ≡ no_at_frame rule.Kind
unfolding lift looks counts joined ended andthen enters sight_of tells act.looks ◌>>=◌ or_else all_or_nothing evaluates writes behaving.counts
put-integer = refl

put-at-array : does 0 (put todos (number_of 0) nothing ∷ []) one_todo
    ≡ no_at_frame rule.Kind
unfolding lift looks counts joined ended andthen enters sight_of tells act.looks ◌>>=◌ or_else all_or_nothing evaluates writes behaving.counts
put-at-array = refl

replace-text : does 0 (replace todos (words (codes "x")) nothing ∷ []) one_todo
    ≡ no_at_frame rule.Kind
unfolding lift looks counts joined ended andthen enters sight_of tells act.looks ◌>>=◌ or_else all_or_nothing evaluates writes behaving.counts
replace-text = refl

insert-node : does 0 (insert todos top nothing ∷ []) one_todo
    ≡ no_at_frame rule.Kind
unfolding lift looks counts joined ended andthen enters sight_of tells act.looks ◌>>=◌ or_else all_or_nothing evaluates writes behaving.counts
insert-node = refl

drop-truth : does 0 (drop users (constant (boolean true)) ∷ []) one_todo
    ≡ no_at_frame rule.Kind
unfolding lift looks counts joined ended andthen enters sight_of tells act.looks ◌>>=◌ or_else all_or_nothing evaluates writes behaving.counts
drop-truth = refl

-- before it the node may not be written, which is told of the node and of a key that is a text or an integer
put-protected : does 3 (put users (number_of 5) nothing ∷ []) one_todo
    ≡ no (codes "users" ∷ decimal 5 ∷ []) rule.Protected
unfolding lift looks counts joined ended andthen enters sight_of tells act.looks ◌>>=◌ or_else all_or_nothing evaluates writes behaving.counts
put-protected = refl

replace-protected : does 3 (replace users (words (codes "u1")) nothing ∷ []) one_todo
    ≡ no (codes "users" ∷ codes "u1" ∷ []) rule.Protected
unfolding lift looks counts joined ended andthen enters sight_of tells act.looks ◌>>=◌ or_else all_or_nothing evaluates writes behaving.counts
replace-protected = refl

drop-protected : does 3 (drop users (constant (boolean true)) ∷ []) one_todo
    ≡ no (codes "users" ∷ []) rule.Protected
unfolding lift looks counts joined ended andthen enters sight_of tells act.looks ◌>>=◌ or_else all_or_nothing evaluates writes behaving.counts
drop-protected = refl

-- and the end of a map is the number of its entries
push-protected : does 3 (push users nothing ∷ []) one_todo
    ≡ no (codes "users" ∷ decimal 1 ∷ []) rule.Protected
unfolding lift looks counts joined ended andthen enters sight_of tells act.looks ◌>>=◌ or_else all_or_nothing evaluates writes behaving.counts
push-protected = refl

push-map : does 0 (push users nothing ∷ []) one_todo
    ≡ no_at_frame rule.Kind
unfolding lift looks counts joined ended andthen enters sight_of tells act.looks ◌>>=◌ or_else all_or_nothing evaluates writes behaving.counts
push-map = refl

-- an index below 0, and one past the end
below : does 0 (drop todos (constant (integer (negsuc 0))) ∷ []) one_todo
    ≡ no (codes "todos" ∷ (45 ∷ decimal 1) ∷ []) rule.Index
unfolding lift looks counts joined ended andthen enters sight_of tells act.looks ◌>>=◌ or_else all_or_nothing evaluates writes behaving.counts
below = refl

past : does 0 (replace todos (number_of 4294967296) nothing ∷ []) one_todo
    ≡ no (codes "todos" ∷ decimal 4294967296 ∷ []) rule.Index
unfolding lift looks counts joined ended andthen enters sight_of tells act.looks ◌>>=◌ or_else all_or_nothing evaluates writes behaving.counts
past = refl

no-key : does 0 (drop users (words (codes "u9")) ∷ []) one_todo
    ≡ no (codes "users" ∷ codes "u9" ∷ []) rule.Path
unfolding lift looks counts joined ended andthen enters sight_of tells act.looks ◌>>=◌ or_else all_or_nothing evaluates writes behaving.counts
no-key = refl

-- a node that left the tree
dead : does 0 (syntax.Statement.bind (codes "t") (two_sided Op.Item todos (number_of 0)) ∷ clear todos ∷ set (variable (codes "t")) (codes "title") (words (codes "x")) ∷ []) one_todo
    ≡ (refuse (codes "does" ∷ []) rule.Dead, removed (codes "todos" ∷ decimal 0 ∷ []) to_call ∷ [])
unfolding lift looks counts joined ended andthen enters sight_of tells act.looks ◌>>=◌ or_else all_or_nothing evaluates writes behaving.counts
dead = refl

-- Clearing and applying.

-- items from the last to the first
clear-array : does 0 (clear todos ∷ []) two_todos
    ≡ (Ok tt, removed (codes "todos" ∷ decimal 1 ∷ []) post ∷ removed (codes "todos" ∷ decimal 0 ∷ []) to_call ∷ [])
unfolding lift looks counts joined ended andthen enters sight_of tells act.looks ◌>>=◌ or_else all_or_nothing evaluates writes behaving.counts
clear-array = refl

-- entries by ascending keys
clear-map : does 0 (clear users ∷ []) two_users
    ≡ (Ok tt, removed (codes "users" ∷ codes "u1" ∷ []) (user (codes "u1") (codes "Ann")) ∷ removed (codes "users" ∷ codes "u2" ∷ []) (user (codes "u2") (codes "Bea")) ∷ [])
unfolding lift looks counts joined ended andthen enters sight_of tells act.looks ◌>>=◌ or_else all_or_nothing evaluates writes behaving.counts
clear-map = refl

-- what is empty stays so, whoever acts
clear-empty : does 3 (clear (get top (codes "team")) ∷ []) one_todo
    ≡ (Ok tt, [])
unfolding lift looks counts joined ended andthen enters sight_of tells act.looks ◌>>=◌ or_else all_or_nothing evaluates writes behaving.counts
clear-empty = refl

clear-protected : does 3 (clear todos ∷ []) two_todos
    ≡ no (codes "todos" ∷ decimal 1 ∷ []) rule.Protected
unfolding lift looks counts joined ended andthen enters sight_of tells act.looks ◌>>=◌ or_else all_or_nothing evaluates writes behaving.counts
clear-protected = refl

-- a model isn't cleared
clear-model : does 3 (clear top ∷ []) one_todo
    ≡ no_at_frame rule.Kind
unfolding lift looks counts joined ended andthen enters sight_of tells act.looks ◌>>=◌ or_else all_or_nothing evaluates writes behaving.counts
clear-model = refl

-- a snapshot that is applied to the todos
apply-list : does 0 (apply todos (syntax.list (more (two_sided Op.Item todos (number_of 0)) no_more)) ∷ apply todos (syntax.list no_more) ∷ []) one_todo
    ≡ (Ok tt, removed (codes "todos" ∷ decimal 0 ∷ []) to_call ∷ [])
unfolding lift looks counts joined ended andthen enters sight_of tells act.looks ◌>>=◌ or_else all_or_nothing evaluates writes behaving.counts
apply-list = refl

-- Expressions.

-- a refusal of an expression is told of the frame, and a reference that leads nowhere of its place
no-field : does 0 (syntax.Statement.bind (codes "x") (get top (codes "none")) ∷ []) one_todo
    ≡ no_at_frame rule.Kind
unfolding lift looks counts joined ended andthen enters sight_of tells act.looks ◌>>=◌ or_else all_or_nothing evaluates writes behaving.counts
no-field = refl

no-boss : does 0 (syntax.Statement.bind (codes "x") (get (two_sided Op.Item users (words (codes "u1"))) (codes "boss")) ∷ []) bossed
    ≡ no (codes "users" ∷ codes "u1" ∷ codes "boss" ∷ []) rule.Reference
unfolding lift looks counts joined ended andthen enters sight_of tells act.looks ◌>>=◌ or_else all_or_nothing evaluates writes behaving.counts
no-boss = refl

-- an integer past the greatest
past-most : does 0 (set top (codes "count") (two_sided Op.Add (number_of 9007199254740991) (number_of 1)) ∷ []) one_todo
    ≡ no_at_frame rule.Range
unfolding lift looks counts joined ended andthen enters sight_of tells act.looks ◌>>=◌ or_else all_or_nothing evaluates writes behaving.counts
past-most = refl

-- a condition that is no truth
no-truth : does 0 (syntax.Statement.choice nothing (statements []) (statements []) ∷ []) one_todo
    ≡ no_at_frame rule.Kind
unfolding lift looks counts joined ended andthen enters sight_of tells act.looks ◌>>=◌ or_else all_or_nothing evaluates writes behaving.counts
no-truth = refl

-- what can't be walked
no-walk : does 0 (each top (codes "x") (statements []) ∷ []) one_todo
    ≡ no_at_frame rule.Kind
unfolding lift looks counts joined ended andthen enters sight_of tells act.looks ◌>>=◌ or_else all_or_nothing evaluates writes behaving.counts
no-walk = refl

-- Blocks.

-- what a refused block wrote stays, and what it bound is bound no more
caught : does 0 (attempt (statements (syntax.Statement.bind (codes "x") (number_of 7) ∷ set top (codes "count") (variable (codes "x")) ∷ throw (codes "a") ∷ [])) (statements (set top (codes "count") (variable (codes "x")) ∷ [])) ∷ []) one_todo
    ≡ (refuse (codes "does" ∷ []) rule.Kind, replaced (codes "count" ∷ []) (integer (pos 0)) (integer (pos 7)) ∷ [])
unfolding lift looks counts joined ended andthen enters sight_of tells act.looks ◌>>=◌ or_else all_or_nothing evaluates writes behaving.counts
caught = refl

-- the values of a walk are those at its start
walked : does 0 (each todos (codes "t") (statements (drop todos (number_of 0) ∷ [])) ∷ []) two_todos
    ≡ (Ok tt, removed (codes "todos" ∷ decimal 0 ∷ []) to_call ∷ removed (codes "todos" ∷ decimal 0 ∷ []) post ∷ [])
unfolding lift looks counts joined ended andthen enters sight_of tells act.looks ◌>>=◌ or_else all_or_nothing evaluates writes behaving.counts
walked = refl

-- the 100,001st statement is refused, and that isn't caught
budget : shown (block_run 0 (attempt (statements (set top (codes "count") (number_of 1) ∷ set top (codes "count") (number_of 2) ∷ [])) (statements []) ∷ []) (counted_before 99998))
    ≡ (refuse (codes "does" ∷ []) rule.Budget, replaced (codes "count" ∷ []) (integer (pos 0)) (integer (pos 1)) ∷ [])
unfolding lift looks counts joined ended andthen enters sight_of tells act.looks ◌>>=◌ or_else all_or_nothing evaluates writes behaving.counts
budget = refl

-- Calls.

-- of what is no node, and of a node that is dead: told of the caller
call-nothing : does 0 (call nothing (codes "finish") no_more ∷ []) one_todo
    ≡ no_at_frame rule.Kind
unfolding lift looks counts joined ended andthen enters sight_of tells act.looks ◌>>=◌ or_else all_or_nothing evaluates writes behaving.counts
call-nothing = refl

call-dead : does 0 (syntax.Statement.bind (codes "t") (two_sided Op.Item todos (number_of 0)) ∷ clear todos ∷ call (variable (codes "t")) (codes "finish") no_more ∷ []) one_todo
    ≡ (refuse (codes "does" ∷ []) rule.Dead, removed (codes "todos" ∷ decimal 0 ∷ []) to_call ∷ [])
unfolding lift looks counts joined ended andthen enters sight_of tells act.looks ◌>>=◌ or_else all_or_nothing evaluates writes behaving.counts
call-dead = refl

-- of an array, and of a name that the model has no action of
call-array : does 0 (call todos (codes "finish") no_more ∷ []) one_todo
    ≡ no (codes "todos" ∷ codes "finish" ∷ []) rule.Unknown
unfolding lift looks counts joined ended andthen enters sight_of tells act.looks ◌>>=◌ or_else all_or_nothing evaluates writes behaving.counts
call-array = refl

call-unknown : answered one_todo 3 (codes "none") []
    ≡ no (codes "todos" ∷ decimal 0 ∷ codes "none" ∷ []) rule.Unknown
unfolding lift looks counts joined ended andthen enters sight_of tells act.looks ◌>>=◌ or_else all_or_nothing evaluates writes behaving.counts
call-unknown = refl

-- by a request, of a node that is dead
request-dead : answered one_todo 9 (codes "finish") []
    ≡ no [] rule.Dead
unfolding lift looks counts joined ended andthen enters sight_of tells act.looks ◌>>=◌ or_else all_or_nothing evaluates writes behaving.counts
request-dead = refl

-- too few arguments, and one that isn't of the type
few : answered one_todo 0 (codes "addTodo") (plain (text (codes "t2")) ∷ [])
    ≡ no (codes "addTodo" ∷ []) rule.Arguments
unfolding lift looks counts joined ended andthen enters sight_of tells act.looks ◌>>=◌ or_else all_or_nothing evaluates writes behaving.counts
few = refl

mistyped : answered one_todo 0 (codes "addTodo") (plain null ∷ plain (text (codes "u9")) ∷ [])
    ≡ no (codes "addTodo" ∷ []) rule.Arguments
unfolding lift looks counts joined ended andthen enters sight_of tells act.looks ◌>>=◌ or_else all_or_nothing evaluates writes behaving.counts
mistyped = refl

-- a node where none is referred to, and one of another model
node-given : answered one_todo 0 (codes "addTodo") (the 5 ∷ the 5 ∷ [])
    ≡ no (codes "addTodo" ∷ []) rule.Arguments
unfolding lift looks counts joined ended andthen enters sight_of tells act.looks ◌>>=◌ or_else all_or_nothing evaluates writes behaving.counts
node-given = refl

other-model : answered one_todo 0 (codes "addTodo") (plain (text (codes "t2")) ∷ the 3 ∷ [])
    ≡ no (codes "addTodo" ∷ []) rule.Arguments
unfolding lift looks counts joined ended andthen enters sight_of tells act.looks ◌>>=◌ or_else all_or_nothing evaluates writes behaving.counts
other-model = refl

-- a reference that leads nowhere, and a node that is dead
unresolved : answered one_todo 0 (codes "addTodo") (plain (text (codes "t2")) ∷ plain (text (codes "u9")) ∷ [])
    ≡ no (codes "addTodo" ∷ []) rule.Reference
unfolding lift looks counts joined ended andthen enters sight_of tells act.looks ◌>>=◌ or_else all_or_nothing evaluates writes behaving.counts
unresolved = refl

dead-given : answered one_todo 0 (codes "addTodo") (plain (text (codes "t2")) ∷ the 9 ∷ [])
    ≡ no (codes "addTodo" ∷ []) rule.Reference
unfolding lift looks counts joined ended andthen enters sight_of tells act.looks ◌>>=◌ or_else all_or_nothing evaluates writes behaving.counts
dead-given = refl
