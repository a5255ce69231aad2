-- Running statements: what each does, in the order in which its parts are evaluated. Read this page first.
use Rattle.std.specs.Prelude.{ℕ, List, [], ◌∷◌, Bool, true, false, Err, if◌then◌else◌}
use Rattle.snap_core.specs.declared.number.NodeNo.{NodeNo}
use Rattle.pointer_core.specs.declared.refusal.Rule.{Rule}
use Rattle.pointer_core.specs.declared.refusal.Rule.TheVariants as rule
use Rattle.type_core.specs.Making.{Refused}
use Rattle.expr_syntax.specs.Syntax.{Statement, Statements, set, put, push, insert, replace, drop, clear, apply, each, call, attempt, throw, done, run}
use Rattle.tree_core.specs.declared.place.Place.{Place}
use Rattle.eval_core.specs.Answer.{Answer, AnswerList}
use Rattle.eval_core.specs.Run.{Eval, andthen}
use Rattle.eval_core.specs.Scope.{Scope, Env}
use Rattle.eval_core.specs.Scope as scope
use Rattle.eval_core.specs.Walking.{Item, walked, read_item}
use Rattle.eval_core.specs.Evaluating.{evaluated, all_evaluated, truth}
use Rattle.action_core.specs.Act.{Act, ◌>>=◌, tells, gives, refuses, looks, or_else}
use Rattle.action_core.specs.Behaving.{Acting, evaluates, in_frame, writes, counts, on_node}
use Rattle.action_core.specs.Statements.{Naming, property_set, entry_put, item_inserted, item_replaced, part_dropped, snapshot_applied, named_written, pushed, removals, place_removed}

-- Parts of a statement, evaluated from left to right.

abbrev pub two : {A B : Type 0} → Eval A → Eval B → Eval (A × B)
two first second = andthen first (λ x. andthen second (λ y. scope.gives (x, y)))

abbrev pub three : {A B C : Type 0} → Eval A → Eval B → Eval C → Eval (A × B × C)
three first second third = andthen first (λ x. andthen second (λ y. andthen third (λ z. scope.gives (x, y, z))))

-- all walked values
abbrev pub all_read : Scope → List Item → Eval (List Answer)
all_read s [] = scope.gives []
all_read s (i ∷ is) = andthen (read_item s i) (λ x. andthen (all_read s is) (λ xs. scope.gives (x ∷ xs)))

-- what is walked, all of it
abbrev pub items_read : Scope → Answer → Eval (List Answer)
items_read s x = andthen (walked s x) (all_read s)

abbrev pub evaluates_in : {A : Type 0} → Acting → (Scope → Eval A) → Act A
evaluates_in a eval = evaluates a.behaving a.running.frame eval

-- Writes.

abbrev pub writes_named : Acting → Naming → Act (Unit {0})
writes_named a w = writes a.running.frame (named_written a.behaving.types a.running.nodes w)

-- the write that a statement names of the node that an answer is
abbrev pub writes_to : Acting → Answer → (NodeNo → Naming) → Act (Unit {0})
writes_to a x naming = on_node a.running.frame x (λ n. writes_named a (naming n))

abbrev pub pushes : Acting → Answer → Answer → Act (Unit {0})
pushes a x y = on_node a.running.frame x (λ n. writes a.running.frame (pushed a.behaving.types a.running.nodes n y))

-- each place by one write
abbrev pub removes_all : Acting → List Place → Act (Unit {0})
removes_all a [] = gives tt
removes_all a (at ∷ more) = do
  one ← writes a.running.frame (place_removed a.behaving.types a.running.nodes at)
  removes_all a more

-- a node's items or entries, all of them
abbrev pub clears : Acting → Answer → Act (Unit {0})
clears a x = on_node a.running.frame x (λ n. do
  places ← looks (λ root. in_frame a.running.frame (removals n root))
  removes_all a places)

-- Blocks.

-- one of two blocks
abbrev pub one_of : Act (Unit {0}) → Act (Unit {0}) → Bool → Act (Unit {0})
one_of first second b = if b then first else second

-- a block for each of some values, until it is refused
abbrev pub over_each : (Answer → Act (Unit {0})) → List Answer → Act (Unit {0})
over_each body [] = gives tt
over_each body (x ∷ xs) = do
  one ← body x
  over_each body xs

abbrev pub is_budget : Rule → Bool
is_budget rule.Budget = true
is_budget r = false

-- what is run where a block is refused; a request that ran too many statements is over
abbrev pub rescues : Act (Unit {0}) → Refused → Act (Unit {0})
rescues other e = if is_budget e.rule then tells (Err e) else other

-- an action of the node that an answer is
abbrev pub calls : Acting → Answer → List ℕ → AnswerList → Act (Unit {0})
calls a x name xs = on_node a.running.frame x (λ n. a.call (record { node = n; name = name; given = xs }))

-- a statement that binds no name
abbrev pub keeping : Env → Act (Unit {0}) → Act Env
keeping env act = do
  one ← act
  gives env

abbrev mutual
  -- a statement, by the names that are bound before it; it gives those that are bound behind it
  pub ran : Acting → Statement → Env → Act Env
  ran a (set e p v) env = keeping env (do
    xs ← evaluates_in a (λ s. two (evaluated s e env) (evaluated s v env))
    writes_to a xs.0 (λ n. property_set n p xs.1))
  ran a (put e k v) env = keeping env (do
    xs ← evaluates_in a (λ s. three (evaluated s e env) (evaluated s k env) (evaluated s v env))
    writes_to a xs.0 (λ n. entry_put n xs.1 xs.2))
  ran a (push e v) env = keeping env (do
    xs ← evaluates_in a (λ s. two (evaluated s e env) (evaluated s v env))
    pushes a xs.0 xs.1)
  ran a (insert e i v) env = keeping env (do
    xs ← evaluates_in a (λ s. three (evaluated s e env) (evaluated s i env) (evaluated s v env))
    writes_to a xs.0 (λ n. item_inserted n xs.1 xs.2))
  ran a (replace e i v) env = keeping env (do
    xs ← evaluates_in a (λ s. three (evaluated s e env) (evaluated s i env) (evaluated s v env))
    writes_to a xs.0 (λ n. item_replaced n xs.1 xs.2))
  ran a (drop e k) env = keeping env (do
    xs ← evaluates_in a (λ s. two (evaluated s e env) (evaluated s k env))
    writes_to a xs.0 (λ n. part_dropped n xs.1))
  ran a (clear e) env = keeping env (do
    x ← evaluates_in a (λ s. evaluated s e env)
    clears a x)
  ran a (apply e v) env = keeping env (do
    xs ← evaluates_in a (λ s. two (evaluated s e env) (evaluated s v env))
    writes_to a xs.0 (λ n. snapshot_applied n xs.1))
  ran a (Statement.bind x e) env = do
    y ← evaluates_in a (λ s. evaluated s e env)
    gives ((x, y) ∷ env)
  ran a (Statement.choice c first second) env = keeping env (do
    b ← evaluates_in a (λ s. andthen (evaluated s c env) (truth s))
    one_of (ran_block a first env) (ran_block a second env) b)
  ran a (each e x body) env = keeping env (do
    xs ← evaluates_in a (λ s. andthen (evaluated s e env) (items_read s))
    over_each (λ y. ran_block a body ((x, y) ∷ env)) xs)
  ran a (call e name es) env = keeping env (do
    xs ← evaluates_in a (λ s. two (evaluated s e env) (all_evaluated s es env))
    calls a xs.0 name xs.1)
  ran a (attempt first second) env = keeping env (or_else (rescues (ran_block a second env)) (ran_block a first env))
  ran a (throw reason) env = refuses a.running.frame (rule.Thrown reason)

  -- a block: each statement is counted and run, and what it binds is bound behind it
  pub ran_block : Acting → Statements → Env → Act (Unit {0})
  ran_block a done env = gives tt
  ran_block a (run st sts) env = do
    one ← counts a.running.frame
    bound ← ran a st env
    ran_block a sts bound
