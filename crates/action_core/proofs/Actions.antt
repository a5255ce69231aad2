-- The actions of an office, for examples.
use Rattle.std.proofs.Common.{ℕ, List, [], ◌∷◌, Some, None, true, false, pos}
use Rattle.std.specs.Prelude.{codes, find, ◌==◌, if◌then◌else◌}
use Rattle.std.specs.Str.{bytes_eq}
use Rattle.snap_core.specs.Value.{null, boolean, integer, text}
use Rattle.snap_core.specs.declared.number.ModelNo.{ModelNo}
use Rattle.patch_core.specs.declared.patch.Patch.{Patch}
use Rattle.type_core.specs.Making.{Outcome}
use Rattle.expr_syntax.specs.declared.op.Op.{Op}
use Rattle.expr_syntax.specs.Syntax.{Expression, Members, Statement, constant, variable, own, two_sided, make, member, no_members, no_more, set, push, drop, each, call, attempt, throw}
use Rattle.expr_syntax.specs.ShownStatements.{statements}
use Rattle.model_syntax.specs.declared.behaviour.Param.{Param}
use Rattle.model_syntax.specs.declared.behaviour.Surrounded.{Surrounded}
use Rattle.model_syntax.specs.Shown.{ShownAction, ShownMiddleware, atomic, protect}
use Rattle.tree_core.specs.Recorded as recorded
use Rattle.tree_core.specs.State.{patches_of}
use Rattle.tree_core.specs.Writing.{Tree}
use Rattle.eval_core.specs.Answer.{Answer, AnswerList, no_answers, answer}
use Rattle.eval_core.specs.Scope.{Viewing, property}
use Rattle.action_core.specs.Act.{Ran, state_of}
use Rattle.action_core.specs.Behaving.{Behaving}
use Rattle.action_core.specs.Calling.{acted}
use Rattle.action_core.proofs.Office.{type, number, types}

-- Expressions and statements.

abbrev number_of : ℕ → Expression
number_of n = constant (integer (pos n))

abbrev words : List ℕ → Expression
words t = constant (text t)

abbrev itself : Expression
itself = variable (codes "self")

abbrev counting : ℕ → Statement
counting n = set itself (codes "count") (number_of n)

abbrev calling : List ℕ → Statement
calling name = call itself name no_more

-- Actions.

abbrev action : List ℕ → List Statement → ShownAction
action name body = record { name = name; params = []; body = statements body }

abbrev param : List ℕ → ℕ → Param
param name t = record { name = name; of = type t }

abbrev with_params : List Param → ShownAction → ShownAction
with_params params a = record a { params = params }

abbrev new_todo : Members
new_todo = member (codes "done") (constant (boolean false)) (member (codes "id") (variable (codes "id")) (member (codes "note") (constant null)
    (member (codes "owner") (variable (codes "owner")) (member (codes "title") (words (codes "Post")) no_members))))

-- what a todo does: its owner is renamed, and it is done
abbrev todo_actions : List ShownAction
todo_actions =
    action (codes "blame") (set (own (codes "owner")) (codes "name") (words (codes "late")) ∷ [])
    ∷ action (codes "finish") (set itself (codes "done") (constant (boolean true)) ∷ [])
    ∷ []

-- what an office does
abbrev office_actions : List ShownAction
office_actions =
    with_params (param (codes "id") 0 ∷ param (codes "owner") 7 ∷ []) (action (codes "addTodo") (push (own (codes "todos")) (make new_todo) ∷ []))
    ∷ action (codes "blameAll") (each (own (codes "todos")) (codes "t") (statements (call (variable (codes "t")) (codes "blame") no_more ∷ [])) ∷ [])
    ∷ action (codes "held") (Statement.bind (codes "t") (two_sided Op.Item (own (codes "todos")) (number_of 1)) ∷ drop (own (codes "todos")) (number_of 0) ∷ set (variable (codes "t")) (codes "title") (words (codes "held")) ∷ [])
    ∷ action (codes "mess") (counting 1 ∷ counting 2 ∷ throw (codes "stop") ∷ [])
    ∷ action (codes "messAtomic") (counting 1 ∷ counting 2 ∷ throw (codes "stop") ∷ [])
    ∷ action (codes "dropThrow") (drop (own (codes "todos")) (number_of 0) ∷ throw (codes "stop") ∷ [])
    ∷ action (codes "heldBack") (Statement.bind (codes "t") (two_sided Op.Item (own (codes "todos")) (number_of 0)) ∷ attempt (statements (calling (codes "dropThrow") ∷ [])) (statements []) ∷ set (variable (codes "t")) (codes "title") (words (codes "back")) ∷ [])
    ∷ action (codes "again") (calling (codes "again") ∷ [])
    ∷ action (codes "inner") (counting 2 ∷ throw (codes "inside") ∷ [])
    ∷ action (codes "goesOn") (counting 1 ∷ attempt (statements (calling (codes "inner") ∷ [])) (statements (counting 3 ∷ [])) ∷ [])
    ∷ action (codes "givesUp") (counting 1 ∷ attempt (statements (calling (codes "inner") ∷ [])) (statements (counting 3 ∷ [])) ∷ throw (codes "outside") ∷ [])
    ∷ []

-- the office takes back what these actions wrote where they are refused, and lets a todo be finished with no todo in focus
abbrev office_middleware : List ShownMiddleware
office_middleware =
    atomic (Surrounded.Named (codes "messAtomic" ∷ codes "dropThrow" ∷ codes "inner" ∷ codes "goesOn" ∷ codes "givesUp" ∷ []))
    ∷ protect (Surrounded.Named (codes "finish" ∷ [])) (two_sided Op.Eq (own (codes "focus")) (constant null))
    ∷ []

abbrev actions_of : ModelNo → List ShownAction
actions_of m = if m.0 == 1 then todo_actions else if m.0 == 2 then office_actions else []

abbrev middleware_of : ModelNo → List ShownMiddleware
middleware_of m = if m.0 == 2 then office_middleware else []

abbrev viewing : Viewing
viewing = record { member_of = λ m name. Some property; body_of = λ v. constant null }

abbrev pub behaving : Behaving
behaving = record {
  types = types;
  viewing = viewing;
  name_of = λ v. None;
  action_of = λ m name. find (λ (a : ShownAction). bytes_eq name a.name) (actions_of m);
  middleware_of = middleware_of;
}

-- What a request comes to.

abbrev pub given : List Answer → AnswerList
given [] = no_answers
given (x ∷ xs) = answer x (given xs)

-- an action of a node is called on a tree
abbrev pub called : Tree → ℕ → List ℕ → List Answer → Ran (Unit {0})
called tree n name xs = acted behaving (record { node = number n; name = name; given = given xs }) (state_of (recorded.state_of tree))

-- the outcome, and the patches that were kept
abbrev pub Shown : Type 0
Shown = Outcome (Unit {0}) × List Patch

abbrev pub shown : Ran (Unit {0}) → Shown
shown ran = (ran.outcome, patches_of ran.state.tree)

abbrev pub answered : Tree → ℕ → List ℕ → List Answer → Shown
answered tree n name xs = shown (called tree n name xs)
