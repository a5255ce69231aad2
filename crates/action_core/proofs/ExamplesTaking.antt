-- Writing answers that hold nodes, computed on an office.
use Rattle.std.proofs.Common.{◌≡◌, ℕ, List, [], ◌∷◌, None, Some, Ok, Err, decimal, map, refl}
use Rattle.std.specs.Prelude.{codes}
use Rattle.snap_core.specs.Value.{null, text, list}
use Rattle.snap_core.specs.declared.number.NodeNo.{NodeNo}
use Rattle.pointer_core.specs.declared.refusal.Rule.TheVariants as rule
use Rattle.patch_core.specs.declared.patch.Patch.{Patch}
use Rattle.type_core.specs.Making.{Outcome}
use Rattle.edit_core.specs.Labelled.{Labelled}
use Rattle.edit_core.specs.Rules.{added, removed, replaced}
use Rattle.edit_core.specs.Logged.{patch_of_logged}
use Rattle.tree_core.specs.declared.place.Place.{Place}
use Rattle.tree_core.specs.declared.place.Place.TheVariants.{Whole, Prop, Item}
use Rattle.tree_core.specs.Changed.{Changed}
use Rattle.tree_core.specs.Outcome.{refuse}
use Rattle.tree_core.specs.Reading.{path_to}
use Rattle.tree_core.specs.Writing.{Tree}
use Rattle.eval_core.specs.Answer.{Answer, AnswerList, plain, node, several, no_answers, answer}
use Rattle.answer_writing.specs.Giving as specs
use Rattle.answer_writing.specs.Giving.{Giving, sets, inserts}
use Rattle.action_core.proofs.Office.{types, number, items, call, post, one_todo, two_todos}

abbrev the : ℕ → Answer
the n = node (number n)

abbrev given : List Answer → AnswerList
given [] = no_answers
given (x ∷ xs) = answer x (given xs)

-- a list of answers
abbrev all_of : List Answer → Answer
all_of xs = several (given xs)

abbrev patches : Outcome Changed → Outcome (List Patch)
patches (Ok c) = Ok (map patch_of_logged c.edits)
patches (Err e) = Err e

-- the tree after it
abbrev after : Outcome Changed → Labelled
after (Ok c) = c.value
after (Err e) = one_todo.root

abbrev by : List NodeNo → Place → Giving → Tree → Outcome Changed
by running place giving tree = specs.given types (record { running = running; place = place; named = None }) giving tree

-- on the office's behalf
abbrev on_root : Place → Giving → Tree → Outcome (List Patch)
on_root place giving tree = patches (by (number 0 ∷ []) place giving tree)

-- References.

-- a todo stands for its identifier where a todo is referred to
focus : on_root (Prop (number 0) (codes "focus")) (sets (the 3)) one_todo ≡ Ok (replaced (codes "focus" ∷ []) null (text (codes "t1")) ∷ [])
focus = refl

-- and isn't of the type where a user is, nor is an array
owner : on_root (Prop (number 3) (codes "owner")) (sets (the 3)) one_todo ≡ refuse (codes "todos" ∷ decimal 0 ∷ codes "owner" ∷ []) rule.Mistyped
owner = refl

owner-array : on_root (Prop (number 3) (codes "owner")) (sets (the 1)) one_todo ≡ refuse (codes "todos" ∷ decimal 0 ∷ codes "owner" ∷ []) rule.Mistyped
owner-array = refl

-- through a type that takes null too
boss : on_root (Prop (number 5) (codes "boss")) (sets (the 5)) one_todo ≡ Ok (replaced (codes "users" ∷ codes "u1" ∷ codes "boss" ∷ []) null (text (codes "u1")) ∷ [])
boss = refl

-- a list of users, and one in which a todo stands
team : on_root (Prop (number 0) (codes "team")) (sets (all_of (the 5 ∷ the 5 ∷ []))) one_todo
    ≡ Ok (added (codes "team" ∷ decimal 0 ∷ []) (text (codes "u1")) ∷ added (codes "team" ∷ decimal 1 ∷ []) (text (codes "u1")) ∷ [])
team = refl

mixed-team : on_root (Prop (number 0) (codes "team")) (sets (all_of (the 5 ∷ the 3 ∷ []))) one_todo ≡ refuse (codes "team" ∷ decimal 1 ∷ []) rule.Mistyped
mixed-team = refl

-- the first item that isn't of the type, in document order
first-of-team : on_root (Prop (number 0) (codes "team")) (sets (all_of (plain null ∷ the 3 ∷ []))) one_todo ≡ refuse (codes "team" ∷ decimal 0 ∷ []) rule.Mistyped
first-of-team = refl

-- Nodes at their own places.

-- the todo that stands at an index stays there, with its number, and a new one comes behind it
same-todo : on_root (Prop (number 0) (codes "todos")) (sets (all_of (the 3 ∷ plain post ∷ []))) one_todo
    ≡ Ok (removed (codes "todos" ∷ decimal 0 ∷ []) call ∷ added (codes "todos" ∷ decimal 0 ∷ []) call ∷ added (codes "todos" ∷ decimal 1 ∷ []) post ∷ [])
same-todo = refl

same-node : path_to 3 (after (by (number 0 ∷ []) (Prop (number 0) (codes "todos")) (sets (all_of (the 3 ∷ plain post ∷ []))) one_todo)) ≡ Some (codes "todos" ∷ decimal 0 ∷ [])
same-node = refl

-- nothing changes where each item is the one that stands there, and where the node itself is set or applied
same-items : on_root (Whole (number 2)) (sets (all_of (the 3 ∷ the 4 ∷ []))) two_todos ≡ Ok []
same-items = refl

same-property : on_root (Prop (number 0) (codes "todos")) (sets (the 2)) two_todos ≡ Ok []
same-property = refl

same-whole : on_root (Whole (number 4)) (sets (the 4)) two_todos ≡ Ok []
same-whole = refl

-- Other nodes.

-- two todos can't change places, which is told of the place that is written
exchanged : on_root (Prop (number 0) (codes "todos")) (sets (all_of (the 4 ∷ the 3 ∷ []))) two_todos ≡ refuse (codes "todos" ∷ []) rule.Alive
exchanged = refl

-- a new item takes the place of nothing
inserted : on_root (Item (number 2) 0) (inserts (the 3)) one_todo ≡ refuse (codes "todos" ∷ decimal 0 ∷ []) rule.Alive
inserted = refl

-- a node that is dead, also at a reference
gone : on_root (Prop (number 0) (codes "focus")) (sets (the 9)) one_todo ≡ refuse [] rule.Dead
gone = refl

-- the first one in document order
first-of-two : on_root (Prop (number 0) (codes "todos")) (sets (all_of (the 9 ∷ the 5 ∷ []))) one_todo ≡ refuse [] rule.Dead
first-of-two = refl

alive-first : on_root (Prop (number 0) (codes "todos")) (sets (all_of (the 5 ∷ the 9 ∷ []))) one_todo ≡ refuse (codes "todos" ∷ []) rule.Alive
alive-first = refl

-- The order of the rules.

-- a list that holds nodes isn't looked into where the type is no array, be the type frozen
no-array : on_root (Prop (number 3) (codes "note")) (sets (all_of (the 9 ∷ []))) one_todo ≡ refuse (codes "todos" ∷ decimal 0 ∷ codes "note" ∷ []) rule.Mistyped
no-array = refl

-- where no node stands in it, it is a plain list
plain-list : on_root (Prop (number 3) (codes "note")) (sets (all_of (plain null ∷ []))) one_todo
    ≡ Ok (replaced (codes "todos" ∷ decimal 0 ∷ codes "note" ∷ []) null (list tt (items (null ∷ []))) ∷ [])
plain-list = refl

-- protected, kind, path, index and fixed come before the nodes
protected : patches (by [] (Prop (number 3) (codes "title")) (sets (the 9)) one_todo) ≡ refuse (codes "todos" ∷ decimal 0 ∷ codes "title" ∷ []) rule.Protected
protected = refl

of_kind : on_root (Item (number 3) 0) (sets (the 9)) one_todo ≡ refuse [] rule.Kind
of_kind = refl

no-path : on_root (Prop (number 3) (codes "none")) (sets (the 9)) one_todo ≡ refuse (codes "todos" ∷ decimal 0 ∷ codes "none" ∷ []) rule.Path
no-path = refl

no-index : on_root (Item (number 2) 1) (sets (the 9)) one_todo ≡ refuse (codes "todos" ∷ decimal 1 ∷ []) rule.Index
no-index = refl

fixed : on_root (Prop (number 3) (codes "id")) (sets (the 9)) one_todo ≡ refuse (codes "todos" ∷ decimal 0 ∷ codes "id" ∷ []) rule.Fixed
fixed = refl

-- and the nodes before what is made: the second item is no todo
before-making : on_root (Prop (number 0) (codes "todos")) (sets (all_of (plain null ∷ the 5 ∷ []))) one_todo ≡ refuse (codes "todos" ∷ []) rule.Alive
before-making = refl

-- what is written doubles no identifier
doubled : on_root (Prop (number 0) (codes "todos")) (sets (all_of (the 3 ∷ plain call ∷ []))) one_todo ≡ refuse (codes "todos" ∷ decimal 1 ∷ []) rule.Identifier
doubled = refl
