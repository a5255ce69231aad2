-- What is taken of an answer that is written: at a reference a node stands for its identifier, and the node that stands
-- at its own place is taken as it is. A list that holds nodes is taken item by item where the type is an array.
use Rattle.std.specs.Prelude.{ℕ, List, [], ◌∷◌, drop, slice_get, Bool, true, false, ◌||◌, nat_eq, is_some, is_none, unwrap_or, option_map, option_and_then, Option, Some, None, Ok, Err, if◌then◌else◌}
use Rattle.snap_core.specs.Value.{Value, null, list, Items, no_parts, part}
use Rattle.snap_core.specs.declared.number.ModelNo.{ModelNo}
use Rattle.snap_core.specs.declared.number.NodeNo.{NodeNo}
use Rattle.pointer_core.specs.declared.refusal.Rule.{Rule}
use Rattle.type_table.specs.declared.shape.Shape.{Shape}
use Rattle.type_table.specs.declared.shape.Shape.TheVariants as shape
use Rattle.type_table.specs.Table.{Catalog}
use Rattle.type_core.specs.Making.{Outcome, Maker, mistyped, making, items_made, list_of}
use Rattle.type_core.specs.Judging.{judged_by}
use Rattle.edit_core.specs.declared.kind.Kind.TheVariants.{Model}
use Rattle.edit_core.specs.Labelled.{Label, Labelled, bare}
use Rattle.edit_core.specs.Template.{items_under}
use Rattle.edit_core.specs.Typing.{label_of, is_kind}
use Rattle.tree_core.specs.TypesTyping.{typing_of}
use Rattle.tree_core.specs.Asking.{referred_by}
use Rattle.tree_core.specs.Reading.{node_of, kind_at, identifier_in}
use Rattle.eval_core.specs.Answer.{Answer, AnswerList, plain, node, several, no_answers, answer}
use Rattle.eval_core.specs.Reading.{ident_value}

-- by what answers are taken: the types, and the snapshot whose nodes stand in them
pub record Taking : Type 0 where
  pub types : Catalog
  pub root : Labelled

-- where an answer goes: the type there, and what stands there now, if anything
pub record Aim : Type 0 where
  pub type : ℕ
  pub held : Option Labelled

-- the plain value that an answer is, several answers as a list; none where a node stands in it
abbrev mutual
  pub plain_in : Answer → Option Value
  plain_in (plain v) = Some v
  plain_in (node n) = None
  plain_in (several xs) = option_map (λ ps. list tt ps) (plains_in xs)

  pub plains_in : AnswerList → Option Items
  plains_in no_answers = Some no_parts
  plains_in (answer x xs) = option_and_then (λ v. option_map (λ ps. part v ps) (plains_in xs)) (plain_in x)

-- the model that references lead to, where the type is one of them
abbrev pub model_at : Taking → Aim → Option ModelNo
model_at by aim = referred_by by.types.table aim.type

-- the type of the items, where a list is judged by an array
abbrev pub items_of_shape : Option Shape → Option ℕ
items_of_shape (Some (shape.Array u)) = Some u.0
items_of_shape _ = None

abbrev pub items_at : Taking → Aim → Option ℕ
items_at by aim = items_of_shape (judged_by by.types.table (list tt no_parts) aim.type)

-- An item may be the node that stands at its index. No node stands at its own place in a list within a list.
abbrev pub item_aim : Answer → ℕ → List Labelled → Aim
item_aim (several xs) t held = record { type = t; held = None }
item_aim x t held = record { type = t; held = slice_get held 0 }

-- The first node that isn't taken: it is dead, or it is alive and stands neither at a reference nor at its own place.

abbrev pub has_number : NodeNo → Option Label → Bool
has_number n (Some l) = nat_eq l.number n.0
has_number n None = false

abbrev pub stands_there : NodeNo → Option Labelled → Bool
stands_there n (Some x) = has_number n (label_of x)
stands_there n None = false

abbrev pub unless_taken : Bool → Option Rule
unless_taken taken = if taken then None else Some Rule.Alive

-- a node is taken at a reference, and where it stands now
abbrev pub node_fault : Taking → NodeNo → Aim → Option Rule
node_fault by n aim =
    if is_none (node_of n.0 by.root) then Some Rule.Dead else unless_taken (is_some (model_at by aim) || stands_there n aim.held)

abbrev pub or_later : Option Rule → Option Rule → Option Rule
or_later (Some rule) later = Some rule
or_later None later = later

abbrev mutual
  pub fault_in : Taking → Answer → Aim → Option Rule
  fault_in by (plain v) aim = None
  fault_in by (node n) aim = node_fault by n aim
  fault_in by (several xs) aim = option_and_then (λ t. fault_among by xs t (items_under aim.held)) (items_at by aim)

  pub fault_among : Taking → AnswerList → ℕ → List Labelled → Option Rule
  fault_among by no_answers t held = None
  fault_among by (answer x xs) t held = or_later (fault_in by x (item_aim x t held)) (fault_among by xs t (drop 1 held))

-- What the type makes of an answer whose nodes are taken, the limits of the whole aside.

-- the snapshot of a node
abbrev pub node_value : Taking → NodeNo → Value
node_value by n = unwrap_or (option_map bare (node_of n.0 by.root)) null

-- a node of the model that the references lead to, as its identifier; any other isn't of the type
abbrev pub identifier_made : Taking → NodeNo → ModelNo → Outcome Value
identifier_made by n m =
    if is_kind (kind_at n.0 by.root) (Model m)
    then Ok (ident_value (identifier_in ((typing_of by.types.table).identifier_of m) (node_value by n)))
    else mistyped

-- at a reference by the identifier, and elsewhere by the snapshot
abbrev pub node_made : Taking → NodeNo → Option ModelNo → Outcome Value
node_made by n (Some m) = identifier_made by n m
node_made by n None = Ok (node_value by n)

-- What a type makes of a plain value in a list. Limits are judged of the whole, which is made once more where it is
-- written: a part that is too large by itself is taken as it is given.
abbrev pub is_large : Rule → Bool
is_large Rule.Large = true
is_large rule = false

abbrev pub unless_large : Value → Outcome Value → Outcome Value
unless_large v (Ok made) = Ok made
unless_large v (Err e) = if is_large e.rule then Ok v else Err e

abbrev pub plain_made : Taking → Value → ℕ → Outcome Value
plain_made by v t = unless_large v (making by.types t (Some v))

abbrev pub items_taken : List Maker → Option ℕ → Outcome Value
items_taken makers (Some t) = list_of (items_made 0 t makers)
items_taken makers None = mistyped

-- several answers are a plain list where no node stands in them, and are otherwise taken item by item
abbrev pub list_taken : Taking → Aim → List Maker → Option Items → Outcome Value
list_taken by aim makers (Some ps) = plain_made by (list tt ps) aim.type
list_taken by aim makers None = items_taken makers (items_at by aim)

abbrev mutual
  pub answer_made : Taking → Answer → Aim → Outcome Value
  answer_made by (plain v) aim = plain_made by v aim.type
  answer_made by (node n) aim = node_made by n (model_at by aim)
  answer_made by (several xs) aim = list_taken by aim (answers_made by xs (items_under aim.held)) (plains_in xs)

  -- the items, each beside what stands at its index
  pub answers_made : Taking → AnswerList → List Labelled → List Maker
  answers_made by no_answers held = []
  answers_made by (answer x xs) held = (λ t. answer_made by x (item_aim x t held)) ∷ answers_made by xs (drop 1 held)
