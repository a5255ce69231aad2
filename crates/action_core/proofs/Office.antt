-- The types and values of an office with todos and users, for examples.
use Rattle.std.proofs.Common.{ℕ, List, [], ◌∷◌, false, pos}
use Rattle.std.specs.Prelude.{codes}
use Rattle.snap_core.specs.Value.{Value, null, boolean, integer, text, list, dict, no_parts, part, no_members, member, Items, Fields}
use Rattle.snap_core.specs.declared.number.TypeNo.{TypeNo}
use Rattle.snap_core.specs.declared.number.ModelNo.{ModelNo}
use Rattle.snap_core.specs.declared.number.NodeNo.{NodeNo}
use Rattle.type_table.specs.declared.shape.Shape.{Shape}
use Rattle.type_table.specs.declared.shape.Shape.TheVariants as shape
use Rattle.type_table.specs.declared.shape.Property.{Property}
use Rattle.type_table.specs.declared.shape.ModelType.{ModelType}
use Rattle.type_table.specs.Table.{Catalog}
use Rattle.tree_core.specs.Recorded.{new_tree}
use Rattle.tree_core.specs.Writing.{Tree}

abbrev pub type : ℕ → TypeNo
type t = record { 0 = t }

abbrev pub model_no : ℕ → ModelNo
model_no m = record { 0 = m }

abbrev pub number : ℕ → NodeNo
number n = record { 0 = n }

abbrev property : List ℕ → ℕ → Property
property name t = record { name = name; of = type t }

-- 0 a text, 1 an integer, 2 a truth, 3 an identifier, 4 a user, 5 a todo, 6 an office, 7 a reference to a user, 8 one
-- or null, 9 and 10 safe references to a user and to a todo, 11 and 12 the team, 13 the todos, 14 the users, 15 any value
abbrev shapes : List Shape
shapes =
    shape.Str ∷ shape.Integer ∷ shape.Boolean ∷ shape.Identifier
    ∷ shape.Model (model_no 0) ∷ shape.Model (model_no 1) ∷ shape.Model (model_no 2)
    ∷ shape.Reference (type 4) ∷ shape.Maybe (type 7) ∷ shape.Safe (type 4) ∷ shape.Safe (type 5)
    ∷ shape.Safe (type 4) ∷ shape.Array (type 11) ∷ shape.Array (type 5) ∷ shape.Map (type 4) ∷ shape.Frozen ∷ []

abbrev models : List ModelType
models =
    record { name = codes "User"; properties = property (codes "boss") 8 ∷ property (codes "id") 3 ∷ property (codes "name") 0 ∷ []; own = type 4 }
    ∷ record { name = codes "Todo"; properties = property (codes "done") 2 ∷ property (codes "id") 3 ∷ property (codes "note") 15 ∷ property (codes "owner") 9 ∷ property (codes "title") 0 ∷ []; own = type 5 }
    ∷ record { name = codes "Office"; properties = property (codes "count") 1 ∷ property (codes "focus") 10 ∷ property (codes "team") 12 ∷ property (codes "todos") 13 ∷ property (codes "users") 14 ∷ []; own = type 6 }
    ∷ []

abbrev pub types : Catalog
types = record { table = record { shapes = shapes; models = models }; root = model_no 2; defaults = [] }

abbrev pub todo : List ℕ → Value → List ℕ → Value
todo id owner title = dict tt (member (codes "done") (boolean false) (member (codes "id") (text id) (member (codes "note") null (member (codes "owner") owner (member (codes "title") (text title) no_members)))))

abbrev pub user : List ℕ → List ℕ → Value
user id name = dict tt (member (codes "boss") null (member (codes "id") (text id) (member (codes "name") (text name) no_members)))

abbrev pub items : List Value → Items
items [] = no_parts
items (v ∷ vs) = part v (items vs)

abbrev pub office : Value → List Value → List Value → Fields → Value
office focus team todos users = dict tt (member (codes "count") (integer (pos 0)) (member (codes "focus") focus (member (codes "team") (list tt (items team))
    (member (codes "todos") (list tt (items todos)) (member (codes "users") (dict tt users) no_members)))))

-- a todo to call, of the user u1, and one to post, of nobody
abbrev pub call : Value
call = todo (codes "t1") (text (codes "u1")) (codes "Call")

abbrev pub post : Value
post = todo (codes "t2") null (codes "Post")

abbrev pub ann : Fields
ann = member (codes "u1") (user (codes "u1") (codes "Ann")) no_members

-- An office with one todo and one user: its nodes are 0 the office, 1 the team, 2 the todos, 3 the todo, 4 the users
-- and 5 the user. With two todos they are 3 and 4, and the users and the user 5 and 6.
abbrev pub one_todo : Tree
one_todo = new_tree types (office null [] (call ∷ []) ann)

abbrev pub two_todos : Tree
two_todos = new_tree types (office null [] (call ∷ post ∷ []) ann)

abbrev pub in_focus : Tree
in_focus = new_tree types (office (text (codes "t1")) [] (call ∷ []) ann)
