-- The types and values of an office with todos and users, for examples.
use Rattle.std.proofs.Common.{ℕ, List, [], ◌∷◌, false, None, pos}
use Rattle.std.specs.Prelude.{codes}
use Rattle.snap_core.specs.Value.{Value, null, boolean, integer, text, list, dict, no_parts, part, no_members, member, Items, Fields}
use Rattle.snap_core.specs.declared.number.TypeNo.{TypeNo}
use Rattle.snap_core.specs.declared.number.ModelNo.{ModelNo}
use Rattle.type_table.specs.declared.shape.Shape.{Shape}
use Rattle.type_table.specs.declared.shape.Shape.TheVariants as shape
use Rattle.type_table.specs.declared.shape.Property.{Property}
use Rattle.type_table.specs.declared.shape.ModelType.{ModelType}
use Rattle.type_table.specs.Table.{Catalog}
use Rattle.edit_core.specs.Template.{template, numbered, new_count}
use Rattle.edit_core.specs.Matching.{by_first}
use Rattle.tree_core.specs.TypesTyping.{typing_of, root_type}
use Rattle.tree_core.specs.Writing.{Tree}

abbrev pub type : ℕ → TypeNo
type t = record { 0 = t }

abbrev pub model_no : ℕ → ModelNo
model_no m = record { 0 = m }

abbrev property : List ℕ → ℕ → Property
property name t = record { name = name; of = type t }

abbrev shapes : List Shape
shapes =
    shape.Str ∷ shape.Integer ∷ shape.Boolean ∷ shape.Identifier
    ∷ shape.Model (model_no 0) ∷ shape.Model (model_no 1) ∷ shape.Model (model_no 2)
    ∷ shape.Reference (type 4) ∷ shape.Maybe (type 7)
    ∷ shape.Boolean ∷ shape.Safe (type 4)
    ∷ shape.Str
    ∷ shape.Integer ∷ shape.Safe (type 5)
    ∷ shape.Safe (type 4) ∷ shape.Array (type 14) ∷ shape.Array (type 5) ∷ shape.Map (type 4) ∷ []

abbrev models : List ModelType
models =
    record { name = codes "User"; properties = property (codes "boss") 8 ∷ property (codes "id") 3 ∷ property (codes "name") 0 ∷ []; own = type 4 }
    ∷ record { name = codes "Todo"; properties = property (codes "done") 9 ∷ property (codes "id") 3 ∷ property (codes "owner") 10 ∷ property (codes "title") 11 ∷ []; own = type 5 }
    ∷ record { name = codes "Office"; properties = property (codes "count") 12 ∷ property (codes "focus") 13 ∷ property (codes "team") 15 ∷ property (codes "todos") 16 ∷ property (codes "users") 17 ∷ []; own = type 6 }
    ∷ []

abbrev pub types : Catalog
types = record { table = record { shapes = shapes; models = models }; root = model_no 2; defaults = [] }

abbrev pub todo : List ℕ → Value → List ℕ → Value
todo id owner title = dict tt (member (codes "done") (boolean false) (member (codes "id") (text id) (member (codes "owner") owner (member (codes "title") (text title) no_members))))

abbrev pub user : List ℕ → List ℕ → Value
user id name = dict tt (member (codes "boss") null (member (codes "id") (text id) (member (codes "name") (text name) no_members)))

abbrev pub items : List Value → Items
items [] = no_parts
items (v ∷ vs) = part v (items vs)

abbrev pub office : List Value → List Value → Fields → Value
office team todos users = dict tt (member (codes "count") (integer (pos 0)) (member (codes "focus") null (member (codes "team") (list tt (items team))
    (member (codes "todos") (list tt (items todos)) (member (codes "users") (dict tt users) no_members)))))

-- a new document
abbrev pub tree_of : Value → Tree
tree_of v =
    let new = template (by_first (typing_of types.table)) (root_type types) None v in
    record { root = numbered 0 new; next = new_count new }
