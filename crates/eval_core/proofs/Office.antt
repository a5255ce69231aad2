-- An office with users and todos, and its views, for examples.
use Rattle.std.proofs.Common.{ℕ, List, [], ◌∷◌, Bool, true, false, Option, Some, None, pos}
use Rattle.std.specs.Prelude.{codes, ◌==◌, if◌then◌else◌}
use Rattle.std.specs.Str.{bytes_eq}
use Rattle.snap_core.specs.Value.{Value, null, boolean, integer, text, list, dict, no_parts, part, no_members, member, Items, Fields}
use Rattle.snap_core.specs.declared.number.ModelNo.{ModelNo}
use Rattle.snap_core.specs.declared.number.NodeNo.{NodeNo}
use Rattle.edit_core.specs.declared.kind.Kind.{Kind}
use Rattle.edit_core.specs.declared.kind.Kind.TheVariants.{Model, Array, Map}
use Rattle.edit_core.specs.Labelled.{Labelled}
use Rattle.edit_core.specs.Typing.{Typing}
use Rattle.edit_core.specs.Matching.{by_first}
use Rattle.edit_core.specs.Template.{template, numbered}
use Rattle.expr_syntax.specs.declared.number.ViewNo.{ViewNo}
use Rattle.expr_syntax.specs.declared.op.Op.TheVariants.{Add, Eq, Size, Not}
use Rattle.expr_syntax.specs.Syntax.{Expression, filter, constant, variable, own, get, one_sided, two_sided, walk, choice}
use Rattle.eval_core.specs.Sight.{Sight}
use Rattle.eval_core.specs.Scope.{Viewing, Member, property, view}
use Rattle.eval_core.specs.Seen.{Seeing, Target, sight_of}

-- The types: 0 an office, 1 an array of todos, 2 a map of users, 3 a todo, 4 a user, 5 an array of safe references
-- to users, 6 a safe reference to a user, 7 a reference to a user or null, 8 a safe reference to a todo, and any
-- other of scalars.
abbrev pub model : ℕ → ModelNo
model m = record { 0 = m }

abbrev pub number : ℕ → NodeNo
number n = record { 0 = n }

abbrev pub view_no : ℕ → ViewNo
view_no v = record { 0 = v }

abbrev array_of : ℕ → Kind
array_of t = Array (record { 0 = t })

abbrev map_of : ℕ → Kind
map_of t = Map (record { 0 = t })

abbrev kind_at : ℕ → Option Kind
kind_at t =
    if t == 0 then Some (Model (model 0))
    else if t == 1 then Some (array_of 3)
    else if t == 2 then Some (map_of 4)
    else if t == 3 then Some (Model (model 1))
    else if t == 4 then Some (Model (model 2))
    else if t == 5 then Some (array_of 6)
    else None

abbrev property_type : ℕ → List ℕ → ℕ
property_type m key =
    if bytes_eq key (codes "todos") then 1
    else if bytes_eq key (codes "users") then 2
    else if bytes_eq key (codes "team") then 5
    else if bytes_eq key (codes "owner") then 6
    else if bytes_eq key (codes "boss") then 7
    else if bytes_eq key (codes "focus") then 8
    else 9

abbrev part_type : Kind → List ℕ → ℕ
part_type (Model m) key = property_type m.0 key
part_type (Array t) key = t.0
part_type (Map t) key = t.0

abbrev pub typing : Typing
typing = record {
  kind_of = λ t v. kind_at t;
  type_under = part_type;
  identifier_of = λ m. if m.0 == 0 then None else Some (codes "id");
}

abbrev target_of : ℕ → Option Target
target_of t =
    if t == 6 then Some (record { safe = true; model = model 2 })
    else if t == 7 then Some (record { safe = false; model = model 2 })
    else if t == 8 then Some (record { safe = true; model = model 1 })
    else None

abbrev pub seeing : Seeing
seeing = record { typing = typing; target_of = target_of }

-- how many users stand above a user
unfoldable pub height_body : Expression
height_body = choice (two_sided Eq (own (codes "boss")) (constant null)) (constant (integer (pos 0)))
    (two_sided Add (constant (integer (pos 1))) (get (own (codes "boss")) (codes "height")))

-- how many todos aren't done
unfoldable pub pending_body : Expression
pending_body = one_sided Size (walk filter (own (codes "todos")) (codes "t") (one_sided Not (get (variable (codes "t")) (codes "done"))))

unfoldable pub focused_body : Expression
focused_body = own (codes "focus")

-- the views: 0 height, 1 pending, 2 focused
abbrev member_named : List ℕ → Option Member
member_named name =
    if bytes_eq name (codes "height") then Some (view (view_no 0))
    else if bytes_eq name (codes "pending") then Some (view (view_no 1))
    else if bytes_eq name (codes "focused") then Some (view (view_no 2))
    else Some property

abbrev body_at : ℕ → Expression
body_at v = if v == 0 then height_body else if v == 1 then pending_body else focused_body

abbrev pub viewing : Viewing
viewing = record { member_of = λ m name. member_named name; body_of = λ v. body_at v.0 }

unfoldable pub todo : List ℕ → Bool → Value → Value
todo id done owner = dict tt (member (codes "done") (boolean done) (member (codes "id") (text id) (member (codes "owner") owner (member (codes "title") (text id) no_members))))

unfoldable pub user : List ℕ → Value → Value
user id boss = dict tt (member (codes "boss") boss (member (codes "id") (text id) (member (codes "name") (text id) no_members)))

abbrev pub items : List Value → Items
items [] = no_parts
items (v ∷ vs) = part v (items vs)

unfoldable pub office : Value → List Value → Fields → Value
office focus todos users = dict tt (member (codes "count") (integer (pos 0)) (member (codes "focus") focus (member (codes "team") (list tt no_parts)
    (member (codes "todos") (list tt (items todos)) (member (codes "users") (dict tt users) no_members)))))

-- a document with its nodes numbered in document order, and what is seen of it
abbrev pub labelled : Value → Labelled
labelled v = numbered 0 (template (by_first typing) 0 None v)

abbrev pub sight : Value → Sight
sight v = sight_of seeing (labelled v)
