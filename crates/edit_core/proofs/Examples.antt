-- Reconciling, computed on examples: an office with todos and users.
use Rattle.std.proofs.Common.{◌≡◌, ℕ, List, [], ◌∷◌, map, false, Option, Some, None, pos, decimal, refl}
use Rattle.std.specs.Prelude.{codes, ◌==◌, if◌then◌else◌}
use Rattle.std.specs.Str.{bytes_eq}
use Rattle.snap_core.specs.Value.{Value, null, boolean, integer, text, list, dict, no_parts, part, no_members, member, Items, Fields}
use Rattle.snap_core.specs.Unview.{snap_of}
use Rattle.pointer_core.specs.Path.{Path}
use Rattle.patch_core.specs.declared.patch.Patch.{Patch}
use Rattle.patch_core.specs.declared.patch.PatchOp.TheVariants.{Add, Replace, Remove}
use Rattle.edit_core.specs.declared.kind.Kind.{Kind}
use Rattle.edit_core.specs.declared.kind.Kind.TheVariants.{Model, Array, Map}
use Rattle.edit_core.specs.Labelled.{Labelled, many, keyed, entry, items_in}
use Rattle.edit_core.specs.Typing.{Typing}
use Rattle.edit_core.specs.Matching.{by_first}
use Rattle.edit_core.specs.Template.{template, numbered}
use Rattle.edit_core.specs.Plain.{patch_of}
use Rattle.edit_core.specs.Reconciling.{Written, reconciled}

-- The types: 0 an office, 1 an array of todos, 2 a map of users, 3 a todo, 4 a user, 5 an array of texts, and
-- any other of scalars.
abbrev model : ℕ → Kind
model m = Model (record { 0 = m })

abbrev array_of : ℕ → Kind
array_of t = Array (record { 0 = t })

abbrev map_of : ℕ → Kind
map_of t = Map (record { 0 = t })

abbrev kind_at : ℕ → Option Kind
kind_at t =
    if t == 0 then Some (model 0)
    else if t == 1 then Some (array_of 3)
    else if t == 2 then Some (map_of 4)
    else if t == 3 then Some (model 1)
    else if t == 4 then Some (model 2)
    else if t == 5 then Some (array_of 9)
    else None

abbrev property_type : ℕ → List ℕ → ℕ
property_type m key =
    if bytes_eq key (codes "todos") then 1
    else if bytes_eq key (codes "users") then 2
    else if bytes_eq key (codes "team") then 5
    else 9

abbrev part_type : Kind → List ℕ → ℕ
part_type (Model m) key = property_type m.0 key
part_type (Array t) key = t.0
part_type (Map t) key = t.0

abbrev typing : Typing
typing = record {
  kind_of = λ t v. kind_at t;
  type_under = part_type;
  identifier_of = λ m. if m.0 == 0 then None else Some (codes "id");
}

todo : List ℕ → Value → List ℕ → Value
todo id owner title = dict tt (member (codes "done") (boolean false) (member (codes "id") (text id) (member (codes "owner") owner (member (codes "title") (text title) no_members))))

user : List ℕ → List ℕ → Value
user id name = dict tt (member (codes "boss") null (member (codes "id") (text id) (member (codes "name") (text name) no_members)))

abbrev items : List Value → Items
items [] = no_parts
items (v ∷ vs) = part v (items vs)

office : List Value → Fields → Value
office todos users = dict tt (member (codes "count") (integer (pos 0)) (member (codes "focus") null (member (codes "team") (list tt no_parts)
    (member (codes "todos") (list tt (items todos)) (member (codes "users") (dict tt users) no_members)))))

-- a new document, with its nodes numbered in document order
abbrev labelled : Value → Labelled
labelled v = numbered 0 (template (by_first typing) 0 None v)

abbrev after : ℕ → Value → Value → Written
after next old new = reconciled (by_first typing) (record { type = 0; old = labelled old; new = new; next = next })

abbrev patches : Written → List Patch
patches w = map patch_of w.edits

added : Path → Value → Patch
added path v = record { op = Add; path = path; value = Some (snap_of v); old = None }

removed : Path → Value → Patch
removed path v = record { op = Remove; path = path; value = None; old = Some (snap_of v) }

replaced : Path → Value → Value → Patch
replaced path old new = record { op = Replace; path = path; value = Some (snap_of new); old = Some (snap_of old) }

abbrev ann : Fields
ann = member (codes "u1") (user (codes "u1") (codes "Ann")) no_members

-- Two todos change places and one its title: it is after_edit where it stands, then both are removed, the last one
-- first, and added in their new order.
call : List ℕ → Value
call title = todo (codes "t1") (text (codes "u1")) title

post : Value
post = todo (codes "t2") null (codes "Post")

exchanged : Written
exchanged = after 7 (office (call (codes "Call") ∷ post ∷ []) ann) (office (post ∷ call (codes "Call Bob") ∷ []) ann)

exchanged-patches : patches exchanged
    ≡ replaced (codes "todos" ∷ decimal 0 ∷ codes "title" ∷ []) (text (codes "Call")) (text (codes "Call Bob"))
    ∷ removed (codes "todos" ∷ decimal 1 ∷ []) post
    ∷ removed (codes "todos" ∷ decimal 0 ∷ []) (call (codes "Call Bob"))
    ∷ added (codes "todos" ∷ decimal 0 ∷ []) post
    ∷ added (codes "todos" ∷ decimal 1 ∷ []) (call (codes "Call Bob"))
    ∷ []
unfolding exchanged call post todo user office added removed replaced
exchanged-patches = refl

-- no number is drawn, and each todo keeps its own
abbrev todo_numbers : Labelled → List ℕ
todo_numbers (keyed l (entry c x (entry f y (entry t z (entry d (many k bs) es))))) = map number_in (items_in bs) where
  number_in : Labelled → ℕ
  number_in (keyed m fs) = m.number
  number_in x = 0
todo_numbers x = []

exchanged-numbers : (exchanged.next ∷ todo_numbers exchanged.value) ≡ 7 ∷ 4 ∷ 3 ∷ []
unfolding exchanged call post todo user office
exchanged-numbers = refl

-- an equal value changes nothing
unchanged : Written
unchanged = after 7 (office (call (codes "Call") ∷ post ∷ []) ann) (office (call (codes "Call") ∷ post ∷ []) ann)

unchanged-patches : patches unchanged ≡ []
unfolding unchanged call post todo user office
unchanged-patches = refl

-- where the todos are the same at each index, they are after_edit there
retitled : Written
retitled = after 7 (office (call (codes "Call") ∷ post ∷ []) ann) (office (call (codes "Call Bob") ∷ post ∷ []) ann)

retitled-patches : patches retitled ≡ replaced (codes "todos" ∷ decimal 0 ∷ codes "title" ∷ []) (text (codes "Call")) (text (codes "Call Bob")) ∷ []
unfolding retitled call post todo user office replaced
retitled-patches = refl

-- one todo more: the array is written anew, and the new todo alone draws a number
grown : Written
grown = after 6 (office (post ∷ []) ann) (office (call (codes "Call") ∷ post ∷ []) ann)

grown-patches : patches grown
    ≡ removed (codes "todos" ∷ decimal 0 ∷ []) post
    ∷ added (codes "todos" ∷ decimal 0 ∷ []) (call (codes "Call"))
    ∷ added (codes "todos" ∷ decimal 1 ∷ []) post
    ∷ []
unfolding grown call post todo user office added removed
grown-patches = refl

grown-numbers : (grown.next ∷ todo_numbers grown.value) ≡ 7 ∷ 6 ∷ 3 ∷ []
unfolding grown call post todo user office
grown-numbers = refl

-- in a map: what is held is after_edit and what is new is added, by ascending keys, and then the others are removed
users : Written
users = after 6
    (office [] (member (codes "u1") (user (codes "u1") (codes "Ann")) (member (codes "u2") (user (codes "u2") (codes "Bea")) no_members)))
    (office [] (member (codes "u0") (user (codes "u0") (codes "Cy")) (member (codes "u1") (user (codes "u1") (codes "Anna")) no_members)))

users-patches : patches users
    ≡ added (codes "users" ∷ codes "u0" ∷ []) (user (codes "u0") (codes "Cy"))
    ∷ replaced (codes "users" ∷ codes "u1" ∷ codes "name" ∷ []) (text (codes "Ann")) (text (codes "Anna"))
    ∷ removed (codes "users" ∷ codes "u2" ∷ []) (user (codes "u2") (codes "Bea"))
    ∷ []
unfolding users user office added removed replaced
users-patches = refl

-- another identifier makes another node: one patch replaces it
renamed : Written
renamed = after 5 (office [] ann) (office [] (member (codes "u1") (user (codes "u9") (codes "Ann")) no_members))

renamed-patches : patches renamed ≡ replaced (codes "users" ∷ codes "u1" ∷ []) (user (codes "u1") (codes "Ann")) (user (codes "u9") (codes "Ann")) ∷ []
unfolding renamed user office replaced
renamed-patches = refl
