-- Writes, computed on examples.
use Rattle.std.proofs.Common.{◌≡◌, ℕ, List, [], ◌∷◌, ◌++◌, map, false, None, Ok, Err, pos, decimal, refl}
use Rattle.std.specs.Prelude.{codes}
use Rattle.snap_core.specs.Value.{Value, null, boolean, integer, text, list, dict, no_members, member, Fields}
use Rattle.snap_core.specs.declared.number.NodeNo.{NodeNo}
use Rattle.pointer_core.specs.declared.refusal.Rule.TheVariants as rule
use Rattle.patch_core.specs.declared.patch.Patch.{Patch}
use Rattle.type_core.specs.Making.{Outcome}
use Rattle.edit_core.specs.Rules.{added, removed, replaced}
use Rattle.edit_core.specs.Logged.{patch_of_logged}
use Rattle.tree_core.specs.declared.place.Place.{Place}
use Rattle.tree_core.specs.declared.place.Place.TheVariants.{Whole, Prop, Item, Key}
use Rattle.tree_core.specs.Write.{Write, set, insert, remove}
use Rattle.tree_core.specs.Outcome.{◌>>=◌, refuse}
use Rattle.tree_core.specs.Changed.{Changed}
use Rattle.tree_core.specs.Writing.{Tree, written}
use Rattle.tree_core.specs.Settling.{settled}
use Rattle.tree_core.proofs.Office.{types, todo, user, items, office, tree_of}

abbrev node : ℕ → NodeNo
node n = record { 0 = n }

abbrev patches : Outcome Changed → Outcome (List Patch)
patches (Ok c) = Ok (map patch_of_logged c.edits)
patches (Err e) = Err e

abbrev on_root : Place → Write → Tree → Outcome Changed
on_root place write tree = written types (record { running = node 0 ∷ []; place = place; named = None }) write tree

abbrev ann : Fields
ann = member (codes "u1") (user (codes "u1") (codes "Ann")) no_members

abbrev call : List ℕ → Value
call title = todo (codes "t1") (text (codes "u1")) title

abbrev post : Value
post = todo (codes "t2") null (codes "Post")

-- A snapshot is applied to the root: what is absent is made, two todos change places and one its title.
abbrev short_post : Value
short_post = dict tt (member (codes "done") (boolean false) (member (codes "id") (text (codes "t2")) (member (codes "title") (text (codes "Post")) no_members)))

abbrev given : Value
given = dict tt (member (codes "count") (integer (pos 0)) (member (codes "todos") (list tt (items (short_post ∷ call (codes "Call Bob") ∷ []))) (member (codes "users") (dict tt ann) no_members)))

exchanged : patches (on_root (Whole (node 0)) (set given) (tree_of (office [] (call (codes "Call") ∷ post ∷ []) ann)))
    ≡ Ok (replaced (codes "todos" ∷ decimal 0 ∷ codes "title" ∷ []) (text (codes "Call")) (text (codes "Call Bob"))
    ∷ removed (codes "todos" ∷ decimal 1 ∷ []) post
    ∷ removed (codes "todos" ∷ decimal 0 ∷ []) (call (codes "Call Bob"))
    ∷ added (codes "todos" ∷ decimal 0 ∷ []) post
    ∷ added (codes "todos" ∷ decimal 1 ∷ []) (call (codes "Call Bob"))
    ∷ [])
exchanged = refl

-- the same snapshot once more changes nothing
again : patches (do
  first ← on_root (Whole (node 0)) (set given) (tree_of (office [] (call (codes "Call") ∷ post ∷ []) ann))
  on_root (Whole (node 0)) (set given) (record { root = first.value; next = first.next })) ≡ Ok []
again = refl

-- A user goes, and then the safe references that led to it: from the team's last, and the todo's owner.
abbrev pair : Fields
pair = member (codes "u1") (user (codes "u1") (codes "Ann")) (member (codes "u2") (user (codes "u2") (codes "Bea")) no_members)

abbrev full : Tree
full = tree_of (office (text (codes "u1") ∷ text (codes "u2") ∷ text (codes "u1") ∷ []) (call (codes "Call") ∷ []) pair)

dropped : patches (do
  first ← on_root (Key (node 4) (codes "u1")) remove full
  let second : Changed = settled types (record { root = first.value; next = first.next })
  Ok (record { value = second.value; edits = first.edits ++ second.edits; next = second.next }))
    ≡ Ok (removed (codes "users" ∷ codes "u1" ∷ []) (user (codes "u1") (codes "Ann"))
    ∷ removed (codes "team" ∷ decimal 2 ∷ []) (text (codes "u1"))
    ∷ removed (codes "team" ∷ decimal 0 ∷ []) (text (codes "u1"))
    ∷ replaced (codes "todos" ∷ decimal 0 ∷ codes "owner" ∷ []) (text (codes "u1")) null
    ∷ [])
dropped = refl

-- The first rule that isn't met, and its place.
abbrev one_todo : Tree
one_todo = tree_of (office [] (call (codes "Call") ∷ []) ann)

abbrev on_nobody : Place → Write → Tree → Outcome Changed
on_nobody place write tree = written types (record { running = []; place = place; named = None }) write tree

dead : on_nobody (Whole (node 9)) remove one_todo ≡ refuse [] rule.Dead
dead = refl

protected : on_nobody (Prop (node 3) (codes "none")) remove one_todo ≡ refuse (codes "todos" ∷ decimal 0 ∷ codes "none" ∷ []) rule.Protected
protected = refl

of_kind : on_root (Item (node 3) 0) remove one_todo ≡ refuse [] rule.Kind
of_kind = refl

no_path : on_root (Prop (node 3) (codes "none")) remove one_todo ≡ refuse (codes "todos" ∷ decimal 0 ∷ codes "none" ∷ []) rule.Path
no_path = refl

no_operation : on_root (Prop (node 3) (codes "title")) remove one_todo ≡ refuse (codes "todos" ∷ decimal 0 ∷ codes "title" ∷ []) rule.Operation
no_operation = refl

no_index : on_root (Item (node 2) 1) remove one_todo ≡ refuse (codes "todos" ∷ decimal 1 ∷ []) rule.Index
no_index = refl

-- an identifier is fixed before its value is typed
fixed : on_root (Prop (node 3) (codes "id")) (set null) one_todo ≡ refuse (codes "todos" ∷ decimal 0 ∷ codes "id" ∷ []) rule.Fixed
fixed = refl

fixed_whole : on_root (Whole (node 3)) (set (todo (codes "t9") null (codes "Call"))) one_todo ≡ refuse (codes "todos" ∷ decimal 0 ∷ codes "id" ∷ []) rule.Fixed
fixed_whole = refl

mistyped : on_root (Prop (node 3) (codes "title")) (set null) one_todo ≡ refuse (codes "todos" ∷ decimal 0 ∷ codes "title" ∷ []) rule.Mistyped
mistyped = refl

other_key : on_root (Key (node 4) (codes "u2")) (set (user (codes "u1") (codes "Ann"))) one_todo ≡ refuse (codes "users" ∷ codes "u2" ∷ []) rule.Key
other_key = refl

doubled : on_root (Item (node 2) 0) (insert (call (codes "Call"))) one_todo ≡ refuse (codes "todos" ∷ decimal 1 ∷ []) rule.Identifier
doubled = refl

-- what is new is numbered from the next one on
drawn : patches (on_root (Item (node 2) 1) (insert post) one_todo) ≡ Ok (added (codes "todos" ∷ decimal 1 ∷ []) post ∷ [])
drawn = refl
