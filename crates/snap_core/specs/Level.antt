-- One level of a value: its parts by where they stand, and what setting, inserting and removing one leaves.
use Rattle.std.specs.Prelude.{◌≡◌, ℕ, zero, suc, ◌≤◌, List, Option, Some, None, if◌then◌else◌}
use Rattle.std.specs.Ordering.{nat_cmp, is_lt}
use Rattle.std.specs.Cmp.Lexicographic.{slice_cmp}
use Rattle.std.specs.Str.{bytes_eq}
use Rattle.snap_core.specs.Value.{Tree, TreeItems, TreeFields, list, dict, no_parts, part, no_members, member, value_at}

-- where a part stands in its list or record: an item by its index, a field by its key
pub data Step : Type 0 where
  at_index : ℕ → Step
  at_key : List ℕ → Step

-- how many items there are
abbrev pub count_of : {A : Type 0} → TreeItems A → ℕ
count_of no_parts = 0
count_of (part v ps) = suc (count_of ps)

abbrev pub item_at : {A : Type 0} → ℕ → TreeItems A → Option (Tree A)
item_at i no_parts = None
item_at zero (part v ps) = Some v
item_at (suc i) (part v ps) = item_at i ps

-- the items with another one in the place of that at an index
abbrev pub set_item : {A : Type 0} → ℕ → Tree A → TreeItems A → TreeItems A
set_item i v no_parts = no_parts
set_item zero v (part w ps) = part v ps
set_item (suc i) v (part w ps) = part w (set_item i v ps)

-- the items with one more, before that at an index; past their end none is put in
abbrev pub insert_item : {A : Type 0} → ℕ → Tree A → TreeItems A → TreeItems A
insert_item zero v ps = part v ps
insert_item (suc i) v no_parts = no_parts
insert_item (suc i) v (part w ps) = part w (insert_item i v ps)

-- the items without that at an index
abbrev pub remove_item : {A : Type 0} → ℕ → TreeItems A → TreeItems A
remove_item i no_parts = no_parts
remove_item zero (part w ps) = ps
remove_item (suc i) (part w ps) = part w (remove_item i ps)

-- the fields with another value under a key
abbrev pub set_field : {A : Type 0} → List ℕ → Tree A → TreeFields A → TreeFields A
set_field key v no_members = no_members
set_field key v (member k w ms) = if bytes_eq key k then member k v ms else member k w (set_field key v ms)

-- the fields with one more, before the first whose key comes after its key
abbrev pub insert_field : {A : Type 0} → List ℕ → Tree A → TreeFields A → TreeFields A
insert_field key v no_members = member key v no_members
insert_field key v (member k w ms) =
    if is_lt (slice_cmp nat_cmp key k) then member key v (member k w ms) else member k w (insert_field key v ms)

-- the fields without that under a key
abbrev pub remove_field : {A : Type 0} → List ℕ → TreeFields A → TreeFields A
remove_field key no_members = no_members
remove_field key (member k w ms) = if bytes_eq key k then ms else member k w (remove_field key ms)

-- the part at a step, where there is one
abbrev pub child : {A : Type 0} → Step → Tree A → Option (Tree A)
child (at_index i) (list a ps) = item_at i ps
child (at_key key) (dict a ms) = value_at key ms
child _ _ = None

-- the value with another part at a step
abbrev pub set_child : {A : Type 0} → Step → Tree A → Tree A → Tree A
set_child (at_index i) v (list a ps) = list a (set_item i v ps)
set_child (at_key key) v (dict a ms) = dict a (set_field key v ms)
set_child _ v t = t

-- one more part can stand at a step: an index up to the length, or a key that isn't held
abbrev pub CanInsert : {A : Type 0} → Step → Tree A → Type 0
CanInsert (at_index i) (list a ps) = i ≤ count_of ps
CanInsert (at_key key) (dict a ms) = value_at key ms ≡ None
CanInsert _ _ = ⊥

-- the value with one more part at a step
abbrev pub insert_child : {A : Type 0} → Step → Tree A → Tree A → Tree A
insert_child (at_index i) v (list a ps) = list a (insert_item i v ps)
insert_child (at_key key) v (dict a ms) = dict a (insert_field key v ms)
insert_child _ v t = t

-- the value without the part at a step
abbrev pub remove_child : {A : Type 0} → Step → Tree A → Tree A
remove_child (at_index i) (list a ps) = list a (remove_item i ps)
remove_child (at_key key) (dict a ms) = dict a (remove_field key ms)
remove_child _ t = t
