-- One level of a value: what stands at a step after setting, inserting and removing a part there, and how each is undone.
use Rattle.std.proofs.Common.{◌≡◌, ℕ, zero, suc, ◌≤◌, ◌<◌, List, ◌∷◌, true, false, Some, None, refl, sym, ◌∙◌, ap, subst, arith}
use Rattle.std.specs.declared.cmp.Ordering.TheVariants.{Less, Equal, Greater}
use Rattle.std.specs.Ordering.{is_lt, is_eq, ordering_reverse}
use Rattle.std.specs.Str.{bytes_eq}
use Rattle.std.proofs.lemmas.Cmp.{nat_list_cmp_total, tied_itself}
use Rattle.std.proofs.lemmas.Map.Text.{is_eq-slice_cmp}
use Rattle.std.proofs.lemmas.Slice.Eq.{bytes_eq-Decides}
use Rattle.snap_core.specs.Value.{Tree, TreeItems, TreeFields, list, dict, no_parts, part, no_members, member, value_at, keys_of, ComesBefore, AreKeyed, IsOrdered, AreOrdered, AreOrderedMembers}
use Rattle.snap_core.specs.Level.{Step, at_index, at_key, count_of, item_at, set_item, insert_item, remove_item, set_field, insert_field, remove_field, child, set_child, CanInsert, insert_child, remove_child}
use Rattle.snap_core.proofs.Finding.{key_cmp}

-- items

pub item_at-within : {A : Type 0} (i : ℕ) (ps : TreeItems A) (v : Tree A) → item_at i ps ≡ Some v → i < count_of ps
item_at-within i no_parts v h = cc
item_at-within zero (part w ps) v h = omega arith
item_at-within (suc i) (part w ps) v h = let below = item_at-within i ps v h in omega arith

pub count_of-set_item : {A : Type 0} (i : ℕ) (v : Tree A) (ps : TreeItems A) → count_of (set_item i v ps) ≡ count_of ps
count_of-set_item i v no_parts = refl
count_of-set_item zero v (part w ps) = refl
count_of-set_item (suc i) v (part w ps) = ap suc (count_of-set_item i v ps)

pub item_at-set_item : {A : Type 0} (i : ℕ) (v w : Tree A) (ps : TreeItems A) → item_at i ps ≡ Some w → item_at i (set_item i v ps) ≡ Some v
item_at-set_item i v w no_parts h = cc
item_at-set_item zero v w (part u ps) h = refl
item_at-set_item (suc i) v w (part u ps) h = item_at-set_item i v w ps h

pub set_item-set_item : {A : Type 0} (i : ℕ) (v w : Tree A) (ps : TreeItems A) → set_item i w (set_item i v ps) ≡ set_item i w ps
set_item-set_item i v w no_parts = refl
set_item-set_item zero v w (part u ps) = refl
set_item-set_item (suc i) v w (part u ps) = ap (part u) (set_item-set_item i v w ps)

pub set_item-same : {A : Type 0} (i : ℕ) (v : Tree A) (ps : TreeItems A) → item_at i ps ≡ Some v → set_item i v ps ≡ ps
set_item-same i v no_parts h = refl
set_item-same {A} zero v (part u ps) h = let same : u ≡ v = cc in ap (λ (x : Tree A). part x ps) (sym same)
set_item-same (suc i) v (part u ps) h = ap (part u) (set_item-same i v ps h)

pub count_of-insert_item : {A : Type 0} (i : ℕ) (v : Tree A) (ps : TreeItems A) → i ≤ count_of ps → count_of (insert_item i v ps) ≡ suc (count_of ps)
count_of-insert_item zero v ps within = refl
count_of-insert_item (suc i) v no_parts within = absurd (omega arith)
count_of-insert_item (suc i) v (part w ps) within = ap suc (count_of-insert_item i v ps (omega arith))

pub item_at-insert_item : {A : Type 0} (i : ℕ) (v : Tree A) (ps : TreeItems A) → i ≤ count_of ps → item_at i (insert_item i v ps) ≡ Some v
item_at-insert_item zero v ps within = refl
item_at-insert_item (suc i) v no_parts within = absurd (omega arith)
item_at-insert_item (suc i) v (part w ps) within = item_at-insert_item i v ps (omega arith)

pub remove_item-insert_item : {A : Type 0} (i : ℕ) (v : Tree A) (ps : TreeItems A) → i ≤ count_of ps → remove_item i (insert_item i v ps) ≡ ps
remove_item-insert_item zero v ps within = refl
remove_item-insert_item (suc i) v no_parts within = absurd (omega arith)
remove_item-insert_item (suc i) v (part w ps) within = ap (part w) (remove_item-insert_item i v ps (omega arith))

pub count_of-remove_item : {A : Type 0} (i : ℕ) (ps : TreeItems A) (v : Tree A) → item_at i ps ≡ Some v → suc (count_of (remove_item i ps)) ≡ count_of ps
count_of-remove_item i no_parts v h = cc
count_of-remove_item zero (part w ps) v h = refl
count_of-remove_item (suc i) (part w ps) v h = ap suc (count_of-remove_item i ps v h)

pub insert_item-remove_item : {A : Type 0} (i : ℕ) (v : Tree A) (ps : TreeItems A) → item_at i ps ≡ Some v → insert_item i v (remove_item i ps) ≡ ps
insert_item-remove_item i v no_parts h = cc
insert_item-remove_item {A} zero v (part w ps) h = let same : w ≡ v = cc in ap (λ (x : Tree A). part x ps) (sym same)
insert_item-remove_item (suc i) v (part w ps) h = ap (part w) (insert_item-remove_item i v ps h)

-- fields

bytes_eq-same : (key : List ℕ) → bytes_eq key key ≡ true
bytes_eq-same key = (bytes_eq-Decides key key).1 refl

-- a case for each answer of the test whether a key is the one that is looked for
pub same_key : {R : Type 0} (key k : List ℕ) → (key ≡ k → bytes_eq key k ≡ true → R) → (bytes_eq key k ≡ false → R) → R
same_key {R} key k equal other = elim (bytes_eq key k) as (λ b. bytes_eq key k ≡ b → R) [
  | true ↦ λ e. equal ((bytes_eq-Decides key k).0 e) e
  | false ↦ λ e. other e
] refl

-- a case for each answer of the test whether a key comes before another
pub key_before : {R : Type 0} (key k : List ℕ) → (key_cmp key k ≡ Less → is_lt (key_cmp key k) ≡ true → R) → (is_lt (key_cmp key k) ≡ false → R) → R
key_before {R} key k before other = elim (key_cmp key k) as (λ o. key_cmp key k ≡ o → R) [
  | Less ↦ λ e. before e (ap is_lt e)
  | Equal ↦ λ e. other (ap is_lt e)
  | Greater ↦ λ e. other (ap is_lt e)
] refl

pub value_at-set_field : {A : Type 0} (key : List ℕ) (v w : Tree A) (ms : TreeFields A) → value_at key ms ≡ Some w → value_at key (set_field key v ms) ≡ Some v
value_at-set_field key v w no_members h = cc
value_at-set_field key v w (member k u ms) h = same_key key k
    (λ same e. rw (e, e) refl)
    (λ e. rw (e, e) (value_at-set_field key v w ms (rw e at h)))

pub keys_of-set_field : {A : Type 0} (key : List ℕ) (v : Tree A) (ms : TreeFields A) → keys_of (set_field key v ms) ≡ keys_of ms
keys_of-set_field key v no_members = refl
keys_of-set_field key v (member k w ms) = same_key key k
    (λ same e. rw e refl)
    (λ e. rw e (ap (λ ks. k ∷ ks) (keys_of-set_field key v ms)))

pub set_field-set_field : {A : Type 0} (key : List ℕ) (v w : Tree A) (ms : TreeFields A) → set_field key w (set_field key v ms) ≡ set_field key w ms
set_field-set_field key v w no_members = refl
set_field-set_field key v w (member k u ms) = same_key key k
    (λ same e. rw (e, e) refl)
    (λ e. rw (e, e) (ap (member k u) (set_field-set_field key v w ms)))

pub set_field-same : {A : Type 0} (key : List ℕ) (v : Tree A) (ms : TreeFields A) → value_at key ms ≡ Some v → set_field key v ms ≡ ms
set_field-same key v no_members h = refl
set_field-same {A} key v (member k u ms) h = same_key key k
    (λ same e. let found : Some u ≡ Some v = rw e at h in let equal : u ≡ v = cc in rw e (ap (λ (x : Tree A). member k x ms) (sym equal)))
    (λ e. rw e (ap (member k u) (set_field-same key v ms (rw e at h))))

pub value_at-insert_field : {A : Type 0} (key : List ℕ) (v : Tree A) (ms : TreeFields A) → value_at key ms ≡ None → value_at key (insert_field key v ms) ≡ Some v
value_at-insert_field key v no_members absent = rw (bytes_eq-same key) refl
value_at-insert_field key v (member k w ms) absent = same_key key k
    (λ same e. let found : Some w ≡ None = rw e at absent in cc)
    (λ e. key_before key k
    (λ before lower. rw (lower, bytes_eq-same key) refl)
    (λ later. rw (later, e) (value_at-insert_field key v ms (rw e at absent))))

pub remove_field-insert_field : {A : Type 0} (key : List ℕ) (v : Tree A) (ms : TreeFields A) → value_at key ms ≡ None → remove_field key (insert_field key v ms) ≡ ms
remove_field-insert_field key v no_members absent = rw (bytes_eq-same key) refl
remove_field-insert_field key v (member k w ms) absent = same_key key k
    (λ same e. let found : Some w ≡ None = rw e at absent in cc)
    (λ e. key_before key k
    (λ before lower. rw (lower, bytes_eq-same key) refl)
    (λ later. rw (later, e) (ap (member k w) (remove_field-insert_field key v ms (rw e at absent)))))

-- fields in the order of their keys

itself : (k k' : List ℕ) → k ≡ k' → key_cmp k k' ≡ Equal
itself k k' same = let P : List ℕ → Type 0 = λ x. key_cmp k x ≡ Equal in subst P same (tied_itself nat_list_cmp_total k)

reversed_less : (key k : List ℕ) → key_cmp k key ≡ Less → is_lt (key_cmp key k) ≡ false
reversed_less key k before = ap is_lt (nat_list_cmp_total.antisymm key k ∙ ap ordering_reverse before)

-- a key that comes before the first comes before each that is held
pub before_held : {A : Type 0} (k key : List ℕ) (ms : TreeFields A) (v : Tree A) → ComesBefore k (keys_of ms) → AreKeyed ms → value_at key ms ≡ Some v → key_cmp k key ≡ Less
before_held k key no_members v before keyed held = cc
before_held k key (member k' w ms) v before keyed held = same_key key k'
    (λ same e. let P : List ℕ → Type 0 = λ x. key_cmp k x ≡ Less in subst P (sym same) before)
    (λ e. nat_list_cmp_total.trans k k' key before (before_held k' key ms v keyed.0 keyed.1 (rw e at held)))

-- a key that comes before the first isn't held
pub absent_before : {A : Type 0} (k : List ℕ) (ms : TreeFields A) → ComesBefore k (keys_of ms) → AreKeyed ms → value_at k ms ≡ None
absent_before k no_members before keyed = refl
absent_before {A} k (member k' w ms) before keyed = same_key k k'
    (λ same e. let tied : key_cmp k k' ≡ Equal = itself k k' same in cc)
    (λ e. rw e (elim (value_at k ms) as (λ o. value_at k ms ≡ o → o ≡ None) [
      | None ↦ λ held. refl
      | Some v ↦ λ held.
          let later : key_cmp k' k ≡ Less = before_held k' k ms v keyed.0 keyed.1 held in
          let earlier : key_cmp k' k ≡ Greater = nat_list_cmp_total.antisymm k' k ∙ ap ordering_reverse before in
          cc
    ] refl))

insert_before : {A : Type 0} (key : List ℕ) (v : Tree A) (ms : TreeFields A) → ComesBefore key (keys_of ms) → insert_field key v ms ≡ member key v ms
insert_before key v no_members before = refl
insert_before key v (member k w ms) before = let lower : is_lt (key_cmp key k) ≡ true = ap is_lt before in rw lower refl

pub insert_field-remove_field : {A : Type 0} (key : List ℕ) (v : Tree A) (ms : TreeFields A) → AreKeyed ms → value_at key ms ≡ Some v → insert_field key v (remove_field key ms) ≡ ms
insert_field-remove_field key v no_members keyed held = cc
insert_field-remove_field {A} key v (member k w ms) keyed held = same_key key k
    (λ same e.
    let found : Some w ≡ Some v = rw e at held in
    let equal : w ≡ v = cc in
    let P : List ℕ → Type 0 = λ x. ComesBefore x (keys_of ms) in
    let first : ComesBefore key (keys_of ms) = subst P (sym same) keyed.0 in
    rw e (insert_before key v ms first ∙ ap (λ (x : Tree A). member key x ms) (sym equal) ∙ ap (λ x. member x w ms) same))
    (λ e.
    let held_later : value_at key ms ≡ Some v = rw e at held in
    let later : is_lt (key_cmp key k) ≡ false = reversed_less key k (before_held k key ms v keyed.0 keyed.1 held_later) in
    rw (e, later) (ap (member k w) (insert_field-remove_field key v ms keyed.1 held_later)))

pub value_at-remove_field : {A : Type 0} (key : List ℕ) (ms : TreeFields A) → AreKeyed ms → value_at key (remove_field key ms) ≡ None
value_at-remove_field key no_members keyed = refl
value_at-remove_field key (member k w ms) keyed = same_key key k
    (λ same e. let P : List ℕ → Type 0 = λ x. ComesBefore x (keys_of ms) in rw e (absent_before key ms (subst P (sym same) keyed.0) keyed.1))
    (λ e. rw (e, e) (value_at-remove_field key ms keyed.1))

pub AreKeyed-of : {A : Type 0} (ms : TreeFields A) → AreOrderedMembers ms → AreKeyed ms
AreKeyed-of no_members ordered = tt
AreKeyed-of (member k v ms) ordered = (ordered.1, AreKeyed-of ms ordered.2)

-- parts with ascending keys stay so

pub AreOrdered-set_item : {A : Type 0} (i : ℕ) (v : Tree A) (ps : TreeItems A) → IsOrdered v → AreOrdered ps → AreOrdered (set_item i v ps)
AreOrdered-set_item i v no_parts one all = all
AreOrdered-set_item zero v (part w ps) one all = (one, all.1)
AreOrdered-set_item (suc i) v (part w ps) one all = (all.0, AreOrdered-set_item i v ps one all.1)

pub AreOrdered-insert_item : {A : Type 0} (i : ℕ) (v : Tree A) (ps : TreeItems A) → IsOrdered v → AreOrdered ps → AreOrdered (insert_item i v ps)
AreOrdered-insert_item zero v ps one all = (one, all)
AreOrdered-insert_item (suc i) v no_parts one all = all
AreOrdered-insert_item (suc i) v (part w ps) one all = (all.0, AreOrdered-insert_item i v ps one all.1)

pub AreOrdered-remove_item : {A : Type 0} (i : ℕ) (ps : TreeItems A) → AreOrdered ps → AreOrdered (remove_item i ps)
AreOrdered-remove_item i no_parts all = all
AreOrdered-remove_item zero (part w ps) all = all.1
AreOrdered-remove_item (suc i) (part w ps) all = (all.0, AreOrdered-remove_item i ps all.1)

pub IsOrdered-item_at : {A : Type 0} (i : ℕ) (ps : TreeItems A) (v : Tree A) → AreOrdered ps → item_at i ps ≡ Some v → IsOrdered v
IsOrdered-item_at i no_parts v all h = cc
IsOrdered-item_at {A} zero (part w ps) v all h = let same : w ≡ v = cc in let P : Tree A → Type 0 = IsOrdered in subst P same all.0
IsOrdered-item_at (suc i) (part w ps) v all h = IsOrdered-item_at i ps v all.1 h

IsOrdered-value_at : {A : Type 0} (key : List ℕ) (ms : TreeFields A) (v : Tree A) → AreOrderedMembers ms → value_at key ms ≡ Some v → IsOrdered v
IsOrdered-value_at key no_members v all h = cc
IsOrdered-value_at {A} key (member k w ms) v all h = same_key key k
    (λ same e. let found : Some w ≡ Some v = rw e at h in let equal : w ≡ v = cc in let P : Tree A → Type 0 = IsOrdered in subst P equal all.0)
    (λ e. IsOrdered-value_at key ms v all.2 (rw e at h))

pub AreOrderedMembers-set_field : {A : Type 0} (key : List ℕ) (v : Tree A) (ms : TreeFields A) → IsOrdered v → AreOrderedMembers ms → AreOrderedMembers (set_field key v ms)
AreOrderedMembers-set_field key v no_members one all = all
AreOrderedMembers-set_field {A} key v (member k w ms) one all = same_key key k
    (λ same e. rw e (one, all.1, all.2))
    (λ e.
    let P : List (List ℕ) → Type 0 = ComesBefore k in
    rw e (all.0, subst P (sym (keys_of-set_field key v ms)) all.1, AreOrderedMembers-set_field key v ms one all.2))

-- of two unequal keys one comes before the other
pub other_before : (key k : List ℕ) → bytes_eq key k ≡ false → is_lt (key_cmp key k) ≡ false → key_cmp k key ≡ Less
other_before key k apart later = elim (key_cmp key k) as (λ o. key_cmp key k ≡ o → key_cmp k key ≡ Less) [
  | Less ↦ λ e. let lower : is_lt (key_cmp key k) ≡ true = ap is_lt e in cc
  | Equal ↦ λ e. let tied : bytes_eq key k ≡ true = sym (is_eq-slice_cmp key k) ∙ ap is_eq e in cc
  | Greater ↦ λ e. nat_list_cmp_total.antisymm k key ∙ ap ordering_reverse e
] refl

pub ComesBefore-insert_field : {A : Type 0} (k key : List ℕ) (v : Tree A) (ms : TreeFields A) → key_cmp k key ≡ Less → ComesBefore k (keys_of ms) → ComesBefore k (keys_of (insert_field key v ms))
ComesBefore-insert_field k key v no_members lower before = lower
ComesBefore-insert_field k key v (member k' w ms) lower before = key_before key k'
    (λ first e. rw e lower)
    (λ e. rw e before)

pub AreOrderedMembers-insert_field : {A : Type 0} (key : List ℕ) (v : Tree A) (ms : TreeFields A) → value_at key ms ≡ None → IsOrdered v → AreOrderedMembers ms → AreOrderedMembers (insert_field key v ms)
AreOrderedMembers-insert_field key v no_members absent one all = (one, tt, tt)
AreOrderedMembers-insert_field key v (member k w ms) absent one all = same_key key k
    (λ same e. let found : Some w ≡ None = rw e at absent in cc)
    (λ e. key_before key k
    (λ before lower. rw lower (one, before, all))
    (λ later. rw later (all.0, ComesBefore-insert_field k key v ms (other_before key k e later) all.1, AreOrderedMembers-insert_field key v ms (rw e at absent) one all.2)))

ComesBefore-first : {A : Type 0} (k k' : List ℕ) (ms : TreeFields A) → key_cmp k k' ≡ Less → ComesBefore k' (keys_of ms) → ComesBefore k (keys_of ms)
ComesBefore-first k k' no_members lower before = tt
ComesBefore-first k k' (member l w ms) lower before = nat_list_cmp_total.trans k k' l lower before

pub ComesBefore-remove_field : {A : Type 0} (k key : List ℕ) (ms : TreeFields A) → AreOrderedMembers ms → ComesBefore k (keys_of ms) → ComesBefore k (keys_of (remove_field key ms))
ComesBefore-remove_field k key no_members all before = tt
ComesBefore-remove_field k key (member k' w ms) all before = same_key key k'
    (λ same e. rw e (ComesBefore-first k k' ms before all.1))
    (λ e. rw e before)

pub AreOrderedMembers-remove_field : {A : Type 0} (key : List ℕ) (ms : TreeFields A) → AreOrderedMembers ms → AreOrderedMembers (remove_field key ms)
AreOrderedMembers-remove_field key no_members all = all
AreOrderedMembers-remove_field key (member k w ms) all = same_key key k
    (λ same e. rw e all.2)
    (λ e. rw e (all.0, ComesBefore-remove_field k key ms all.2 all.1, AreOrderedMembers-remove_field key ms all.2))

-- any part

pub child-set_child : {A : Type 0} (step : Step) (v w : Tree A) (t : Tree A) → child step t ≡ Some w → child step (set_child step v t) ≡ Some v
child-set_child (at_index i) v w (list a ps) h = item_at-set_item i v w ps h
child-set_child (at_key key) v w (dict a ms) h = value_at-set_field key v w ms h
child-set_child step v w t h = cc

pub set_child-set_child : {A : Type 0} (step : Step) (v w : Tree A) (t : Tree A) → set_child step w (set_child step v t) ≡ set_child step w t
set_child-set_child (at_index i) v w (list a ps) = ap (list a) (set_item-set_item i v w ps)
set_child-set_child (at_key key) v w (dict a ms) = ap (dict a) (set_field-set_field key v w ms)
set_child-set_child step v w t = refl

pub set_child-same : {A : Type 0} (step : Step) (v : Tree A) (t : Tree A) → child step t ≡ Some v → set_child step v t ≡ t
set_child-same (at_index i) v (list a ps) h = ap (list a) (set_item-same i v ps h)
set_child-same (at_key key) v (dict a ms) h = ap (dict a) (set_field-same key v ms h)
set_child-same step v t h = cc

pub child-insert_child : {A : Type 0} (step : Step) (v : Tree A) (t : Tree A) → CanInsert step t → child step (insert_child step v t) ≡ Some v
child-insert_child (at_index i) v (list a ps) room = item_at-insert_item i v ps room
child-insert_child (at_key key) v (dict a ms) room = value_at-insert_field key v ms room
child-insert_child step v t room = absurd room

pub remove_child-insert_child : {A : Type 0} (step : Step) (v : Tree A) (t : Tree A) → CanInsert step t → remove_child step (insert_child step v t) ≡ t
remove_child-insert_child (at_index i) v (list a ps) room = ap (list a) (remove_item-insert_item i v ps room)
remove_child-insert_child (at_key key) v (dict a ms) room = ap (dict a) (remove_field-insert_field key v ms room)
remove_child-insert_child step v t room = absurd room

-- where a part was taken out, one can be put in, and what was taken out is put back

pub CanInsert-remove_child : {A : Type 0} (step : Step) (v : Tree A) (t : Tree A) → IsOrdered t → child step t ≡ Some v → CanInsert step (remove_child step t)
CanInsert-remove_child (at_index i) v (list a ps) ordered h = let within = item_at-within i ps v h in let one_less = count_of-remove_item i ps v h in omega arith
CanInsert-remove_child (at_key key) v (dict a ms) ordered h = value_at-remove_field key ms (AreKeyed-of ms ordered)
CanInsert-remove_child step v t ordered h = cc

pub insert_child-remove_child : {A : Type 0} (step : Step) (v : Tree A) (t : Tree A) → IsOrdered t → child step t ≡ Some v → insert_child step v (remove_child step t) ≡ t
insert_child-remove_child (at_index i) v (list a ps) ordered h = ap (list a) (insert_item-remove_item i v ps h)
insert_child-remove_child (at_key key) v (dict a ms) ordered h = ap (dict a) (insert_field-remove_field key v ms (AreKeyed-of ms ordered) h)
insert_child-remove_child step v t ordered h = cc

pub IsOrdered-child : {A : Type 0} (step : Step) (t v : Tree A) → IsOrdered t → child step t ≡ Some v → IsOrdered v
IsOrdered-child (at_index i) (list a ps) v ordered h = IsOrdered-item_at i ps v ordered h
IsOrdered-child (at_key key) (dict a ms) v ordered h = IsOrdered-value_at key ms v ordered h
IsOrdered-child step t v ordered h = cc

pub IsOrdered-set_child : {A : Type 0} (step : Step) (v t : Tree A) → IsOrdered v → IsOrdered t → IsOrdered (set_child step v t)
IsOrdered-set_child (at_index i) v (list a ps) one ordered = AreOrdered-set_item i v ps one ordered
IsOrdered-set_child (at_key key) v (dict a ms) one ordered = AreOrderedMembers-set_field key v ms one ordered
IsOrdered-set_child step v t one ordered = ordered

pub IsOrdered-insert_child : {A : Type 0} (step : Step) (v t : Tree A) → CanInsert step t → IsOrdered v → IsOrdered t → IsOrdered (insert_child step v t)
IsOrdered-insert_child (at_index i) v (list a ps) room one ordered = AreOrdered-insert_item i v ps one ordered
IsOrdered-insert_child (at_key key) v (dict a ms) room one ordered = AreOrderedMembers-insert_field key v ms room one ordered
IsOrdered-insert_child step v t room one ordered = ordered

pub IsOrdered-remove_child : {A : Type 0} (step : Step) (t : Tree A) → IsOrdered t → IsOrdered (remove_child step t)
IsOrdered-remove_child (at_index i) (list a ps) ordered = AreOrdered-remove_item i ps ordered
IsOrdered-remove_child (at_key key) (dict a ms) ordered = AreOrderedMembers-remove_field key ms ordered
IsOrdered-remove_child step t ordered = ordered
