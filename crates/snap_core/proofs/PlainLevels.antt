-- Plain values stay plain when a part that is plain is set or put in, or a part is taken out.
use Rattle.std.proofs.Common.{◌≡◌, ℕ, zero, suc, List, Some, None, sym, subst}
use Rattle.snap_core.specs.Value.{Tree, TreeItems, TreeFields, null, boolean, integer, text, list, dict, no_parts, part, no_members, member, value_at, ComesBefore, IsPlain, ArePlain, ArePlainMembers, IsOrdered, AreOrdered, AreOrderedMembers}
use Rattle.snap_core.specs.Level.{Step, at_index, at_key, item_at, set_item, insert_item, remove_item, set_field, insert_field, remove_field, child, set_child}
use Rattle.snap_core.proofs.Levels.{same_key, key_before, other_before, keys_of-set_field, ComesBefore-insert_field, ComesBefore-remove_field}

-- the keys of a plain value are in order

mutual
  pub IsOrdered-of : {A : Type 0} (t : Tree A) → IsPlain t → IsOrdered t
  IsOrdered-of null plain = tt
  IsOrdered-of (boolean b) plain = tt
  IsOrdered-of (integer z) plain = tt
  IsOrdered-of (text s) plain = tt
  IsOrdered-of (list a ps) plain = AreOrdered-of ps plain
  IsOrdered-of (dict a ms) plain = AreOrderedMembers-of ms plain

  pub AreOrdered-of : {A : Type 0} (ps : TreeItems A) → ArePlain ps → AreOrdered ps
  AreOrdered-of no_parts plain = tt
  AreOrdered-of (part v ps) plain = (IsOrdered-of v plain.0, AreOrdered-of ps plain.1)

  pub AreOrderedMembers-of : {A : Type 0} (ms : TreeFields A) → ArePlainMembers ms → AreOrderedMembers ms
  AreOrderedMembers-of no_members plain = tt
  AreOrderedMembers-of (member k v ms) plain = (IsOrdered-of v plain.0, plain.1, AreOrderedMembers-of ms plain.2)

pub ArePlain-set_item : {A : Type 0} (i : ℕ) (v : Tree A) (ps : TreeItems A) → IsPlain v → ArePlain ps → ArePlain (set_item i v ps)
ArePlain-set_item i v no_parts one all = all
ArePlain-set_item zero v (part w ps) one all = (one, all.1)
ArePlain-set_item (suc i) v (part w ps) one all = (all.0, ArePlain-set_item i v ps one all.1)

pub ArePlain-insert_item : {A : Type 0} (i : ℕ) (v : Tree A) (ps : TreeItems A) → IsPlain v → ArePlain ps → ArePlain (insert_item i v ps)
ArePlain-insert_item zero v ps one all = (one, all)
ArePlain-insert_item (suc i) v no_parts one all = all
ArePlain-insert_item (suc i) v (part w ps) one all = (all.0, ArePlain-insert_item i v ps one all.1)

pub ArePlain-remove_item : {A : Type 0} (i : ℕ) (ps : TreeItems A) → ArePlain ps → ArePlain (remove_item i ps)
ArePlain-remove_item i no_parts all = all
ArePlain-remove_item zero (part w ps) all = all.1
ArePlain-remove_item (suc i) (part w ps) all = (all.0, ArePlain-remove_item i ps all.1)

pub IsPlain-item_at : {A : Type 0} (i : ℕ) (ps : TreeItems A) (v : Tree A) → ArePlain ps → item_at i ps ≡ Some v → IsPlain v
IsPlain-item_at i no_parts v all h = cc
IsPlain-item_at {A} zero (part w ps) v all h = let same : w ≡ v = cc in let P : Tree A → Type 0 = IsPlain in subst P same all.0
IsPlain-item_at (suc i) (part w ps) v all h = IsPlain-item_at i ps v all.1 h

pub IsPlain-value_at : {A : Type 0} (key : List ℕ) (ms : TreeFields A) (v : Tree A) → ArePlainMembers ms → value_at key ms ≡ Some v → IsPlain v
IsPlain-value_at key no_members v all h = cc
IsPlain-value_at {A} key (member k w ms) v all h = same_key key k
    (λ same e. let found : Some w ≡ Some v = rw e at h in let equal : w ≡ v = cc in let P : Tree A → Type 0 = IsPlain in subst P equal all.0)
    (λ e. IsPlain-value_at key ms v all.2 (rw e at h))

pub ArePlainMembers-set_field : {A : Type 0} (key : List ℕ) (v : Tree A) (ms : TreeFields A) → IsPlain v → ArePlainMembers ms → ArePlainMembers (set_field key v ms)
ArePlainMembers-set_field key v no_members one all = all
ArePlainMembers-set_field {A} key v (member k w ms) one all = same_key key k
    (λ same e. rw e (one, all.1, all.2))
    (λ e.
    let P : List (List ℕ) → Type 0 = ComesBefore k in
    rw e (all.0, subst P (sym (keys_of-set_field key v ms)) all.1, ArePlainMembers-set_field key v ms one all.2))

pub ArePlainMembers-insert_field : {A : Type 0} (key : List ℕ) (v : Tree A) (ms : TreeFields A) → value_at key ms ≡ None → IsPlain v → ArePlainMembers ms → ArePlainMembers (insert_field key v ms)
ArePlainMembers-insert_field key v no_members absent one all = (one, tt, tt)
ArePlainMembers-insert_field key v (member k w ms) absent one all = same_key key k
    (λ same e. let found : Some w ≡ None = rw e at absent in cc)
    (λ e. key_before key k
    (λ before lower. rw lower (one, before, all))
    (λ later. rw later (all.0, ComesBefore-insert_field k key v ms (other_before key k e later) all.1, ArePlainMembers-insert_field key v ms (rw e at absent) one all.2)))

pub ArePlainMembers-remove_field : {A : Type 0} (key : List ℕ) (ms : TreeFields A) → ArePlainMembers ms → ArePlainMembers (remove_field key ms)
ArePlainMembers-remove_field key no_members all = all
ArePlainMembers-remove_field key (member k w ms) all = same_key key k
    (λ same e. rw e all.2)
    (λ e. rw e (all.0, ComesBefore-remove_field k key ms (AreOrderedMembers-of ms all.2) all.1, ArePlainMembers-remove_field key ms all.2))

pub IsPlain-child : {A : Type 0} (step : Step) (t v : Tree A) → IsPlain t → child step t ≡ Some v → IsPlain v
IsPlain-child (at_index i) (list a ps) v ordered h = IsPlain-item_at i ps v ordered h
IsPlain-child (at_key key) (dict a ms) v ordered h = IsPlain-value_at key ms v ordered h
IsPlain-child step t v ordered h = cc

pub IsPlain-set_child : {A : Type 0} (step : Step) (v t : Tree A) → IsPlain v → IsPlain t → IsPlain (set_child step v t)
IsPlain-set_child (at_index i) v (list a ps) one ordered = ArePlain-set_item i v ps one ordered
IsPlain-set_child (at_key key) v (dict a ms) one ordered = ArePlainMembers-set_field key v ms one ordered
IsPlain-set_child step v t one ordered = ordered
