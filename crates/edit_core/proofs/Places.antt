-- One level of a labelled snapshot, without labels: what stands at a place, and what stands there after a change.
use Rattle.std.proofs.Common.{◌≡◌, ℕ, ◌≤◌, List, [], ◌∷◌, ◌++◌, length, true, false, Some, None, refl, ◌∙◌, ap, arith}
use Rattle.std.specs.declared.cmp.Ordering.TheVariants.{Less, Greater}
use Rattle.std.specs.Ordering.{ordering_reverse, is_lt}
use Rattle.std.specs.Str.{bytes_eq}
use Rattle.std.proofs.lemmas.Cmp.{nat_list_cmp_total}
use Rattle.std.proofs.lemmas.Slice.Eq.{bytes_eq-Decides}
use Rattle.snap_core.specs.Value.{part, member, value_at, Items, Fields}
use Rattle.snap_core.specs.Level.{count_of, item_at, set_item, insert_item, remove_item, set_field, insert_field, remove_field}
use Rattle.snap_core.proofs.Finding.{key_cmp, bytes_eq-Less, bytes_eq-unequal}
use Rattle.edit_core.specs.Labelled.{Labelled, Entry, branches, entries, bare, bare_items, bare_fields}
use Rattle.edit_core.proofs.Ascending.{AllAfter, Ascend, after-rest}

abbrev pub plain_items : List Labelled → Items
plain_items xs = bare_items (branches xs)

abbrev pub plain_fields : List Entry → Fields
plain_fields es = bare_fields (entries es)

pub item-stands : (before after : List Labelled) (x : Labelled) → item_at (length before) (plain_items (before ++ x ∷ after)) ≡ Some (bare x)
item-stands [] after x = refl
item-stands (b ∷ before) after x = item-stands before after x

pub item-set : (before after : List Labelled) (x y : Labelled) → set_item (length before) (bare y) (plain_items (before ++ x ∷ after)) ≡ plain_items (before ++ y ∷ after)
item-set [] after x y = refl
item-set (b ∷ before) after x y = ap (part (bare b)) (item-set before after x y)

pub item-removed : (before after : List Labelled) (x : Labelled) → remove_item (length before) (plain_items (before ++ x ∷ after)) ≡ plain_items (before ++ after)
item-removed [] after x = refl
item-removed (b ∷ before) after x = ap (part (bare b)) (item-removed before after x)

pub item-added : (before after : List Labelled) (x : Labelled) → insert_item (length before) (bare x) (plain_items (before ++ after)) ≡ plain_items (before ++ x ∷ after)
item-added [] after x = refl
item-added (b ∷ before) after x = ap (part (bare b)) (item-added before after x)

pub item-room : (before after : List Labelled) → length before ≤ count_of (plain_items (before ++ after))
item-room [] after = omega arith
item-room (b ∷ before) after = omega (arith, item-room before after)

-- a key among ascending ones is another than those before it and behind it
first-before : (j k : List ℕ) (before after : List Entry) (x : Labelled) → AllAfter j (before ++ (k, x) ∷ after) → key_cmp j k ≡ Less
first-before j k before after x h = (after-rest j before ((k, x) ∷ after) h).0

other-before : (j k : List ℕ) (before after : List Entry) (x : Labelled) → AllAfter j (before ++ (k, x) ∷ after) → bytes_eq k j ≡ false
other-before j k before after x h = bytes_eq-Less k j (first-before j k before after x h)

turned : (j k : List ℕ) → key_cmp j k ≡ Less → key_cmp k j ≡ Greater
turned j k less = nat_list_cmp_total.antisymm k j ∙ ap ordering_reverse less

same-key : (k : List ℕ) → bytes_eq k k ≡ true
same-key k = (bytes_eq-Decides k k).1 refl

pub entry-stands : (before after : List Entry) (k : List ℕ) (x : Labelled) → Ascend (before ++ (k, x) ∷ after) → value_at k (plain_fields (before ++ (k, x) ∷ after)) ≡ Some (bare x)
entry-stands [] after k x h = rw (same-key k)
entry-stands (b ∷ before) after k x h = rw (other-before b.0 k before after x h.0) (entry-stands before after k x h.1)

pub entry-set : (before after : List Entry) (k : List ℕ) (x y : Labelled) → Ascend (before ++ (k, x) ∷ after)
    → set_field k (bare y) (plain_fields (before ++ (k, x) ∷ after)) ≡ plain_fields (before ++ (k, y) ∷ after)
entry-set [] after k x y h = rw (same-key k)
entry-set (b ∷ before) after k x y h = rw (other-before b.0 k before after x h.0) (ap (member b.0 (bare b.1)) (entry-set before after k x y h.1))

pub entry-removed : (before after : List Entry) (k : List ℕ) (x : Labelled) → Ascend (before ++ (k, x) ∷ after)
    → remove_field k (plain_fields (before ++ (k, x) ∷ after)) ≡ plain_fields (before ++ after)
entry-removed [] after k x h = rw (same-key k)
entry-removed (b ∷ before) after k x h = rw (other-before b.0 k before after x h.0) (ap (member b.0 (bare b.1)) (entry-removed before after k x h.1))

absent-behind : (k : List ℕ) (after : List Entry) → AllAfter k after → value_at k (plain_fields after) ≡ None
absent-behind k [] h = refl
absent-behind k (e ∷ es) h =
    let greater : key_cmp e.0 k ≡ Greater = turned k e.0 h.0 in
    rw (bytes_eq-unequal k e.0 (λ equal. cc)) (absent-behind k es h.1)

pub entry-absent : (before after : List Entry) (k : List ℕ) (x : Labelled) → Ascend (before ++ (k, x) ∷ after) → value_at k (plain_fields (before ++ after)) ≡ None
entry-absent [] after k x h = absent-behind k after h.0
entry-absent (b ∷ before) after k x h = rw (other-before b.0 k before after x h.0) (entry-absent before after k x h.1)

pub entry-added : (before after : List Entry) (k : List ℕ) (x : Labelled) → Ascend (before ++ (k, x) ∷ after)
    → insert_field k (bare x) (plain_fields (before ++ after)) ≡ plain_fields (before ++ (k, x) ∷ after)
entry-added [] [] k x h = refl
entry-added [] (e ∷ es) k x h = rw (ap is_lt h.0.0)
entry-added (b ∷ before) after k x h =
    rw (ap is_lt (turned b.0 k (first-before b.0 k before after x h.0))) (ap (member b.0 (bare b.1)) (entry-added before after k x h.1))
