-- Values whose arrays have no more than so many items, and whose keys ascend.
use Rattle.std.proofs.Common.{ℕ, ◌<◌, ◌≤◌, ◌^◌, List, length, arith}
use Rattle.std.specs.Prelude.{IsTrue, nat_le}
use Rattle.std.proofs.lemmas.Bool.{leb-true}
use Rattle.snap_core.specs.Value.{Value, null, boolean, integer, text, list, dict, weight_of, parts_weight, members_weight, depth_of, IsOrdered, AreOrdered, AreOrderedMembers}
use Rattle.type_core.specs.Making.{is_within}
use Rattle.edit_core.specs.Labelled.{Label, Labelled, Entry, Branches, Entries, leaf, many, keyed, no_branches, branch, no_entries, entry, items_in, entries_in, bare, bare_items, bare_fields}
use Rattle.edit_core.proofs.Ascending.{Ascend, ascend-fewer, ascend-other, ascend-set, spelled}
use Rattle.edit_core.proofs.Equal.{and-left}
use Rattle.edit_core.proofs.Leading.{Conditions, FineIn, FineItems, FineEntries}
use Rattle.edit_core.proofs.Patching.{ascend-plain}

-- each array has no more than so many items, and the keys of each record ascend
abbrev pub bounded : ℕ → Conditions
bounded most = record {
  index = λ n. n ≤ most;
  keys = Ascend;
  fewer = λ m n le h. omega arith;
  fewer_keys = ascend-fewer;
  other = ascend-other;
  set = ascend-set;
}

module _ (C D : Conditions) (index : (n : ℕ) → C.index n → D.index n) (keys : (es : List Entry) → C.keys es → D.keys es) where
  mutual
    pub fine-weaker : (x : Labelled) → FineIn C x → FineIn D x
    fine-weaker (leaf v) fine = tt
    fine-weaker (many l bs) fine = (index (length (items_in bs)) fine.0, fine-weaker_items bs fine.1)
    fine-weaker (keyed l es) fine = (keys (entries_in es) fine.0, fine-weaker_entries es fine.1)

    fine-weaker_items : (bs : Branches Label) → FineItems C bs → FineItems D bs
    fine-weaker_items no_branches fine = tt
    fine-weaker_items (branch x bs) fine = (fine-weaker x fine.0, fine-weaker_items bs fine.1)

    fine-weaker_entries : (es : Entries Label) → FineEntries C es → FineEntries D es
    fine-weaker_entries no_entries fine = tt
    fine-weaker_entries (entry k x es) fine = (fine-weaker x fine.0, fine-weaker_entries es fine.1)

pub fine-more : (m n : ℕ) → m ≤ n → (x : Labelled) → FineIn (bounded m) x → FineIn (bounded n) x
fine-more m n le x fine = fine-weaker (bounded m) (bounded n) (λ k h. omega arith) (λ es h. h) x fine

pub fine-spelled : (n : ℕ) → n < 2 ^ 32 → (x : Labelled) → FineIn (bounded n) x → FineIn spelled x
fine-spelled n few x fine = fine-weaker (bounded n) spelled (λ k h. omega arith) (λ es h. h) x fine

-- a value weighs no less than it has items

weighs : (v : Value) → 1 ≤ weight_of v
weighs null = omega arith
weighs (boolean b) = omega arith
weighs (integer z) = omega arith
weighs (text s) = omega arith
weighs (list a ps) = omega arith
weighs (dict a ms) = omega arith

fewer-items : (bs : Branches Label) → length (items_in bs) ≤ parts_weight (bare_items bs)
fewer-items no_branches = omega arith
fewer-items (branch x bs) = omega (arith, weighs (bare x), fewer-items bs)

mutual
  pub fine-light : (n : ℕ) (x : Labelled) → IsOrdered (bare x) → weight_of (bare x) ≤ n → FineIn (bounded n) x
  fine-light n (leaf v) ordered light = tt
  fine-light n (many l bs) ordered light =
      (let few : length (items_in bs) ≤ n = omega (arith, fewer-items bs, light) in few, fine-light_items n bs ordered (omega (arith, light)))
  fine-light n (keyed l es) ordered light = (ascend-plain es ordered, fine-light_entries n es ordered (omega (arith, light)))

  fine-light_items : (n : ℕ) (bs : Branches Label) → AreOrdered (bare_items bs) → parts_weight (bare_items bs) ≤ n → FineItems (bounded n) bs
  fine-light_items n no_branches ordered light = tt
  fine-light_items n (branch x bs) ordered light =
      (fine-light n x ordered.0 (omega (arith, light)), fine-light_items n bs ordered.1 (omega (arith, light)))

  fine-light_entries : (n : ℕ) (es : Entries Label) → AreOrderedMembers (bare_fields es) → members_weight (bare_fields es) ≤ n → FineEntries (bounded n) es
  fine-light_entries n no_entries ordered light = tt
  fine-light_entries n (entry k x es) ordered light =
      (fine-light n x ordered.0 (omega (arith, light)), fine-light_entries n es ordered.2 (omega (arith, light)))

pub light-within : (v : Value) → IsTrue (is_within v) → weight_of v ≤ 1048576
light-within v within = leb-true (weight_of v) 1048576 (and-left (nat_le (weight_of v) 1048576) (nat_le (depth_of v) 64) within)

pub fine-within : (x : Labelled) → IsOrdered (bare x) → IsTrue (is_within (bare x)) → FineIn (bounded 1048576) x
fine-within x ordered within = fine-light 1048576 x ordered (light-within (bare x) within)
