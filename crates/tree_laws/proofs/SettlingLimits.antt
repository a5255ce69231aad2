-- What settling leaves weighs no more and is no deeper.
use Rattle.std.proofs.Common.{◌≡◌, ℕ, ◌+◌, ◌≤◌, List, ◌∷◌, ◌++◌, length, max, Bool, true, false, if◌then◌else◌, arith}
use Rattle.std.specs.Prelude.{nat_le}
use Rattle.std.proofs.lemmas.Bool.{leb-true, le-leb}
use Rattle.snap_core.specs.Value.{Value, null, boolean, integer, text, list, dict, weight_of, parts_weight, members_weight, depth_of, parts_depth, members_depth}
use Rattle.edit_core.specs.declared.kind.Kind.{Kind}
use Rattle.edit_core.specs.declared.kind.Kind.TheVariants as kind
use Rattle.edit_core.specs.Labelled.{Label, Labelled, Entry, Branches, Entries, leaf, many, keyed, no_branches, branch, no_entries, entry, branches, entries, bare, bare_items, bare_fields}
use Rattle.edit_core.proofs.Equal.{and-left, and-right}
use Rattle.edit_core.proofs.Unchanged.{both-true}
use Rattle.type_core.specs.Making.{is_within}
use Rattle.tree_core.specs.Settling.{Settling, is_loose, item_type}
use Rattle.tree_core.specs.TypesTyping.{type_under}
use Rattle.tree_reading.specs.Settled.{left_of, settled_value, settled_items, settled_entries}

weighs : (v : Value) → 1 ≤ weight_of v
weighs null = omega arith
weighs (boolean b) = omega arith
weighs (integer z) = omega arith
weighs (text s) = omega arith
weighs (list a ps) = omega arith
weighs (dict a ms) = omega arith

deep : (v : Value) → 1 ≤ depth_of v
deep null = omega arith
deep (boolean b) = omega arith
deep (integer z) = omega arith
deep (text s) = omega arith
deep (list a ps) = omega arith
deep (dict a ms) = omega arith

-- no heavier, and no deeper

lighter-item : (b : Bool) (x y : Labelled) (kept : List Labelled) (bs : Branches Label) → weight_of (bare y) ≤ weight_of (bare x) → parts_weight (bare_items (branches kept)) ≤ parts_weight (bare_items bs)
    → parts_weight (bare_items (branches (if b then kept else y ∷ kept))) ≤ weight_of (bare x) + parts_weight (bare_items bs)
lighter-item true x y kept bs one more = omega arith
lighter-item false x y kept bs one more = omega arith

lighter-left : (k : Kind) (key : List ℕ) (x : Labelled) (kept : List Entry) (es : Entries Label) → members_weight (bare_fields (entries kept)) ≤ members_weight (bare_fields es)
    → members_weight (bare_fields (entries (left_of k key ++ kept))) ≤ length key + weight_of (bare x) + members_weight (bare_fields es)
lighter-left (kind.Map u) key x kept es more = omega arith
lighter-left (kind.Model m) key x kept es more = omega (arith, weighs (bare x))
lighter-left (kind.Array u) key x kept es more = omega (arith, weighs (bare x))

lighter-entry : (b : Bool) (k : Kind) (key : List ℕ) (x y : Labelled) (kept : List Entry) (es : Entries Label) → weight_of (bare y) ≤ weight_of (bare x)
    → members_weight (bare_fields (entries kept)) ≤ members_weight (bare_fields es)
    → members_weight (bare_fields (entries (if b then left_of k key ++ kept else (key, y) ∷ kept))) ≤ length key + weight_of (bare x) + members_weight (bare_fields es)
lighter-entry true k key x y kept es one more = lighter-left k key x kept es more
lighter-entry false k key x y kept es one more = omega arith

shallower-item : (b : Bool) (x y : Labelled) (kept : List Labelled) (bs : Branches Label) → depth_of (bare y) ≤ depth_of (bare x) → parts_depth (bare_items (branches kept)) ≤ parts_depth (bare_items bs)
    → parts_depth (bare_items (branches (if b then kept else y ∷ kept))) ≤ max (depth_of (bare x)) (parts_depth (bare_items bs))
shallower-item true x y kept bs one more = omega arith
shallower-item false x y kept bs one more = omega arith

shallower-left : (k : Kind) (key : List ℕ) (x : Labelled) (kept : List Entry) (es : Entries Label) → members_depth (bare_fields (entries kept)) ≤ members_depth (bare_fields es)
    → members_depth (bare_fields (entries (left_of k key ++ kept))) ≤ max (depth_of (bare x)) (members_depth (bare_fields es))
shallower-left (kind.Map u) key x kept es more = omega arith
shallower-left (kind.Model m) key x kept es more = omega (arith, deep (bare x))
shallower-left (kind.Array u) key x kept es more = omega (arith, deep (bare x))

shallower-entry : (b : Bool) (k : Kind) (key : List ℕ) (x y : Labelled) (kept : List Entry) (es : Entries Label) → depth_of (bare y) ≤ depth_of (bare x)
    → members_depth (bare_fields (entries kept)) ≤ members_depth (bare_fields es)
    → members_depth (bare_fields (entries (if b then left_of k key ++ kept else (key, y) ∷ kept))) ≤ max (depth_of (bare x)) (members_depth (bare_fields es))
shallower-entry true k key x y kept es one more = shallower-left k key x kept es more
shallower-entry false k key x y kept es one more = omega arith

module _ (s : Settling) where
  mutual
    lighter : (x : Labelled) → weight_of (bare (settled_value s x)) ≤ weight_of (bare x)
    lighter (leaf v) = omega arith
    lighter (many l bs) = omega (arith, lighter-items (item_type l.kind) bs)
    lighter (keyed l es) = omega (arith, lighter-entries l.kind es)

    lighter-items : (t : ℕ) (bs : Branches Label) → parts_weight (bare_items (branches (settled_items s t bs))) ≤ parts_weight (bare_items bs)
    lighter-items t no_branches = omega arith
    lighter-items t (branch x bs) = lighter-item (is_loose s t x) x (settled_value s x) (settled_items s t bs) bs (lighter x) (lighter-items t bs)

    lighter-entries : (k : Kind) (es : Entries Label) → members_weight (bare_fields (entries (settled_entries s k es))) ≤ members_weight (bare_fields es)
    lighter-entries k no_entries = omega arith
    lighter-entries k (entry key x es) = lighter-entry (is_loose s (type_under s.table k key) x) k key x (settled_value s x) (settled_entries s k es) es (lighter x) (lighter-entries k es)

  mutual
    shallower : (x : Labelled) → depth_of (bare (settled_value s x)) ≤ depth_of (bare x)
    shallower (leaf v) = omega arith
    shallower (many l bs) = omega (arith, shallower-items (item_type l.kind) bs)
    shallower (keyed l es) = omega (arith, shallower-entries l.kind es)

    shallower-items : (t : ℕ) (bs : Branches Label) → parts_depth (bare_items (branches (settled_items s t bs))) ≤ parts_depth (bare_items bs)
    shallower-items t no_branches = omega arith
    shallower-items t (branch x bs) = shallower-item (is_loose s t x) x (settled_value s x) (settled_items s t bs) bs (shallower x) (shallower-items t bs)

    shallower-entries : (k : Kind) (es : Entries Label) → members_depth (bare_fields (entries (settled_entries s k es))) ≤ members_depth (bare_fields es)
    shallower-entries k no_entries = omega arith
    shallower-entries k (entry key x es) = shallower-entry (is_loose s (type_under s.table k key) x) k key x (settled_value s x) (settled_entries s k es) es (shallower x) (shallower-entries k es)

  pub settled-within : (x : Labelled) → is_within (bare x) ≡ true → is_within (bare (settled_value s x)) ≡ true
  settled-within x h =
      let light : weight_of (bare x) ≤ 1048576 = leb-true (weight_of (bare x)) 1048576 (and-left (nat_le (weight_of (bare x)) 1048576) (nat_le (depth_of (bare x)) 64) h) in
      let flat : depth_of (bare x) ≤ 64 = leb-true (depth_of (bare x)) 64 (and-right (nat_le (weight_of (bare x)) 1048576) (nat_le (depth_of (bare x)) 64) h) in
      both-true (nat_le (weight_of (bare (settled_value s x))) 1048576) (nat_le (depth_of (bare (settled_value s x))) 64)
      (le-leb (weight_of (bare (settled_value s x))) 1048576 (omega (arith, lighter x, light))) (le-leb (depth_of (bare (settled_value s x))) 64 (omega (arith, shallower x, flat)))
