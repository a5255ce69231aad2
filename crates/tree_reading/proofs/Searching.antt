-- A search part by part finds what the way to a node leads to.
use Rattle.std.proofs.Common.{◌≡◌, ℕ, suc, ◌+◌, ◌==◌, min, List, [], length, Bool, true, false, Option, Some, None, refl, sym, ◌∙◌, ap, arith}
use Rattle.std.specs.Prelude.{slice_get, if◌then◌else◌}
use Rattle.std.specs.Option.{option_map, option_and_then}
use Rattle.edit_core.specs.Labelled.{Label, Labelled, Branches, Entries, leaf, many, keyed, no_branches, branch, no_entries, entry, items_in, entries_in}
use Rattle.edit_core.specs.Edit.{Turn, to_item, to_entry}
use Rattle.edit_core.specs.Ways.{part_at, part_at_turn, led_by, way_to, way_among_items, way_among_entries}
use Rattle.tree_core.specs.Reading.{node_of, depth_to}
use Rattle.tree_reading.specs.Searching.{found_or, node_in, node_in_items, node_in_entries, lower, depth_in, depth_in_items, depth_in_entries}

-- a way that was found leads to the node that was found
abbrev IsFound : Labelled → Option (List Turn) → Option Labelled → Type 0
IsFound x None None = Unit {0}
IsFound x None (Some node) = ⊥
IsFound x (Some way) None = ⊥
IsFound x (Some way) (Some node) = part_at way x ≡ Some node

found-itself : (b : Bool) (x : Labelled) (way : Option (List Turn)) (y : Option Labelled) → IsFound x way y
    → IsFound x (if b then Some [] else way) (if b then Some x else y)
found-itself true x way y same = refl
found-itself false x way y same = same

joined : (node x : Labelled) (turn : Turn) (way other : Option (List Turn)) (y z : Option Labelled)
    → part_at_turn turn node ≡ Some x → IsFound x way y → IsFound node other z → IsFound node (led_by turn way other) (found_or y z)
joined node x turn None other None z here one more = more
joined node x turn None other (Some y) z here one more = absurd one
joined node x turn (Some way) other None z here one more = absurd one
joined node x turn (Some way) other (Some y) z here one more = rw here one

mutual
  found : (n : ℕ) (x : Labelled) → IsFound x (way_to n x) (node_in n x)
  found n (leaf v) = tt
  found n (many l bs) = found-itself (l.number == n) (many l bs) (way_among_items n 0 bs) (node_in_items n bs) (found_in_items n l bs 0 bs (λ k. ap (slice_get (items_in bs)) (omega arith)))
  found n (keyed l es) = found-itself (l.number == n) (keyed l es) (way_among_entries n 0 es) (node_in_entries n es) (found_in_entries n l es 0 es (λ k. ap (slice_get (entries_in es)) (omega arith)))

  found_in_items : (n : ℕ) (l : Label) (whole : Branches Label) (i : ℕ) (bs : Branches Label)
      → ((k : ℕ) → slice_get (items_in whole) (i + k) ≡ slice_get (items_in bs) k)
      → IsFound (many l whole) (way_among_items n i bs) (node_in_items n bs)
  found_in_items n l whole i no_branches same = tt
  found_in_items n l whole i (branch x bs) same =
      let here : slice_get (items_in whole) i ≡ Some x = ap (slice_get (items_in whole)) (omega arith) ∙ same 0 in
      joined (many l whole) x (to_item i) (way_to n x) (way_among_items n (suc i) bs) (node_in n x) (node_in_items n bs) here (found n x)
      (found_in_items n l whole (suc i) bs (λ k. ap (slice_get (items_in whole)) (omega arith) ∙ same (suc k)))

  found_in_entries : (n : ℕ) (l : Label) (whole : Entries Label) (i : ℕ) (es : Entries Label)
      → ((k : ℕ) → slice_get (entries_in whole) (i + k) ≡ slice_get (entries_in es) k)
      → IsFound (keyed l whole) (way_among_entries n i es) (node_in_entries n es)
  found_in_entries n l whole i no_entries same = tt
  found_in_entries n l whole i (entry key x es) same =
      let here : option_map (λ e. e.1) (slice_get (entries_in whole) i) ≡ Some x = ap (option_map (λ e. e.1)) (ap (slice_get (entries_in whole)) (omega arith) ∙ same 0) in
      joined (keyed l whole) x (to_entry i key) (way_to n x) (way_among_entries n (suc i) es) (node_in n x) (node_in_entries n es) here (found n x)
      (found_in_entries n l whole (suc i) es (λ k. ap (slice_get (entries_in whole)) (omega arith) ∙ same (suc k)))

along : (x : Labelled) (way : Option (List Turn)) (node : Option Labelled) → IsFound x way node → node ≡ option_and_then (λ w. part_at w x) way
along x None None found = refl
along x None (Some node) found = absurd found
along x (Some way) None found = absurd found
along x (Some way) (Some node) found = sym found

-- the search finds the node that the way leads to
pub node_found : (n : ℕ) (x : Labelled) → node_in n x ≡ node_of n x
node_found n x = along x (way_to n x) (node_in n x) (found n x)

-- Likewise how deep it stands.

abbrev bounded : ℕ → Option (List Turn) → Option ℕ
bounded most way = option_map (λ d. min d most) (option_map length way)

measured-itself : (most : ℕ) (b : Bool) (way : Option (List Turn)) (depth : Option ℕ) → depth ≡ bounded most way
    → (if b then Some 0 else depth) ≡ bounded most (if b then Some [] else way)
measured-itself most true way depth measured = ap Some (omega arith)
measured-itself most false way depth measured = measured

lowered : (most : ℕ) (turn : Turn) (way other : Option (List Turn))
    → found_or (lower most (bounded most way)) (bounded most other) ≡ bounded most (led_by turn way other)
lowered most turn None other = refl
lowered most turn (Some way) other = ap Some (omega arith)

mutual
  measured : (most n : ℕ) (x : Labelled) → depth_in most n x ≡ bounded most (way_to n x)
  measured most n (leaf v) = refl
  measured most n (many l bs) = measured-itself most (l.number == n) (way_among_items n 0 bs) (depth_in_items most n bs) (measured_in_items most n 0 bs)
  measured most n (keyed l es) = measured-itself most (l.number == n) (way_among_entries n 0 es) (depth_in_entries most n es) (measured_in_entries most n 0 es)

  measured_in_items : (most n i : ℕ) (bs : Branches Label) → depth_in_items most n bs ≡ bounded most (way_among_items n i bs)
  measured_in_items most n i no_branches = refl
  measured_in_items most n i (branch x bs) =
      rw (measured most n x, measured_in_items most n (suc i) bs) (lowered most (to_item i) (way_to n x) (way_among_items n (suc i) bs))

  measured_in_entries : (most n i : ℕ) (es : Entries Label) → depth_in_entries most n es ≡ bounded most (way_among_entries n i es)
  measured_in_entries most n i no_entries = refl
  measured_in_entries most n i (entry key x es) =
      rw (measured most n x, measured_in_entries most n (suc i) es) (lowered most (to_entry i key) (way_to n x) (way_among_entries n (suc i) es))

pub depth_found : (most n : ℕ) (x : Labelled) → depth_in most n x ≡ option_map (λ d. min d most) (depth_to n x)
depth_found most n x = measured most n x
