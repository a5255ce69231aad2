-- Ways from a labelled value to a part of it.
use Rattle.std.specs.Prelude.{ℕ, suc, ◌==◌, List, [], ◌∷◌, slice_get, Option, Some, None, if◌then◌else◌}
use Rattle.std.specs.Option.{option_map, option_and_then}
use Rattle.edit_core.specs.Labelled.{Label, Labelled, Branches, Entries, leaf, many, keyed, no_branches, branch, no_entries, entry, items_in, entries_in}
use Rattle.edit_core.specs.Edit.{Turn, to_item, to_entry}
use Rattle.edit_core.specs.Application.{item_changed, entry_changed}

-- the part at a turn, which is found by its index
abbrev pub part_at_turn : Turn → Labelled → Option Labelled
part_at_turn (to_item i) (many l bs) = slice_get (items_in bs) i
part_at_turn (to_entry i key) (keyed l es) = option_map (λ e. e.1) (slice_get (entries_in es) i)
part_at_turn turn x = None

-- the part at the end of a way
abbrev pub part_at : List Turn → Labelled → Option Labelled
part_at [] x = Some x
part_at (turn ∷ way) x = option_and_then (part_at way) (part_at_turn turn x)

-- the value with another part at the end of a way; where no part is there, the value itself
abbrev pub with_part : List Turn → Labelled → Labelled → Labelled
with_part [] new x = new
with_part (to_item i ∷ way) new (many l bs) = many l (item_changed i (with_part way new) bs)
with_part (to_entry i key ∷ way) new (keyed l es) = keyed l (entry_changed i (with_part way new) es)
with_part (turn ∷ way) new x = x

-- a way that was found, with a turn before it; otherwise another one
abbrev pub led_by : Turn → Option (List Turn) → Option (List Turn) → Option (List Turn)
led_by turn (Some way) other = Some (turn ∷ way)
led_by turn None other = other

abbrev mutual
  -- the way to the node with a number: to the first in document order
  pub way_to : ℕ → Labelled → Option (List Turn)
  way_to n (leaf v) = None
  way_to n (many l bs) = if l.number == n then Some [] else way_among_items n 0 bs
  way_to n (keyed l es) = if l.number == n then Some [] else way_among_entries n 0 es

  -- likewise among items, and among entries, from an index on
  pub way_among_items : ℕ → ℕ → Branches Label → Option (List Turn)
  way_among_items n i no_branches = None
  way_among_items n i (branch x bs) = led_by (to_item i) (way_to n x) (way_among_items n (suc i) bs)

  pub way_among_entries : ℕ → ℕ → Entries Label → Option (List Turn)
  way_among_entries n i no_entries = None
  way_among_entries n i (entry k x es) = led_by (to_entry i k) (way_to n x) (way_among_entries n (suc i) es)
