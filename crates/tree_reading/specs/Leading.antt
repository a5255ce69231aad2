-- Where a token leads from a node: to an item, or to an entry.
use Rattle.std.specs.Prelude.{ℕ, List, ◌∷◌, length, slice_get, Option}
use Rattle.std.specs.Option.{option_map, option_and_then}
use Rattle.pointer_core.specs.Path.{Path}
use Rattle.patch_core.specs.Place.{index_below}
use Rattle.edit_core.specs.Labelled.{Labelled, Entry}
use Rattle.edit_core.specs.Edit.{Turn, to_item}
use Rattle.edit_core.specs.Template.{entry_at}
use Rattle.tree_core.specs.Nodes.{to_key}
use Rattle.tree_core.specs.Reading.{way_along}

-- the way behind a turn to a part
abbrev pub led_on : Turn → Path → Labelled → Option (List Turn)
led_on turn path part = option_map (λ way. turn ∷ way) (way_along path part)

abbrev pub along_item : List ℕ → Path → List Labelled → Option (List Turn)
along_item token path xs =
    option_and_then (λ i. option_and_then (λ part. led_on (to_item i) path part) (slice_get xs i)) (index_below (length xs) token)

abbrev pub along_entry : List ℕ → Path → List Entry → Option (List Turn)
along_entry token path es = option_and_then (λ part. led_on (to_key token es) path part) (entry_at token es)
