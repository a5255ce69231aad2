-- An item by its index.
use Rattle.std.proofs.Common.{◌≡◌, ℕ, List, Option, Some, option_map, sym, ◌∙◌, ap}
use Rattle.std.specs.Prelude.{slice_get}
use Rattle.snap_core.specs.declared.snap.Snap.{Snap}
use Rattle.snap_core.specs.View.{view, items_view}
use Rattle.snap_core.proofs.InPlace.{item_at-items_view}
use Rattle.plain_ops.specs.Applied.{item_of}

pub item_of-index : (vs : List Snap) (n : ℕ) (o : Option ℕ) → o ≡ Some n → option_map view (slice_get vs n) ≡ item_of (items_view vs) o
item_of-index vs n o e = sym (item_at-items_view n vs) ∙ ap (item_of (items_view vs)) (sym e)
