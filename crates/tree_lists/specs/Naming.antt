-- The place by a name in the node that holds it.
use Rattle.pointer_core.specs.declared.refusal.Rule.TheVariants as rule
use Rattle.patch_core.specs.declared.patch.Patch.{Patch}
use Rattle.type_core.specs.Making.{Outcome}
use Rattle.edit_core.specs.Labelled.{Labelled}
use Rattle.edit_core.specs.Ways.{part_at}
use Rattle.tree_core.specs.declared.place.Place.{Place}
use Rattle.tree_core.specs.Reading.{way_along}
use Rattle.tree_core.specs.Listing.{Named, place_of}
use Rattle.tree_core.specs.Outcome.{◌>>=◌, or_refuse}

abbrev pub place_by : Patch → Named → Labelled → Outcome Place
place_by p named root = do
  way ← or_refuse (way_along named.holder root) p.path rule.Path
  holder ← or_refuse (part_at way root) p.path rule.Path
  place_of p named.token holder
