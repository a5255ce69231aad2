-- What a patch that is being read spells.
use Rattle.std.specs.Option.{option_map, option_copied}
use Rattle.snap_core.specs.View.{view}
use Rattle.patch_core.specs.Reading.{Spelling}
use Rattle.patch_core.specs.declared.reading.Draft.{Draft}

abbrev pub seen : Draft → Spelling
seen d = record { op = d.op; path = d.path.now; value = option_map view (option_copied d.value) }
