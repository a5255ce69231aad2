use Rattle.snap_core.specs.View.{view}
use Rattle.snap_core.proofs.PlainLevels.{IsOrdered-of}
use Rattle.host_core.proofs.reading.patches_of.Goals as goal

pub read_patches-requires : goal.read_patches-requires
read_patches-requires c = IsOrdered-of (view c.args.value.now) c.requires
