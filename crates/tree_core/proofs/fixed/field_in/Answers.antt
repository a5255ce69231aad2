-- The fields of a plain record stand by their keys.
use Rattle.snap_core.specs.View.{fields_view}
use Rattle.snap_core.proofs.Keys.{AreKeyed-ascending}
use Rattle.tree_core.proofs.fixed.field_in.Goals as goal

pub find-requires : goal.find-requires
find-requires c = AreKeyed-ascending (fields_view c.args.fields.now) c.requires.plain
