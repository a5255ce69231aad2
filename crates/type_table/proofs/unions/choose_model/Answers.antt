use Rattle.snap_core.specs.View.{fields_view}
use Rattle.snap_core.proofs.Keys.{AreKeyed-ascending}
use Rattle.type_table.proofs.unions.choose_model.Goals as goal

pub find-requires : goal.find-requires
find-requires c = AreKeyed-ascending (fields_view c.args.fields.now) c.requires.plain
