-- The models that references lead to.
use Rattle.std.specs.Prelude.{Option, Some, None}
use Rattle.snap_core.specs.declared.number.ModelNo.{ModelNo}
use Rattle.type_table.specs.declared.shape.Shape.{Shape}
use Rattle.type_table.specs.declared.shape.Shape.TheVariants.{Reference, Safe}
use Rattle.type_table.specs.Table.{Table, shape_at}
use Rattle.type_table.specs.Unions.{model_of_shape}

-- the model that the type of a reference is directly
abbrev pub target_of : Table → Option Shape → Option ModelNo
target_of table (Some (Reference u)) = model_of_shape (shape_at table u.0)
target_of table (Some (Safe u)) = model_of_shape (shape_at table u.0)
target_of table _ = None
