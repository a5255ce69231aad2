-- The types of a schema, as a tree asks for them.
use Rattle.std.specs.Prelude.{ℕ, None, slice_get, unwrap_or}
use Rattle.std.specs.Option.{option_map}
use Rattle.snap_core.specs.declared.number.ModelNo.{ModelNo}
use Rattle.type_table.specs.declared.shape.ModelType.{ModelType}
use Rattle.type_table.specs.Table.{Catalog}
pub use Rattle.reconcile_core.specs.RealTypes.{typing_of, type_under, kind_by}

-- a model's own type, and the type of a document
abbrev pub model_type : Catalog → ModelNo → ℕ
model_type types m = unwrap_or (option_map (λ (model : ModelType). model.own.0) (slice_get types.table.models m.0)) 0

abbrev pub root_type : Catalog → ℕ
root_type types = model_type types types.root
