-- Expressions stay shapes of a plan as it grows.
use Rattle.std.proofs.Common.{List, All}
use Rattle.std.proofs.lemmas.List.Elements.{All-weaker}
use Rattle.type_table.specs.Table.{Plan}
use Rattle.type_draft.proofs.Plans.{IsNoSmaller, IsShapeOf-more}
use Rattle.schema_form.specs.declared.form.Entry.{Entry}
use Rattle.schema_form.specs.declared.form.Kind.{Kind}
use Rattle.schema_read.specs.Types.{kind_shape}
use Rattle.schema_read.specs.Assembly.{IsKindOf}

pub IsKindOf-more : (entries : List Entry) (old new : Plan) → IsNoSmaller old new → (kind : Kind) → IsKindOf entries old kind → IsKindOf entries new kind
IsKindOf-more entries old new grown kind h = record {
  entry = h.entry;
  shape = IsShapeOf-more old new (kind_shape entries kind) grown h.shape;
}

pub AreKindsOf-more : (entries : List Entry) (old new : Plan) → IsNoSmaller old new → (kinds : List Kind) → All (IsKindOf entries old) kinds
    → All (IsKindOf entries new) kinds
AreKindsOf-more entries old new grown kinds h = All-weaker (IsKindOf entries old) (IsKindOf entries new) (IsKindOf-more entries old new grown) kinds h
