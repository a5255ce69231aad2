-- A field by its key.
use Rattle.std.proofs.Common.{◌≡◌, ℕ, List, ◌∷◌, Option, Some, if◌then◌else◌, ap}
use Rattle.std.specs.Str.{bytes_eq}
use Rattle.snap_core.specs.Value.{Value, value_at}
use Rattle.snap_core.specs.declared.snap.Field.{Field}
use Rattle.snap_core.specs.View.{view, fields_view}
use Rattle.snap_core.proofs.Views.{entry-fields}

-- the first field of a record, and the others
pub value_at-first : (key : List ℕ) (f : Field) (fs : List Field)
    → value_at key (fields_view (f ∷ fs)) ≡ (if bytes_eq key f.key then Some (view f.value) else value_at key (fields_view fs))
value_at-first key f fs = let P : List ℕ × Value → Option Value = λ e. if bytes_eq key e.0 then Some e.1 else value_at key (fields_view fs) in ap P (entry-fields f)
