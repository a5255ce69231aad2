use Rattle.std.proofs.Common.{◌≡◌, map, take}
use Rattle.snap_core.specs.View.{view, fields_view}
use Rattle.schema_form.specs.Bases.{first_link}
use Rattle.schema_form.proofs.bases.first_links.Given as goal

abbrev pub invariant-loop-field : goal.invariant-loop-field
invariant-loop-field l = l.links.items ≡ map (λ f. first_link (fields_view l.types) (view f.value)) (take l.field-index l.types)
