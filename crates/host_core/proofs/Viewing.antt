-- The views of a schema, by what its models are shown to have.
use Rattle.std.proofs.Common.{◌≡◌}
use Rattle.model_syntax.specs.Shown.{ShownBehaviour, behaviour_shown}
use Rattle.expr_core.specs.Schema.{Schema, behaviours_shown, views_in, views_of}
use Rattle.expr_core.proofs.Lists.{map-map}

pub views-shown : (schema : Schema) → views_in (behaviours_shown schema) ≡ views_of schema
views-shown schema = map-map (λ (b : ShownBehaviour). b.views) behaviour_shown schema.behaviours
