-- A fact of what a refusal says follows from another.
use Rattle.std.specs.Prelude.{Result, Err}
use Rattle.pointer_core.specs.Path.{Path}
use Rattle.pointer_core.specs.declared.schema_rule.SchemaRule.{SchemaRule}
use Rattle.schema_read.specs.declared.error.SchemaError.{SchemaError}
use Rattle.schema_read.specs.declared.error.SchemaError.TheVariants.{Refused}
use Rattle.schema_read.specs.Refusal.{IfRefused}

pub IfRefused-weaker : {T : Type 0} (r : Result T SchemaError) (P Q : Path → SchemaRule → Type 0) → ((path : Path) (rule : SchemaRule) → P path rule → Q path rule)
    → IfRefused r P → IfRefused r Q
IfRefused-weaker (Err (Refused path rule)) P Q step h = step path rule h
IfRefused-weaker _ P Q step h = tt
