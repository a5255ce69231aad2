-- Why a file is no schema.
use Rattle.std.specs.Prelude.{Result, Err, ⊤}
use Rattle.pointer_core.specs.Path.{Path}
use Rattle.pointer_core.specs.declared.schema_rule.SchemaRule.{SchemaRule}
use Rattle.schema_read.specs.declared.error.SchemaError.{SchemaError}
use Rattle.schema_read.specs.declared.error.SchemaError.TheVariants.{Syntax, Refused}

-- P, where the file is no JSON
abbrev pub IfSyntax : {T : Type 0} → Result T SchemaError → Type 0 → Type 0
IfSyntax (Err Syntax) P = P
IfSyntax _ P = ⊤

-- P of the place and the rule, where the file has a fault
abbrev pub IfRefused : {T : Type 0} → Result T SchemaError → (Path → SchemaRule → Type 0) → Type 0
IfRefused (Err (Refused pointer rule)) P = P pointer rule
IfRefused _ P = ⊤
