-- The names and statuses of rules.
use Rattle.std.specs.Prelude.{ℕ, List, codes}
use Rattle.pointer_core.specs.declared.refusal.Rule.{Rule}
use Rattle.pointer_core.specs.declared.refusal.Rule.TheVariants as rule
use Rattle.pointer_core.specs.declared.schema_rule.SchemaRule.{SchemaRule}
use Rattle.pointer_core.specs.declared.schema_rule.SchemaRule.TheVariants as schema

abbrev pub rule_name : Rule → List ℕ
rule_name rule.Syntax = codes "syntax"
rule_name rule.Shape = codes "shape"
rule_name rule.Pointer = codes "pointer"
rule_name rule.Head = codes "head"
rule_name rule.Whole = codes "whole"
rule_name rule.Path = codes "path"
rule_name rule.Unknown = codes "unknown"
rule_name rule.Method = codes "method"
rule_name rule.Operation = codes "operation"
rule_name rule.Index = codes "index"
rule_name rule.Fixed = codes "fixed"
rule_name rule.Alive = codes "alive"
rule_name rule.Protected = codes "protected"
rule_name rule.Kind = codes "kind"
rule_name rule.Range = codes "range"
rule_name rule.Dead = codes "dead"
rule_name (rule.Thrown reason) = codes "thrown"
rule_name rule.Budget = codes "budget"
rule_name rule.Work = codes "work"
rule_name rule.Guarded = codes "guarded"
rule_name rule.Arguments = codes "arguments"
rule_name rule.Calls = codes "calls"
rule_name rule.Reference = codes "reference"
rule_name rule.Cycle = codes "cycle"
rule_name rule.Deep = codes "deep"
rule_name rule.History = codes "history"
rule_name rule.Group = codes "group"
rule_name rule.Exists = codes "exists"
rule_name rule.Full = codes "full"
rule_name rule.Body = codes "body"
rule_name rule.Mistyped = codes "type"
rule_name rule.Refine = codes "refine"
rule_name rule.Key = codes "key"
rule_name rule.Identifier = codes "identifier"
rule_name rule.Large = codes "large"
rule_name rule.Fields = codes "fields"
rule_name rule.Memory = codes "memory"
rule_name rule.Coding = codes "coding"
rule_name rule.Storage = codes "storage"

abbrev pub rule_status : Rule → ℕ
rule_status rule.Syntax = 400
rule_status rule.Shape = 400
rule_status rule.Pointer = 400
rule_status rule.Head = 400
rule_status rule.Whole = 400
rule_status rule.Path = 404
rule_status rule.Unknown = 404
rule_status rule.Method = 405
rule_status rule.Operation = 409
rule_status rule.Index = 409
rule_status rule.Fixed = 409
rule_status rule.Alive = 409
rule_status rule.Protected = 409
rule_status rule.Kind = 409
rule_status rule.Range = 409
rule_status rule.Dead = 409
rule_status (rule.Thrown reason) = 409
rule_status rule.Budget = 409
rule_status rule.Work = 409
rule_status rule.Guarded = 409
rule_status rule.Arguments = 409
rule_status rule.Calls = 409
rule_status rule.Reference = 409
rule_status rule.Cycle = 409
rule_status rule.Deep = 409
rule_status rule.History = 409
rule_status rule.Group = 409
rule_status rule.Exists = 409
rule_status rule.Full = 409
rule_status rule.Body = 413
rule_status rule.Mistyped = 422
rule_status rule.Refine = 422
rule_status rule.Key = 422
rule_status rule.Identifier = 422
rule_status rule.Large = 422
rule_status rule.Fields = 431
rule_status rule.Memory = 500
rule_status rule.Coding = 501
rule_status rule.Storage = 503

-- the names of the rules of schemas
abbrev pub schema_rule_name : SchemaRule → List ℕ
schema_rule_name schema.Shape = codes "shape"
schema_rule_name schema.Name = codes "name"
schema_rule_name schema.Twice = codes "twice"
schema_rule_name schema.Arguments = codes "arguments"
schema_rule_name schema.Depth = codes "depth"
schema_rule_name schema.History = codes "history"
schema_rule_name schema.Identifier = codes "identifier"
schema_rule_name schema.Target = codes "target"
schema_rule_name schema.Union = codes "union"
schema_rule_name schema.Default = codes "default"
