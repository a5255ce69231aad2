-- The statuses of rules have standard phrases.
use Rattle.std.proofs.Common.{lit<, lit≤, rules}
use Rattle.std.specs.Option.{IsSome}
use Rattle.http.specs.StatusCode.{IsStatusCode, reason_phrase}
use Rattle.pointer_core.specs.declared.refusal.Rule.{Rule}
use Rattle.pointer_core.specs.declared.refusal.Rule.TheVariants as rule
use Rattle.pointer_core.specs.Rule.{rule_status}

pub status_is_code : (rule : Rule) → IsStatusCode (rule_status rule)
status_is_code rule.Syntax = (lit≤ tt, lit< tt)
status_is_code rule.Shape = (lit≤ tt, lit< tt)
status_is_code rule.Pointer = (lit≤ tt, lit< tt)
status_is_code rule.Head = (lit≤ tt, lit< tt)
status_is_code rule.Whole = (lit≤ tt, lit< tt)
status_is_code rule.Path = (lit≤ tt, lit< tt)
status_is_code rule.Unknown = (lit≤ tt, lit< tt)
status_is_code rule.Method = (lit≤ tt, lit< tt)
status_is_code rule.Operation = (lit≤ tt, lit< tt)
status_is_code rule.Index = (lit≤ tt, lit< tt)
status_is_code rule.Fixed = (lit≤ tt, lit< tt)
status_is_code rule.Alive = (lit≤ tt, lit< tt)
status_is_code rule.Protected = (lit≤ tt, lit< tt)
status_is_code rule.Kind = (lit≤ tt, lit< tt)
status_is_code rule.Range = (lit≤ tt, lit< tt)
status_is_code rule.Dead = (lit≤ tt, lit< tt)
status_is_code (rule.Thrown reason) = (lit≤ tt, lit< tt)
status_is_code rule.Budget = (lit≤ tt, lit< tt)
status_is_code rule.Work = (lit≤ tt, lit< tt)
status_is_code rule.Guarded = (lit≤ tt, lit< tt)
status_is_code rule.Arguments = (lit≤ tt, lit< tt)
status_is_code rule.Calls = (lit≤ tt, lit< tt)
status_is_code rule.Reference = (lit≤ tt, lit< tt)
status_is_code rule.Cycle = (lit≤ tt, lit< tt)
status_is_code rule.Deep = (lit≤ tt, lit< tt)
status_is_code rule.History = (lit≤ tt, lit< tt)
status_is_code rule.Group = (lit≤ tt, lit< tt)
status_is_code rule.Exists = (lit≤ tt, lit< tt)
status_is_code rule.Full = (lit≤ tt, lit< tt)
status_is_code rule.Body = (lit≤ tt, lit< tt)
status_is_code rule.Mistyped = (lit≤ tt, lit< tt)
status_is_code rule.Refine = (lit≤ tt, lit< tt)
status_is_code rule.Key = (lit≤ tt, lit< tt)
status_is_code rule.Identifier = (lit≤ tt, lit< tt)
status_is_code rule.Large = (lit≤ tt, lit< tt)
status_is_code rule.Fields = (lit≤ tt, lit< tt)
status_is_code rule.Memory = (lit≤ tt, lit< tt)
status_is_code rule.Coding = (lit≤ tt, lit< tt)
status_is_code rule.Storage = (lit≤ tt, lit< tt)

pub status_has_phrase : (rule : Rule) → IsSome (reason_phrase (rule_status rule))
status_has_phrase rule.Syntax = search rules
status_has_phrase rule.Shape = search rules
status_has_phrase rule.Pointer = search rules
status_has_phrase rule.Head = search rules
status_has_phrase rule.Whole = search rules
status_has_phrase rule.Path = search rules
status_has_phrase rule.Unknown = search rules
status_has_phrase rule.Method = search rules
status_has_phrase rule.Operation = search rules
status_has_phrase rule.Index = search rules
status_has_phrase rule.Fixed = search rules
status_has_phrase rule.Alive = search rules
status_has_phrase rule.Protected = search rules
status_has_phrase rule.Kind = search rules
status_has_phrase rule.Range = search rules
status_has_phrase rule.Dead = search rules
status_has_phrase (rule.Thrown reason) = search rules
status_has_phrase rule.Budget = search rules
status_has_phrase rule.Work = search rules
status_has_phrase rule.Guarded = search rules
status_has_phrase rule.Arguments = search rules
status_has_phrase rule.Calls = search rules
status_has_phrase rule.Reference = search rules
status_has_phrase rule.Cycle = search rules
status_has_phrase rule.Deep = search rules
status_has_phrase rule.History = search rules
status_has_phrase rule.Group = search rules
status_has_phrase rule.Exists = search rules
status_has_phrase rule.Full = search rules
status_has_phrase rule.Body = search rules
status_has_phrase rule.Mistyped = search rules
status_has_phrase rule.Refine = search rules
status_has_phrase rule.Key = search rules
status_has_phrase rule.Identifier = search rules
status_has_phrase rule.Large = search rules
status_has_phrase rule.Fields = search rules
status_has_phrase rule.Memory = search rules
status_has_phrase rule.Coding = search rules
status_has_phrase rule.Storage = search rules
