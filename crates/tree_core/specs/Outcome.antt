-- Refusals in their order: a rule is judged once those before it are met.
use Rattle.std.specs.Prelude.{◌++◌, Bool, Option, Some, None, Ok, Err, if◌then◌else◌}
use Rattle.pointer_core.specs.Path.{Path}
use Rattle.pointer_core.specs.declared.refusal.Rule.{Rule}
use Rattle.type_core.specs.Making.{Outcome}

abbrev pub refuse : {A : Type 0} → Path → Rule → Outcome A
refuse path rule = Err (record { path = path; rule = rule })

infixl 10 ◌>>=◌
abbrev pub ◌>>=◌ : {A B : Type 0} → Outcome A → (A → Outcome B) → Outcome B
(Ok x) >>= rest = rest x
(Err refusal) >>= rest = Err refusal

-- the rest, where a rule is met
abbrev pub provided : {A : Type 0} → Bool → Path → Rule → Outcome A → Outcome A
provided met path rule rest = if met then rest else refuse path rule

-- what is there, and a refusal where nothing is
abbrev pub or_refuse : {A : Type 0} → Option A → Path → Rule → Outcome A
or_refuse (Some x) path rule = Ok x
or_refuse None path rule = refuse path rule

-- an outcome of a part, as it reads from a place that a path leads to
abbrev pub seen_from : {A : Type 0} → Path → Outcome A → Outcome A
seen_from path (Ok x) = Ok x
seen_from path (Err refusal) = refuse (path ++ refusal.path) refusal.rule
