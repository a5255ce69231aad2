-- What reading a part of a schema file comes to.
use Rattle.std.specs.Prelude.{◌≡◌, ℕ, List, [], ◌∷◌, Bool, Result, Ok, Err, Option, Some, None, decimal, if◌then◌else◌}
use Rattle.pointer_core.specs.Path.{Path}
use Rattle.pointer_core.specs.declared.schema_rule.SchemaRule.{SchemaRule}
use Rattle.pointer_core.specs.declared.schema_rule.SchemaRule.TheVariants.{Shape}
use Rattle.expr_form.specs.declared.fault.Fault.{Fault}
use Rattle.expr_form.specs.declared.fault.Trouble.{Trouble}
use Rattle.expr_form.specs.declared.fault.Trouble.TheVariants.{Memory, Wrong, Astray}

-- The first fault in form, names, repetitions and depth. Where there is none, the first expression that leads to no model. Where there is none either, what is read.
pub data Outcome (A : Type 0) : Type 0 where
  wrong : Fault → Outcome A
  astray : Path → Outcome A
  reads : A → Outcome A

-- a rule that isn't met at the place itself
abbrev pub here : {A : Type 0} → SchemaRule → Outcome A
here rule = wrong (record { path = []; rule = rule })

-- what is read, if the test holds, and otherwise the rule
abbrev pub if_so : {A : Type 0} → Bool → SchemaRule → A → Outcome A
if_so holds rule a = if holds then reads a else here rule

-- the same outcome, one step further down
unfoldable pub under : {A : Type 0} → List ℕ → Outcome A → Outcome A
under token (wrong f) = wrong (record { path = token ∷ f.path; rule = f.rule })
under token (astray path) = astray (token ∷ path)
under token (reads a) = reads a

abbrev pub at : {A : Type 0} → ℕ → Outcome A → Outcome A
at index outcome = under (decimal index) outcome

-- two parts, one behind the other
unfoldable pub both : {A B : Type 0} → Outcome A → Outcome B → Outcome (A × B)
both (wrong f) second = wrong f
both (astray path) (wrong f) = wrong f
both (astray path) second = astray path
both (reads a) (wrong f) = wrong f
both (reads a) (astray path) = astray path
both (reads a) (reads b) = reads (a, b)

-- what is made of what is read
unfoldable pub made : {A B : Type 0} → (A → B) → Outcome A → Outcome B
made f (wrong fault) = wrong fault
made f (astray path) = astray path
made f (reads a) = reads (f a)

-- a result tells the outcome, unless memory ran out: each value of it is seen by `seen`
abbrev pub Tells : {A B : Type 0} → (A → B) → Result A Trouble → Outcome B → Type 0
Tells seen (Ok a) outcome = outcome ≡ reads (seen a)
Tells seen (Err (Wrong f)) outcome = outcome ≡ wrong f
Tells seen (Err (Astray path)) outcome = outcome ≡ astray path
Tells seen (Err Memory) outcome = Unit {0}

-- what is read of something further on
unfoldable pub and_then : {A B : Type 0} → Outcome A → (A → Outcome B) → Outcome B
and_then (wrong f) next = wrong f
and_then (astray path) next = astray path
and_then (reads a) next = next a

-- what is read of the parts of a value, if it has so many; otherwise it hasn't the form
unfoldable pub of_parts : {A B : Type 0} → Option A → (A → Outcome B) → Outcome B
of_parts (Some parts) read = read parts
of_parts None read = here Shape
