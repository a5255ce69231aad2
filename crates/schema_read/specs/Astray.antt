-- Expressions that lead to no model that they may name, among the faults of types.
use Rattle.std.specs.Prelude.{ℕ, List, ◌∷◌, ◌++◌, codes, Bool, true, false, nat_lt, Option, Some, None}
use Rattle.pointer_core.specs.Path.{Path}
use Rattle.pointer_core.specs.declared.schema_rule.SchemaRule.{SchemaRule}
use Rattle.pointer_core.specs.declared.schema_rule.SchemaRule.TheVariants.{Default}
use Rattle.schema_form.specs.declared.form.Astray.{Astray}
use Rattle.schema_form.specs.Pointers.{entry_path}

-- where it stands, by the name of its model and the way from there
abbrev pub astray_path : List ℕ → Path → Path
astray_path name path = entry_path name ++ codes "model" ∷ path

-- A fault of a type comes before it where both are found in the same pass, that is, where it is no fault of a default, and its type expression stands before it in the file.
abbrev pub stands_before : ℕ → SchemaRule → Astray → Bool
stands_before t Default a = false
stands_before t rule a = nat_lt t a.before.0

-- and before that of a file, if there is one
abbrev pub is_before : ℕ → SchemaRule → Option Astray → Bool
is_before t rule (Some a) = stands_before t rule a
is_before t rule None = true
