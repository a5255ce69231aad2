-- The texts of expressions that are names.
use Rattle.std.specs.Prelude.{ℕ, List, [], ◌∷◌, ◌++◌, codes, Bool, ◌||◌, not, if◌then◌else◌}
use Rattle.std.specs.Str.{bytes_eq}
use Rattle.snap_core.specs.Name.{is_name}
use Rattle.snap_core.specs.Value.{Value, text}
use Rattle.pointer_core.specs.declared.schema_rule.SchemaRule.TheVariants.{Shape, Name, Twice}
use Rattle.expr_form.specs.Outcome.{Outcome, here, if_so}
use Rattle.expr_form.specs.Scope.{is_among}

-- the name of a property, a view, an action or a reason
abbrev pub name_read : Value → Outcome (List ℕ)
name_read (text s) = if_so (is_name s) Name s
name_read _ = here Shape

-- the name of a variable, which is bound
abbrev pub variable_read : List (List ℕ) → Value → Outcome (List ℕ)
variable_read names (text s) = if is_name s then if_so (is_among names s) Name s else here Name
variable_read names _ = here Shape

-- `self` and `root` are bound everywhere
abbrev pub is_fixed : List ℕ → Bool
is_fixed s = bytes_eq s (codes "self") || bytes_eq s (codes "root")

-- a name that is bound from there on
abbrev pub binder_read : Value → Outcome (List ℕ)
binder_read (text s) = if is_name s then if_so (not (is_fixed s)) Twice s else here Name
binder_read _ = here Shape

-- the names with that which a binder binds; what is no text binds none
abbrev pub bound : List (List ℕ) → Value → List (List ℕ)
bound names (text s) = names ++ s ∷ []
bound names _ = names
