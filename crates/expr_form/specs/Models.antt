-- The models that expressions speak of.
use Rattle.std.specs.Prelude.{ℕ, ◌+◌, List, is_some, slice_get, Option, Some, None, option_and_then, if◌then◌else◌}
use Rattle.std.specs.Str.{bytes_eq}
use Rattle.snap_core.specs.Value.{Value, text, no_members, member, Fields}
use Rattle.snap_core.specs.declared.number.ModelNo.{ModelNo}
use Rattle.pointer_core.specs.declared.schema_rule.SchemaRule.TheVariants.{Shape, Name}
use Rattle.expr_form.specs.declared.models.Target.{Target}
use Rattle.expr_form.specs.declared.models.Target.TheVariants.{Other, Model, Identified}
use Rattle.expr_form.specs.Outcome.{Outcome, here, if_so}
use Rattle.expr_form.specs.Texts.{text_in}

-- what the entry of a name is; none where there is no such entry
abbrev pub Lookup : Type 0
Lookup = List ℕ → Option Target

-- where the first field with a key stands, counted from a number on
abbrev pub index_from : ℕ → Fields → List ℕ → Option ℕ
index_from n no_members key = None
index_from n (member k v ms) key = if bytes_eq key k then Some n else index_from (n + 1) ms key

-- the entries of the types, and what each of them is
abbrev pub target_of : Fields → List Target → Lookup
target_of types targets name = option_and_then (λ at. slice_get targets at) (index_from 0 types name)

-- a text that is the name of an entry, whatever the entry is
abbrev pub entry_read : Lookup → Value → Outcome (Unit {0})
entry_read lookup (text s) = if_so (is_some (lookup s)) Name tt
entry_read lookup _ = here Shape

-- the model that an entry is: for `find` one with an identifier, for `is` any
abbrev pub identified : Target → Option ModelNo
identified (Identified m) = Some m
identified _ = None

abbrev pub model : Target → Option ModelNo
model (Model m) = Some m
model (Identified m) = Some m
model Other = None

-- the model that a value names
abbrev pub named_by : (Target → Option ModelNo) → Lookup → Value → Option ModelNo
named_by fits lookup v = option_and_then (λ name. option_and_then fits (lookup name)) (text_in v)
