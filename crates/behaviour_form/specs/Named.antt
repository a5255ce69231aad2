-- Keys that must be names, and that stand for one thing of a model alone.
use Rattle.std.specs.Prelude.{ℕ, List, [], ◌∷◌, codes, Bool, true, false, ◌||◌, not, is_some, Result, Ok, Err, Option, Some, None, if◌then◌else◌}
use Rattle.snap_core.specs.Name.{is_name}
use Rattle.snap_core.specs.Value.{Value, dict, value_at, Fields}
use Rattle.pointer_core.specs.Path.{Path}
use Rattle.pointer_core.specs.declared.schema_rule.SchemaRule.TheVariants.{Name, Twice}
use Rattle.expr_form.specs.declared.fault.Trouble.{Trouble}
use Rattle.expr_form.specs.declared.fault.Trouble.TheVariants.{Memory, Wrong, Astray}
use Rattle.expr_form.specs.Outcome.{Outcome, wrong, here, if_so, both}
use Rattle.expr_form.specs.Results.{both_of}

-- whether an object has a key
abbrev pub has_key : List ℕ → Value → Bool
has_key key (dict a ms) = is_some (value_at key ms)
has_key key _ = false

-- whether the part of a model under a key has a name
abbrev pub in_part : Option Value → List ℕ → Bool
in_part (Some v) name = has_key name v
in_part None name = false

abbrev pub stands_in : List ℕ → Fields → List ℕ → Bool
stands_in part parts name = in_part (value_at part parts) name

-- whether a name stands for an action or a property of a model, which come before its views
abbrev pub is_taken : Fields → List ℕ → Bool
is_taken parts name = stands_in (codes "actions") parts name || stands_in (codes "properties") parts name

-- a key that must be a name, and none that is taken
abbrev pub key_read : (List ℕ → Bool) → List ℕ → Outcome (List ℕ)
key_read taken key = if is_name key then if_so (not (taken key)) Twice key else here Name

-- a fault at the place itself
abbrev pub is_here : Path → Bool
is_here [] = true
is_here (token ∷ path) = false

-- What stands under a key that must be a name: a fault of the value itself comes first, then one of the key, then those inside the value.
unfoldable pub named : {A B : Type 0} → Outcome A → Outcome B → Outcome (A × B)
named key (wrong f) = if is_here f.path then wrong f else both key (wrong f)
named key value = both key value

-- Whether a value's trouble comes before that of its key. A lack of memory does too: what the value would have said isn't known then, so neither is whether its key's fault is the first.
abbrev pub comes_first : Trouble → Bool
comes_first Memory = true
comes_first (Wrong f) = is_here f.path
comes_first (Astray path) = false

-- the same of results
abbrev pub named_of : {A B : Type 0} → Result A Trouble → Result B Trouble → Result (A × B) Trouble
named_of key (Err trouble) = if comes_first trouble then Err trouble else both_of key (Err trouble)
named_of key (Ok value) = both_of key (Ok value)
