-- What stands under names in a schema file.
use Rattle.std.specs.Prelude.{ℕ, List, codes, Option, Some, None, if◌then◌else◌}
use Rattle.std.specs.Str.{bytes_eq}
use Rattle.snap_core.specs.Value.{Value, text, list, dict, no_parts, part, no_members, member, value_at, Items, Fields}

-- the entries of an object; none of any other value, and none where there is no value
abbrev pub entries : Value → Fields
entries (dict a ms) = ms
entries _ = no_members

abbrev pub entries_in : Option Value → Fields
entries_in (Some v) = entries v
entries_in None = no_members

-- the types of a file
abbrev pub types_of : Value → Fields
types_of file = entries_in (value_at (codes "types") (entries file))

-- the model that an entry of the types is, if it is one
abbrev pub model_in : Value → Option Value
model_in (dict a (member k v no_members)) = if bytes_eq k (codes "model") then Some v else None
model_in _ = None

-- the properties of a model
abbrev pub properties_in : Value → Fields
properties_in model = entries_in (value_at (codes "properties") (entries model))

-- the items of a list; none of any other value
abbrev pub items : Value → Items
items (list a ps) = ps
items _ = no_parts

-- the name and the type of a parameter, which are two
abbrev pub param_in : Value → Option (List ℕ × Value)
param_in (list a (part (text name) (part of no_parts))) = Some (name, of)
param_in _ = None
