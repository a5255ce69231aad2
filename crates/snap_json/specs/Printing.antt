-- The JSON text of a value.
use Rattle.std.specs.Prelude.{ℕ, List}
use Rattle.serde_json.specs.Data as json
use Rattle.serde_json.specs.Data.{Data, Items, put}
use Rattle.serde_json.specs.Find.{of_integer}
use Rattle.serde_json.specs.Written.{compact_text}
use Rattle.snap_core.specs.Value.{Value, null, boolean, integer, text, list, dict, no_parts, part, no_members, member, Items as PlainItems, Fields}

-- a value as JSON data
abbrev mutual
  pub data_of : Value → Data
  data_of null = json.null
  data_of (boolean b) = json.boolean b
  data_of (integer z) = json.number (of_integer z)
  data_of (text s) = json.string s
  data_of (list a ps) = json.array (items_data ps)
  data_of (dict a ms) = json.object (members_data ms)

  pub items_data : PlainItems → Items
  items_data no_parts = json.no_items
  items_data (part v ps) = json.item (data_of v) (items_data ps)

  pub members_data : Fields → json.Members
  members_data no_members = json.no_members
  members_data (member k v ms) = json.member k (data_of v) (members_data ms)

-- a value's text, with no space
abbrev pub json_text : Value → List ℕ
json_text v = compact_text (data_of v)

-- the data that is built where entries go one after another into a map by key; for private clauses
abbrev mutual
  pub built_of : Value → Data
  built_of null = json.null
  built_of (boolean b) = json.boolean b
  built_of (integer z) = json.number (of_integer z)
  built_of (text s) = json.string s
  built_of (list a ps) = json.array (items_built ps)
  built_of (dict a ms) = json.object (members_built ms json.no_members)

  pub items_built : PlainItems → Items
  items_built no_parts = json.no_items
  items_built (part v ps) = json.item (built_of v) (items_built ps)

  pub members_built : Fields → json.Members → json.Members
  members_built no_members done = done
  members_built (member k v ms) done = members_built ms (put k (built_of v) done)
