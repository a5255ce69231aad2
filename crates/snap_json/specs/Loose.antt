-- What JSON text comes to where its numbers aren't asked to be whole.
use Rattle.std.specs.Prelude.{ℕ, ℤ, pos, List, Option, Some, None, option_map, if◌then◌else◌}
use Rattle.std.specs.Str.{is_utf8}
use Rattle.serde_json.specs.Data as json
use Rattle.serde_json.specs.Data.{Num, Data, Items}
use Rattle.serde_json.specs.Read.{read}
use Rattle.snap_core.specs.Value.{Value, null, boolean, integer, text, list, dict, no_parts, part, no_members, member, Items as PlainItems, Fields}
use Rattle.snap_json.specs.Reading.{whole_of}

-- the integer that a number is, or the first one past those that a value holds
abbrev pub loose_integer : Option ℤ → ℤ
loose_integer (Some z) = z
loose_integer None = pos 9007199254740992

-- the value that JSON data is, with such an integer for each number that isn't whole
abbrev mutual
  pub loose_value : Data → Value
  loose_value json.null = null
  loose_value (json.boolean b) = boolean b
  loose_value (json.number n) = integer (loose_integer (whole_of n))
  loose_value (json.string s) = text s
  loose_value (json.array ds) = list tt (loose_items ds)
  loose_value (json.object ms) = dict tt (loose_members ms)

  pub loose_items : Items → PlainItems
  loose_items json.no_items = no_parts
  loose_items (json.item d ds) = part (loose_value d) (loose_items ds)

  pub loose_members : json.Members → Fields
  loose_members json.no_members = no_members
  loose_members (json.member k d ms) = member k (loose_value d) (loose_members ms)

-- the loose reading of bytes as JSON in UTF-8, if they have one
abbrev pub loosely : List ℕ → Option Value
loosely bytes = if is_utf8 bytes then option_map loose_value (read bytes) else None
