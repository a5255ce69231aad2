-- What JSON text comes to as a value.
use Rattle.std.specs.Prelude.{ℕ, ◌+◌, ℤ, List, [], ◌∷◌, if◌then◌else◌, Option, Some, None, option_and_then, Result, Ok, Err, decimal}
use Rattle.std.specs.Option.{ok_or}
use Rattle.std.specs.Str.{is_utf8}
use Rattle.serde_json.specs.Data as json
use Rattle.serde_json.specs.Data.{Num, Data, Items}
use Rattle.serde_json.specs.Find.{as_integer}
use Rattle.serde_json.specs.Read.{read}
use Rattle.snap_core.specs.Value.{Value, null, boolean, integer, text, list, dict, no_parts, part, no_members, member, is_whole, Items as PlainItems, Fields}
use Rattle.pointer_core.specs.Path.{Path}

-- what reading bytes comes to: the value that they spell, the place of the first number in them that
-- isn't whole, or nothing
pub data Reading : Type 0 where
  value : Value → Reading
  unwhole : Path → Reading
  syntax : Reading

-- the integer that a number is, where it is whole
abbrev pub whole_of : Num → Option ℤ
whole_of n = option_and_then (λ z. if is_whole z then Some z else None) (as_integer n)

-- what a part comes to, as what holds it at this token sees it
abbrev pub under : {A : Type 0} → List ℕ → Result A Path → Result A Path
under token (Ok x) = Ok x
under token (Err path) = Err (token ∷ path)

-- f of what was found
abbrev pub mapped : {A B : Type 0} → (A → B) → Result A Path → Result B Path
mapped f (Ok x) = Ok (f x)
mapped f (Err path) = Err path

-- f of both, or the first fault
abbrev pub joined : {A B C : Type 0} → (A → B → C) → Result A Path → Result B Path → Result C Path
joined f (Ok x) rest = mapped (f x) rest
joined f (Err path) rest = Err path

-- the value that JSON data is, or the path of its first number that isn't whole
abbrev mutual
  pub value_of : Data → Result Value Path
  value_of json.null = Ok null
  value_of (json.boolean b) = Ok (boolean b)
  value_of (json.number n) = mapped integer (ok_or (whole_of n) [])
  value_of (json.string s) = Ok (text s)
  value_of (json.array ds) = mapped (list tt) (items_of 0 ds)
  value_of (json.object ms) = mapped (dict tt) (members_of ms)

  -- the items from this index on
  pub items_of : ℕ → Items → Result PlainItems Path
  items_of i json.no_items = Ok no_parts
  items_of i (json.item d ds) = joined part (under (decimal i) (value_of d)) (items_of (i + 1) ds)

  pub members_of : json.Members → Result Fields Path
  members_of json.no_members = Ok no_members
  members_of (json.member k d ms) = joined (member k) (under k (value_of d)) (members_of ms)

-- the reading of data
abbrev pub found : Result Value Path → Reading
found (Ok v) = value v
found (Err path) = unwhole path

abbrev pub found_in : Option Data → Reading
found_in None = syntax
found_in (Some d) = found (value_of d)

-- the reading of bytes as JSON in UTF-8
abbrev pub reading : List ℕ → Reading
reading bytes = if is_utf8 bytes then found_in (read bytes) else syntax
