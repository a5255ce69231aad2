-- What paths name, and how documents are named.
use Rattle.std.specs.Prelude.{ℕ, List, length, Bool, ◌&&◌, ◌||◌, ◌==◌, nat_le}
use Rattle.std.specs.List.{list_all}
use Rattle.std.specs.Char.{is_ascii_alphanumeric}
use Rattle.route_core.specs.declared.place.Part.{Part}
use Rattle.route_core.specs.declared.place.Place as declared
use Rattle.route_core.specs.declared.place.Place.TheVariants as variants

-- what a path names: trying a value, the names of all documents, a part of one document, or a view of one
pub data Place : Type 0 where
  check : Place
  names : Place
  document : List ℕ → Part → Place
  view : List ℕ → List ℕ → Place

-- a place of the program as a place
abbrev pub seen_place : declared.Place → Place
seen_place variants.Check = check
seen_place variants.Names = names
seen_place (variants.Document name part) = document name.now part
seen_place (variants.View name one) = view name.now one.now

-- a byte of a document's name: a letter, a digit, `_` or `-`
abbrev pub is_name_byte : ℕ → Bool
is_name_byte b = is_ascii_alphanumeric b || b == 95 || b == 45

-- a document's name has 1 to 64 such bytes
abbrev pub is_document_name : List ℕ → Bool
is_document_name name = nat_le 1 (length name) && nat_le (length name) 64 && list_all is_name_byte name
