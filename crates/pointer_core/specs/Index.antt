-- Tokens that are indices into lists, as RFC 6901 has them: no sign and no leading zero.
use Rattle.std.specs.Prelude.{ℕ, ◌==◌, ◌&&◌, List, [], ◌∷◌, length, Bool, false, Option, Some, None, nat_lt, if◌then◌else◌}
use Rattle.std.specs.Char.{is_ascii_digit}
use Rattle.std.specs.List.{list_all}
use Rattle.std.specs.Str.Parse.{digits_value}

-- `0`, or a digit 1 to 9 and further digits
abbrev pub is_numeral : List ℕ → Bool
is_numeral [] = false
is_numeral (d ∷ ds) = if d == 48 then length ds == 0 else list_all is_ascii_digit (d ∷ ds)

-- the index that a token names, which is below 2 to the power of 32
abbrev pub index_of : List ℕ → Option ℕ
index_of token = if is_numeral token && nat_lt (digits_value 10 token) 4294967296 then Some (digits_value 10 token) else None
