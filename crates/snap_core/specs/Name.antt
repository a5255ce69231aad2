-- Names of the parts of a schema.
use Rattle.std.specs.Prelude.{ℕ, List, length, slice_index, Bool, ◌&&◌, ◌||◌, not, ◌==◌, nat_lt, nat_le}
use Rattle.std.specs.List.{list_all}
use Rattle.std.specs.Char.{is_ascii_alphanumeric, is_ascii_digit}

-- an ASCII letter, a digit or `_`
abbrev pub is_name_byte : ℕ → Bool
is_name_byte b = is_ascii_alphanumeric b || b == 95

-- 1 to 64 such bytes, with no digit first
abbrev pub is_name : List ℕ → Bool
is_name bytes =
    nat_lt 0 (length bytes) && nat_le (length bytes) 64 && not (is_ascii_digit (slice_index bytes 0)) && list_all is_name_byte bytes
