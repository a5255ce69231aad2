-- How long the body after a head is.
use Rattle.std.specs.Prelude.{ℕ, List, [], ◌∷◌, length, map, filter, Bool, ◌&&◌, ◌==◌, nat_le, if◌then◌else◌, Result, Ok, Err, codes}
use Rattle.std.specs.Char.{is_ascii_digit}
use Rattle.std.specs.List.{list_all}
use Rattle.std.specs.Str.{str_eq_ignore_ascii_case}
use Rattle.std.specs.Str.Parse.{digits_value}

-- a field's name, and its value without the white space around it
abbrev pub NamedValue : Type 0
NamedValue = List ℕ × List ℕ

-- the values of the fields of this name, whatever the case of its letters
abbrev pub values_of : List ℕ → List NamedValue → List (List ℕ)
values_of name fields = map (λ f. f.1) (filter (λ f. str_eq_ignore_ascii_case f.0 name) fields)

-- no field has this name
abbrev pub lacks : List ℕ → List NamedValue → Bool
lacks name fields = length (values_of name fields) == 0

-- a length is written in 1 to 18 digits
abbrev pub is_length_text : List ℕ → Bool
is_length_text value = nat_le 1 (length value) && nat_le (length value) 18 && list_all is_ascii_digit value

-- a body has at most 262,144 bytes: otherwise 413 (Payload Too Large)
abbrev pub bounded_length : ℕ → Result ℕ ℕ
bounded_length n = if nat_le n 262144 then Ok n else Err 413

-- the length that a value of Content-Length writes: otherwise 400 (Bad Request)
abbrev pub written_length : List ℕ → Result ℕ ℕ
written_length value =
    if is_length_text value then bounded_length (digits_value 10 value) else Err 400

-- the length that the values of Content-Length give: none is an empty body, and two are 400 (Bad Request)
abbrev pub given_length : List (List ℕ) → Result ℕ ℕ
given_length [] = Ok 0
given_length (value ∷ []) = written_length value
given_length (value ∷ other ∷ values) = Err 400

-- The length of the body after these fields, or the status of the refusal: a coded body is 501 (Not Implemented), whatever its
-- length.
abbrev pub body_length : List NamedValue → Result ℕ ℕ
body_length fields =
    if lacks (codes "transfer-encoding") fields
    then given_length (values_of (codes "content-length") fields) else Err 501
