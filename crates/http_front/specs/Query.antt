-- The values of a query, which is a form in the syntax of the URL Standard.
use Rattle.std.specs.Prelude.{ℕ, List, [], ◌∷◌, Option, Some, None, if◌then◌else◌}
use Rattle.std.specs.Str.{bytes_eq}
use Rattle.std.specs.Str.Lossy.{utf8_lossy}
use Rattle.form_urlencoded.specs.Form.{raw_pairs, decode}

-- the text that a name or a value stands for: what isn't UTF-8 in the decoded bytes becomes U+FFFD
abbrev pub text_of : List ℕ → List ℕ
text_of encoded = utf8_lossy (decode encoded)

-- the value of the first pair of that name, if there is one
abbrev pub value_among : List ℕ → List (List ℕ × List ℕ) → Option (List ℕ)
value_among name [] = None
value_among name (pair ∷ pairs) =
    if bytes_eq (text_of pair.0) name then Some (text_of pair.1) else value_among name pairs

-- the value of the query's first pair of that name, if there is one
abbrev pub query_value : List ℕ → List ℕ → Option (List ℕ)
query_value query name = value_among name (raw_pairs query)
