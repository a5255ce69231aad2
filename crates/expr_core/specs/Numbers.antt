-- Numbers of what models have, counted from 0 through the lists of all models in order.
use Rattle.std.specs.Prelude.{ℕ, ◌+◌, List, [], length, take, slice_get, Option, option_map}
use Rattle.std.specs.Option.{unwrap_or}
use Rattle.std.specs.List.{flat_map, position}
use Rattle.std.specs.Str.{bytes_eq}

-- the parts of all models, in the order of their numbers
abbrev pub joined : {A : Type 0} → List (List A) → List A
joined lists = flat_map (λ parts. parts) lists

-- the parts of a model; none where there is no such model
abbrev pub parts_of : {A : Type 0} → List (List A) → ℕ → List A
parts_of lists m = unwrap_or (slice_get lists m) []

-- how many parts the models before have, and then where the first part of this name stands among the model's own
abbrev pub number_of : {A : Type 0} → (A → List ℕ) → List (List A) → ℕ → List ℕ → Option ℕ
number_of name_of lists m name =
    option_map (λ at. length (joined (take m lists)) + at) (position (λ part. bytes_eq name (name_of part)) (parts_of lists m))
