-- What a pointer's token names in a value.
use Rattle.std.specs.Prelude.{ℕ, ◌+◌, List, codes, Option, Some, None, option_and_then, if◌then◌else◌, nat_lt}
use Rattle.std.specs.Option.{option_map}
use Rattle.std.specs.Str.{bytes_eq}
use Rattle.snap_core.specs.Value.{Tree, list, dict}
use Rattle.snap_core.specs.Level.{Step, at_index, at_key, child}
use Rattle.pointer_core.specs.Index.{index_of}

-- the step that a token is: an index in a list, a key in a record
abbrev pub step_of : {A : Type 0} → List ℕ → Tree A → Option Step
step_of token (list a ps) = option_map at_index (index_of token)
step_of token (dict a ms) = Some (at_key token)
step_of token _ = None

-- the part that a token names
abbrev pub part_under : {A : Type 0} → List ℕ → Tree A → Option (Tree A)
part_under token t = option_and_then (λ step. child step t) (step_of token t)

-- the index that a token names, where it is below a bound
abbrev pub index_below : ℕ → List ℕ → Option ℕ
index_below bound token = option_and_then (λ i. if nat_lt i bound then Some i else None) (index_of token)

-- the index where a new item goes in a list of a length: `-` is the end
abbrev pub new_index : ℕ → List ℕ → Option ℕ
new_index length token = if bytes_eq token (codes "-") then Some length else index_below (length + 1) token
