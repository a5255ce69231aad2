-- A pointer's text while it is read.
use Rattle.std.specs.Prelude.{ℕ, ◌++◌, List, [], ◌∷◌, Bool, if◌then◌else◌}
use Rattle.pointer_core.specs.Path.{printed, escaped}
use Rattle.pointer_core.specs.declared.parse.Reading.{Reading}

-- a `~` whose escape hasn't ended
abbrev pub open_tilde : Bool → List ℕ
open_tilde escape = if escape then 126 ∷ [] else []

-- the text that has been read
abbrev pub text_so_far : Reading → List ℕ
text_so_far r = printed r.before ++ (47 ∷ escaped r.token ++ open_tilde r.escape)
