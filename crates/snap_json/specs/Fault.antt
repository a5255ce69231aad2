-- Why bytes are no value.
use Rattle.std.specs.Prelude.{◌≡◌, Result, Err, ⊤}
use Rattle.pointer_core.specs.Path.{Path}
use Rattle.snap_json.specs.declared.read.ReadError.{ReadError}
use Rattle.snap_json.specs.declared.read.ReadError.TheVariants.{Memory, Syntax, Whole}

-- P, where memory ran out; for private clauses
abbrev pub IfMemory : ReadError → Type 0 → Type 0
IfMemory Memory P = P
IfMemory Syntax P = ⊤
IfMemory (Whole path) P = ⊤

-- P, where the bytes are no JSON
abbrev pub IfSyntax : ReadError → Type 0 → Type 0
IfSyntax Memory P = ⊤
IfSyntax Syntax P = P
IfSyntax (Whole path) P = ⊤

-- P of the path, where a number isn't whole
abbrev pub IfWhole : ReadError → (Path → Type 0) → Type 0
IfWhole Memory P = ⊤
IfWhole Syntax P = ⊤
IfWhole (Whole path) P = P path

-- memory was at fault, or this is the path that was found; for private clauses
abbrev pub IsFaultOf : {A : Type 0} → ReadError → Result A Path → Type 0
IsFaultOf Memory found = ⊤
IsFaultOf Syntax found = ⊥
IsFaultOf (Whole path) found = found ≡ Err path
