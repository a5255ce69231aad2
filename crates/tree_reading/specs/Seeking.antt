-- What a search by model and identifier looks for.
use Rattle.std.specs.Prelude.{ℕ, List, Option}
use Rattle.snap_core.specs.declared.ident.Ident.{Ident}
use Rattle.snap_core.specs.declared.number.ModelNo.{ModelNo}
use Rattle.tree_core.specs.Reading.{Sought}

-- an identifier of a model, by the name of the model's identifier
abbrev pub sought : Option (List ℕ) → ModelNo → Ident → Sought
sought name m identifier = record { name = name; model = m; identifier = identifier }
