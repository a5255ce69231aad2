-- What real types give reconciling.
use Rattle.type_table.specs.Table.{Table}
use Rattle.edit_core.specs.Labelling.{IsSuited}
use Rattle.reconcile_core.specs.RealTypes.{typing_of}

-- the kind of node that types give a value, if any, suits it, whatever the types are
abbrev pub TypesSuit : Type 0
TypesSuit = (table : Table) → IsSuited (typing_of table)
