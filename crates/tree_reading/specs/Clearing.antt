-- What the code of settling goes by.
use Rattle.tree_core.specs.Settling.{Settling}
use Rattle.tree_reading.specs.declared.loose.Clearing.{Clearing}

abbrev pub goes_by : Clearing → Settling
goes_by c = record { table = c.types.now.table; keys = c.met.now }
