-- What the tree says of a value that isn't made.
use Rattle.type_core.specs.declared.making.MakeError.{MakeError}
use Rattle.type_core.specs.declared.making.MakeError.TheVariants as made
use Rattle.tree_core.specs.declared.error.TreeError.{TreeError}
use Rattle.tree_core.specs.declared.error.TreeError.TheVariants.{Memory, Refused}

abbrev pub tree_error : MakeError → TreeError
tree_error made.Memory = Memory
tree_error (made.Refused r) = Refused r
