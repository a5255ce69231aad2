-- What a document says of the errors of the crates below.
use Rattle.type_core.specs.declared.making.MakeError.{MakeError}
use Rattle.type_core.specs.declared.making.MakeError.TheVariants as made
use Rattle.tree_core.specs.declared.error.TreeError.{TreeError}
use Rattle.tree_core.specs.declared.error.TreeError.TheVariants as tree
use Rattle.view_engine.specs.declared.halt.RunError.{RunError}
use Rattle.view_engine.specs.declared.halt.RunError.TheVariants as run
use Rattle.doc_core.specs.declared.error.DocError.{DocError}
use Rattle.doc_core.specs.declared.error.DocError.TheVariants.{Memory, Refused}

-- a value that isn't made, a tree that isn't read or written, and a view that has no answer
abbrev pub making_error : MakeError → DocError
making_error made.Memory = Memory
making_error (made.Refused r) = Refused r

abbrev pub tree_error : TreeError → DocError
tree_error tree.Memory = Memory
tree_error (tree.Refused r) = Refused r

abbrev pub run_error : RunError → DocError
run_error run.Memory = Memory
run_error (run.Refused r) = Refused r
