-- What is said of a path that isn't read.
use Rattle.pointer_core.specs.declared.error.PointerError.{PointerError}
use Rattle.pointer_core.specs.declared.error.PointerError.TheVariants.{Memory, NoSlash, BadTilde}
use Rattle.patch_core.specs.declared.error.PatchError.{PatchError}
use Rattle.patch_core.specs.declared.error.PatchError.TheVariants as error

abbrev pub path_error : PointerError → PatchError
path_error Memory = error.Memory
path_error NoSlash = error.Pointer
path_error (BadTilde at) = error.Pointer
