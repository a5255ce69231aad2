-- A pointer to where the climb stands, and the path so far behind it, is one to where it began.
use Rattle.std.proofs.Common.{◌<◌, ◌++◌, length}
use Rattle.pointer_core.specs.Path.{Path}
use Rattle.schema_form.specs.Pointers.{IsPointer}
use Rattle.schema_form.proofs.pointer.pointer_to.Given as goal

abbrev pub invariant-loop-entry : goal.invariant-loop-entry
invariant-loop-entry l = (l.at.0 < length l.places) × ((path : Path) → IsPointer l.entries l.models l.places l.at.0 path → IsPointer l.entries l.models l.places l.fn.t.0 (path ++ l.path))

abbrev pub decreases-loop-entry : goal.decreases-loop-entry
decreases-loop-entry l = l.at.0
