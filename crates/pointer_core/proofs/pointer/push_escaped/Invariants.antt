-- What is written, and then the characters that are left, are the whole.
use Rattle.std.proofs.Common.{◌≡◌, ◌++◌}
use Rattle.std.specs.Str.Iter.{chars_rest}
use Rattle.pointer_core.specs.Path.{escaped}
use Rattle.pointer_core.proofs.pointer.push_escaped.Given as goal

abbrev pub invariant-loop-c : goal.invariant-loop-c
invariant-loop-c l = l.text ++ escaped (chars_rest l.c-iterator) ≡ l.fn.text ++ escaped l.fn.token
