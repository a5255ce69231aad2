-- What was read, and then what is left, are the whole; and no `~` of what is left is wrong.
use Rattle.std.proofs.Common.{◌≡◌, ◌∷◌, ◌++◌}
use Rattle.std.specs.Str.Iter.{chars_rest}
use Rattle.pointer_core.specs.Reading.{text_so_far, open_tilde}
use Rattle.pointer_core.proofs.Tildes.{Fine}
use Rattle.pointer_core.proofs.parse.read_behind.Given as goal

abbrev pub invariant-loop-c : goal.invariant-loop-c
invariant-loop-c l = record {
  whole : text_so_far l.reading ++ chars_rest l.c-iterator ≡ 47 ∷ l.behind;
  fine : Fine (open_tilde l.reading.escape ++ chars_rest l.c-iterator);
}
