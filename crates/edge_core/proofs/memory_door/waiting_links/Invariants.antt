-- What is made so far, and what is left, are the whole.
use Rattle.std.proofs.Common.{◌≡◌, ◌++◌, length}
use Rattle.std.specs.List.{All}
use Rattle.std.specs.Vec.Iter.{into_iter_items, into_iter_len}
use Rattle.edge_core.specs.LinkInside.{IsFresh, inputs_of}
use Rattle.edge_core.proofs.memory_door.waiting_links.Given as goal

abbrev pub invariant-loop-input : goal.invariant-loop-input
invariant-loop-input l =
    record {
      inputs : inputs_of l.coming.items ++ into_iter_items l.input-iterator ≡ into_iter_items l.initial.input-iterator;
      left : into_iter_len l.input-iterator ≡ length (into_iter_items l.input-iterator);
      fresh : All (IsFresh l.space) l.coming.items;
    }
