-- What stands among the documents behind stands among all, and nothing is found before.
use Rattle.std.proofs.Common.{◌≡◌, ℕ, ◌+◌, drop}
use Rattle.host_core.specs.Docs.{find}
use Rattle.host_core.specs.Inside.{StandsAt, held_docs}
use Rattle.host_core.proofs.held.position.Given as goal

abbrev pub invariant-loop-at : goal.invariant-loop-at
invariant-loop-at l = record {
  stands : (j : ℕ) → StandsAt l.name j (drop l.at l.docs) → StandsAt l.name (l.at + j) l.docs;
  found : find l.name (held_docs l.docs) ≡ find l.name (held_docs (drop l.at l.docs));
}
