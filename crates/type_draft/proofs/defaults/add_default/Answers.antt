use Rattle.type_draft.proofs.Rounds.{AreSoFar-more, unknown_count-more}
use Rattle.type_draft.proofs.defaults.add_default.Goals as goal

pub returns-in-Some-clause-so_far : goal.returns-in-Some-clause-so_far
returns-in-Some-clause-so_far c =
    rw c.set.ensures (AreSoFar-more c.args.types.now c.args.defaults.now c.args.t.0 c.in-Some.made c.requires.so_far (rw (c.in-Some.is, c.as_slice.ensures) at c.in_ok-made.ensures))

pub returns-in-Some-clause-added : goal.returns-in-Some-clause-added
returns-in-Some-clause-added c =
    rw c.set.ensures (unknown_count-more c.args.types.now c.args.defaults.now c.args.t.0 c.in-Some.made c.requires.so_far (rw (c.in-Some.is, c.as_slice.ensures) at c.in_ok-made.ensures))
