use Rattle.snap_core.specs.View.{view}
use Rattle.type_core.specs.Making.{entry_making}
use Rattle.type_core.specs.Made.{Answers}
use Rattle.type_core.proofs.KeyedMaking.{entry-plain}
use Rattle.type_core.proofs.making.make_entry.Goals as goal

-- what the call answers is what making the entry comes to
answered : (c : goal.After-limited) → Answers view c.limited.result (entry_making c.args.types.now c.args.t.0 c.args.key.now (view c.args.given.now))
answered c = let made = c.in_ok-made.ensures.made in rw made c.limited.ensures

pub returns-clause-plain : goal.returns-clause-plain
returns-clause-plain c =
    entry-plain c.args.types.now c.make_keyed.ensures.sound c.args.t.0 c.args.key.now (view c.args.given.now) c.limited.result c.requires.plain (answered c)
