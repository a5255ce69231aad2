use Rattle.std.proofs.Common.{[], ◌∙◌, map}
use Rattle.snap_core.specs.Value.{null, text}
use Rattle.snap_core.specs.View.{view}
use Rattle.type_table.proofs.TakenLemmas.{meets-one, meets-these}
use Rattle.type_table.proofs.taken.Taken.meets.Goals as goal

pub returns-in-Null : goal.returns-in-Null
returns-in-Null c = λ taken h. rw c.in-Null.is (c.has_null.ensures ∙ meets-one c.args.self.now taken h null)

pub returns-in-One : goal.returns-in-One
returns-in-One c = λ taken h. rw c.in-One.is (c.has.ensures ∙ meets-one c.args.self.now taken h (view c.in-One.scalar.now))

pub returns-in-Each : goal.returns-in-Each
returns-in-Each c = λ taken h. rw c.in-Each.is (c.has_one.ensures ∙ meets-these c.args.self.now taken h (map text c.in-Each.texts.now))

pub returns-in-None : goal.returns-in-None
returns-in-None c = λ taken h. rw c.in-None.is (meets-these c.args.self.now taken h [])
