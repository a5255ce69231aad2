use Rattle.snap_core.specs.View.{view}
use Rattle.type_core.specs.Making.{making}
use Rattle.type_core.specs.Made.{Answers, value_of}
use Rattle.type_core.proofs.Again.{IfSome-value_of, answer-table, answer-only, answer-again, answer-plain, answer-handed_on}
use Rattle.type_core.proofs.making.make.Goals as goal

-- what the call answers is what making comes to
answered : (c : goal.After-limited) → Answers view c.limited.result (making c.args.types.now c.args.t.0 (value_of c.args.given))
answered c = let made = c.in_ok-made.ensures.made in rw made c.limited.ensures

pub returns-in_err-made-clause-only : goal.returns-in_err-made-clause-only
returns-in_err-made-clause-only c =
    let was = c.in_err-made.was in
    let made = c.make_any.ensures.made in
    answer-only c.args.types.now c.make_any.ensures.sound c.args.t.0 (value_of c.args.given) _
    (answer-handed_on c.args.types.now c.args.t.0 (value_of c.args.given) c.in_err-made.field-0.0 _ c.from_residual.ensures.1 (rw was at made))

pub returns-clause-table : goal.returns-clause-table
returns-clause-table c = answer-table c.args.types.now c.make_any.ensures.sound c.args.t.0 _ _ (answered c)

pub returns-clause-only : goal.returns-clause-only
returns-clause-only c = answer-only c.args.types.now c.make_any.ensures.sound c.args.t.0 _ _ (answered c)

pub returns-clause-again : goal.returns-clause-again
returns-clause-again c = answer-again c.args.types.now c.make_any.ensures.sound c.args.t.0 (value_of c.args.given) _ (answered c)

pub returns-clause-plain : goal.returns-clause-plain
returns-clause-plain c =
    answer-plain c.args.types.now c.make_any.ensures.sound c.args.t.0 (value_of c.args.given) _ (IfSome-value_of c.args.given c.requires.plain) (answered c)
