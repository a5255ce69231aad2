use Rattle.snap_core.specs.View.{view}
use Rattle.tree_core.specs.Write.{write_of}
use Rattle.tree_core.specs.Written.{target, tree}
use Rattle.answer_ops.specs.View.{answer_of}
use Rattle.answer_writing.specs.View.{in_manner}
use Rattle.answer_writing.proofs.Places.{handed_on, value-written, value-given-plain, write-plain}
use Rattle.answer_writing.proofs.giving.change_in.Goals as goal

pub returns-in_err-value-clause-outcome : goal.returns-in_err-value-clause-outcome
returns-in_err-value-clause-outcome c =
    handed_on c.args.types.now (target c.args.to.now) (tree c.args.whole.now) c.args.manner (answer_of c.args.answer) c.in_err-value.field-0.0 c.from_residual.result
    c.from_residual.ensures.1 c.in_err-value.ensures

pub returns-clause-outcome : goal.returns-clause-outcome
returns-clause-outcome c =
    let x = answer_of c.args.answer in
    value-written c.args.types.now (target c.args.to.now) (tree c.args.whole.now) c.args.manner x (view c.in_ok-value.value) (write_of c.change_by.result) c.in_ok-value.ensures
    (c.change_by.ensures x)

pub returns-clause-plain : goal.returns-clause-plain
returns-clause-plain c =
    let x = answer_of c.args.answer in
    write-plain c.args.manner x (view c.in_ok-value.value) (write_of c.change_by.result) (c.change_by.ensures x)
    (value-given-plain c.args.types.now c.root.ensures.sound (target c.args.to.now) (in_manner c.args.manner x) (tree c.args.whole.now) c.requires.tree x (view c.in_ok-value.value)
    c.requires.answer c.in_ok-value.ensures)
