-- What is made so far, and what is left, are the whole.
use Rattle.std.proofs.Common.{◌≡◌, drop}
use Rattle.snap_core.specs.View.{items_view}
use Rattle.eval_core.specs.Making.{made_values}
use Rattle.answer_ops.specs.View.{answers_of}
use Rattle.view_engine.specs.Progress.{sight_in}
use Rattle.view_engine.proofs.Records.{with_parts}
use Rattle.view_engine.proofs.making.+made.Given as goal

abbrev pub invariant-made_items-loop-value : goal.invariant-made_items-loop-value
invariant-made_items-loop-value g l =
    let seen = sight_in g.S.Bodies.says l.scope in
    with_parts (items_view l.items) (made_values seen (answers_of (drop l.value-index l.values))) ≡ made_values seen (answers_of l.values)
