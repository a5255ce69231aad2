use Rattle.std.proofs.Common.{length, ap, ◌∙◌}
use Rattle.type_table.specs.Table.{Table}
use Rattle.type_table.specs.Identifiers.{second_types}
use Rattle.type_table.specs.Marks.{AreMarks}
use Rattle.type_table.proofs.Marking.{seconds-next, seconds-done, AreMarks-all, length-all}
use Rattle.type_table.proofs.standing.mark_seconds.Goals as goal

pub loop-model-preserved : goal.loop-model-preserved
loop-model-preserved c =
    let l = c.loop-model in
    rw (c.mark_later.ensures, c.as_slice.ensures)
    (seconds-next c.args.table.now l.marks c.as_slice-model-items.result.now l.model-index c.model-item.result _ c.loop-model-test.true c.model-item.is l.invariant)

pub returns-clause-marks : goal.returns-clause-marks
returns-clause-marks c =
    let l = c.loop-model in
    let ts = second_types c.args.table.now c.as_slice-model-items.result.now in
    let all : AreMarks l.marks ts = AreMarks-all (length c.args.table.now.shapes) l.marks ts
    (seconds-done c.args.table.now l.marks c.as_slice-model-items.result.now l.model-index _ c.loop-model-test.false l.invariant) in
    rw (c.as_slice-model-items.ensures ∙ ap (λ (table : Table). table.models) c.table.view_is) at all

pub returns-clause-count : goal.returns-clause-count
returns-clause-count c =
    let l = c.loop-model in
    length-all (length c.args.table.now.shapes) l.marks (second_types c.args.table.now c.as_slice-model-items.result.now)
    (seconds-done c.args.table.now l.marks c.as_slice-model-items.result.now l.model-index _ c.loop-model-test.false l.invariant)
