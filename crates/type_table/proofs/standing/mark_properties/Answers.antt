use Rattle.std.proofs.Common.{length, ap, ◌∙◌}
use Rattle.type_table.specs.Table.{Table}
use Rattle.type_table.specs.Identifiers.{property_types}
use Rattle.type_table.specs.Marks.{AreMarks}
use Rattle.type_table.proofs.Marking.{models-next, models-done, AreMarks-all, length-all}
use Rattle.type_table.proofs.standing.mark_properties.Goals as goal

pub loop-model-preserved : goal.loop-model-preserved
loop-model-preserved c =
    let l = c.loop-model in
    rw (c.mark_each.ensures, c.as_slice.ensures)
    (models-next l.marks c.as_slice-model-items.result.now l.model-index c.model-item.result _ c.loop-model-test.true c.model-item.is l.invariant)

pub returns-clause-marks : goal.returns-clause-marks
returns-clause-marks c =
    let l = c.loop-model in
    let ts = property_types c.as_slice-model-items.result.now in
    let all : AreMarks l.marks ts = AreMarks-all (length c.args.table.now.shapes) l.marks ts
    (models-done l.marks c.as_slice-model-items.result.now l.model-index _ c.loop-model-test.false l.invariant) in
    rw (c.as_slice-model-items.ensures ∙ ap (λ (table : Table). table.models) c.table.view_is) at all

pub returns-clause-count : goal.returns-clause-count
returns-clause-count c =
    let l = c.loop-model in
    length-all (length c.args.table.now.shapes) l.marks (property_types c.as_slice-model-items.result.now)
    (models-done l.marks c.as_slice-model-items.result.now l.model-index _ c.loop-model-test.false l.invariant)
