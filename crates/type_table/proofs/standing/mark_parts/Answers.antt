use Rattle.std.proofs.Common.{length, ap, ◌∙◌}
use Rattle.type_table.specs.Table.{Table}
use Rattle.type_table.specs.Identifiers.{part_types}
use Rattle.type_table.specs.Marks.{AreMarks}
use Rattle.type_table.proofs.Marking.{shapes-next, shapes-done, AreMarks-all, length-all}
use Rattle.type_table.proofs.standing.mark_parts.Goals as goal

pub loop-shape-preserved : goal.loop-shape-preserved
loop-shape-preserved c =
    let l = c.loop-shape in
    rw (c.mark_part.ensures)
    (shapes-next l.marks c.as_slice-shape-items.result.now l.shape-index c.shape-item.result _ c.loop-shape-test.true c.shape-item.is l.invariant)

pub returns-clause-marks : goal.returns-clause-marks
returns-clause-marks c =
    let l = c.loop-shape in
    let ts = part_types c.as_slice-shape-items.result.now in
    let all : AreMarks l.marks ts = AreMarks-all (length c.args.table.now.shapes) l.marks ts
    (shapes-done l.marks c.as_slice-shape-items.result.now l.shape-index _ c.loop-shape-test.false l.invariant) in
    rw (c.as_slice-shape-items.ensures ∙ ap (λ (table : Table). table.shapes) c.table.view_is) at all

pub returns-clause-count : goal.returns-clause-count
returns-clause-count c =
    let l = c.loop-shape in
    length-all (length c.args.table.now.shapes) l.marks (part_types c.as_slice-shape-items.result.now)
    (shapes-done l.marks c.as_slice-shape-items.result.now l.shape-index _ c.loop-shape-test.false l.invariant)
