use Rattle.type_table.proofs.Marking.{properties-next, properties-done}
use Rattle.type_table.proofs.standing.mark_each.Goals as goal

pub loop-property-preserved : goal.loop-property-preserved
loop-property-preserved c =
    let l = c.loop-property in
    rw c.mark.ensures (properties-next l.marks c.args.properties.now l.property-index c.property-item.result _ c.loop-property-test.true c.property-item.is l.invariant)

pub returns : goal.returns
returns c =
    let l = c.loop-property in
    properties-done l.marks c.args.properties.now l.property-index _ c.loop-property-test.false l.invariant
