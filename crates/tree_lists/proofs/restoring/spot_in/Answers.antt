use Rattle.std.proofs.Common.{◌∙◌}
use Rattle.node_core.specs.View.{turn}
use Rattle.tree_lists.proofs.Places.{spot-item, spot-entry}
use Rattle.tree_lists.proofs.restoring.spot_in.Goals as goal

pub returns-in-Array : goal.returns-in-Array
returns-in-Array c =
    rw c.in-Array.is ((rw (c.as_slice.ensures, c.text.ensures) at c.item_spot.ensures) ∙ spot-item c.args.op c.args.token.now c.in-Array.field-0 c.in-Array.items)

pub returns-in_ok-turn_to-in-Record : goal.returns-in_ok-turn_to-in-Record
returns-in_ok-turn_to-in-Record c =
    rw c.in-Record.is
    (spot-entry c.args.op c.args.token.now c.in-Record.field-0 c.in-Record.fields (turn c.in_ok-turn_to-in-Record.field-0) _
    (rw (c.in-Record.is, c.text-in-Record.ensures) at c.in_ok-turn_to-in-Record.ensures) (rw (c.as_slice-in-Record.ensures, c.text-in-Record-2.ensures) at c.entry_at.ensures))
