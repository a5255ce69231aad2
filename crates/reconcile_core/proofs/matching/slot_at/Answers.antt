use Rattle.std.proofs.Common.{◌∙◌, sym, ap}
use Rattle.std.specs.Option.{option_copied}
use Rattle.node_core.specs.View.{items}
use Rattle.reconcile_core.proofs.Matchings.{slot-there, slot-none}
use Rattle.reconcile_core.proofs.matching.slot_at.Goals as goal

pub returns-in-Some : goal.returns-in-Some
returns-in-Some c = c.slot_item.ensures ∙ slot-there (items c.args.olds.now) c.args.slots.now c.args.i _ (sym c.get.ensures ∙ ap option_copied c.in-Some.is)

pub returns-in-None : goal.returns-in-None
returns-in-None c = slot-none (items c.args.olds.now) c.args.slots.now c.args.i (sym c.get.ensures ∙ ap option_copied c.in-None.is)
