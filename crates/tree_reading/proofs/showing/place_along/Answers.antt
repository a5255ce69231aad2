use Rattle.std.proofs.Common.{Option, sym, subst}
use Rattle.list_core.specs.Outcome.{Gives}
use Rattle.node_core.specs.View.{labelled}
use Rattle.tree_core.specs.Listing.{Named}
use Rattle.tree_core.specs.Asking.{named_place}
use Rattle.tree_reading.proofs.Leading.{named_end}
use Rattle.tree_reading.proofs.showing.place_along.Goals as goal

pub returns-in-len1-up : goal.returns-in-len1-up
returns-in-len1-up c =
    let Placed : Option Named → Type 0 = λ named. Gives c.place_by.result (named_place named (labelled c.args.root.now)) in
    subst Placed (sym (named_end c.args.tokens.now c.token-item.result c.in-len1-up.len_at_least c.token-item.is)) c.place_by.ensures
