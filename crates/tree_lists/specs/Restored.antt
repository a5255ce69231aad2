-- What the code's own words for putting back stand for.
use Rattle.std.specs.Option.{option_copied, option_map}
use Rattle.node_core.specs.View.{labelled, turn}
use Rattle.tree_lists.specs.declared.restoring.Spot.{Spot}
use Rattle.tree_lists.specs.declared.restoring.Putting.{Putting}
use Rattle.tree_lists.specs.Restoring as specs

abbrev pub spot_of : Spot → specs.Spot
spot_of s = record { turn = turn s.turn; held = option_map labelled (option_copied s.held) }

abbrev pub goes_by : Putting → specs.Putting
goes_by p = record { types = p.types.now; node = labelled p.node.now; next = p.next }
