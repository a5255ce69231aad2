-- What a call leaves once the tree is settled.
use Rattle.type_table.specs.Table.{Catalog}
use Rattle.type_core.specs.Sound.{IsSound}
use Rattle.tree_core.specs.Recorded.{after_settling}
use Rattle.tree_core.specs.State.{State}
use Rattle.tree_laws.specs.Calls.{Writes, WritesList, LeadsOn}
use Rattle.tree_laws.specs.Laws.{IsDone}
use Rattle.tree_laws.specs.Trees.{IsSoundTree}
use Rattle.tree_laws.proofs.Joining.{goes-on}
use Rattle.tree_laws.proofs.Lists.{lists-lead}
use Rattle.tree_laws.proofs.Loose.{settling-settles}
use Rattle.tree_laws.proofs.Settling.{settling-leads}
use Rattle.tree_laws.proofs.SettlingSound.{settling-keeps}
use Rattle.tree_laws.proofs.TreeRight.{writes-keep, lists-keep}
use Rattle.tree_laws.proofs.Writes.{writes-lead}

module _ (types : Catalog) (sound : IsSound types) (before after : State) (tree : IsSoundTree types before) where
  done : LeadsOn before after → IsSoundTree types after → IsDone types before (after_settling types after)
  done leads kept = record {
    leads = goes-on before after (after_settling types after) leads (settling-leads types sound after kept);
    sound = settling-keeps types sound after kept;
    settled = settling-settles types sound after;
  }

  pub writes-done : Writes types before after → IsDone types before (after_settling types after)
  writes-done w = done (writes-lead types sound before after tree w) (writes-keep types sound before after tree w)

  pub lists-done : WritesList types before after → IsDone types before (after_settling types after)
  lists-done w = done (lists-lead types sound before after tree w) (lists-keep types sound before after tree w)
