-- A typed tree stays typed.
use Rattle.type_table.specs.Table.{Catalog}
use Rattle.type_core.specs.Sound.{IsSound}
use Rattle.tree_core.specs.Recorded.{after_settling}
use Rattle.tree_core.specs.State.{State}
use Rattle.tree_laws.specs.Calls.{Writes, WritesList}
use Rattle.tree_laws.specs.Trees.{IsTypedTree}
use Rattle.tree_laws.proofs.PlainWrites.{write-patches, list-patches, settling-patches}
use Rattle.tree_laws.proofs.SettlingTyped.{settling-typed, settling-plain}
use Rattle.tree_laws.proofs.TreeTyped.{StaysTyped, write-typed, list-typed}

pub writes-typed : (types : Catalog) → IsSound types → (before after : State) → IsTypedTree types before → Writes types before after → IsTypedTree types after
writes-typed types sound before after tree w =
    let stays : StaysTyped types sound after = write-typed types sound w.target w.write before after tree.nodes tree.plain w.plain w.done in
    record { plain = stays.plain; nodes = stays.typed; logged = write-patches types sound w.target w.write before after tree.plain w.plain tree.logged w.done }

pub lists-typed : (types : Catalog) → IsSound types → (before after : State) → IsTypedTree types before → WritesList types before after → IsTypedTree types after
lists-typed types sound before after tree w =
    let stays : StaysTyped types sound after = list-typed types sound w.patches before after tree.nodes tree.plain w.plain w.done in
    record { plain = stays.plain; nodes = stays.typed; logged = list-patches types sound w.patches before after tree.nodes tree.plain w.plain tree.logged w.done }

pub settling-stays : (types : Catalog) → IsSound types → (s : State) → IsTypedTree types s → IsTypedTree types (after_settling types s)
settling-stays types sound s tree =
    record { plain = settling-plain types s tree.plain; nodes = settling-typed types sound s tree.nodes; logged = settling-patches types s tree.plain tree.logged }
