-- What a write makes of a tree goes.
use Rattle.std.proofs.Common.{◌≡◌, ℕ, [], Ok, IfOk, subst}
use Rattle.snap_core.specs.Value.{IsPlain}
use Rattle.type_table.specs.Table.{Catalog}
use Rattle.type_core.specs.Making.{Outcome}
use Rattle.type_core.specs.Sound.{IsSound}
use Rattle.edit_core.specs.Labelled.{bare}
use Rattle.edit_core.specs.Ways.{way_to, part_at}
use Rattle.edit_core.proofs.Leading.{FineIn}
use Rattle.tree_core.specs.Nodes.{may_write}
use Rattle.tree_core.specs.Outcome.{or_refuse}
use Rattle.tree_core.specs.Write.{Write, WritesPlain}
use Rattle.tree_core.specs.Writing.{Tree, Target, Writing, node_no, name_for, writing_at, node_written, place_written}
use Rattle.tree_core.proofs.Moving.{Stands}
use Rattle.tree_core.proofs.PartFacts.{plain-part}
use Rattle.tree_core.proofs.PlaceKeeping.{way-stands}
use Rattle.tree_core.proofs.WriteKeeping.{bound, if-provided, there}
use Rattle.tree_laws.proofs.Bounds.{bounded}
use Rattle.tree_laws.proofs.NodeGoing.{Goes, IsBound, goes-placed}
use Rattle.tree_laws.proofs.PartFine.{fine-part}
use Rattle.tree_laws.proofs.WriteGoing.{node-write}

pub from-Ok : {A : Type 0} → (o : Outcome A) (P : A → Type 0) (x : A) → IfOk o P → o ≡ Ok x → P x
from-Ok {A} o P x h e = let Q : Outcome A → Type 0 = λ o. IfOk o P in subst Q e h

module _ (n : ℕ) (room : IsBound n) (types : Catalog) (sound : IsSound types) (target : Target) (write : Write) (tree : Tree) where
  pub place-goes : FineIn (bounded n) tree.root → IsPlain (bare tree.root) → WritesPlain write → IfOk (place_written types target write tree) (Goes n tree.root)
  place-goes fine plain p =
      bound (or_refuse (way_to (node_no target.place) tree.root) [] _) _ (Goes n tree.root)
      (λ way e. if-provided (may_write target.running way tree.root) (name_for way target) _ _ (Goes n tree.root)
      (λ _. bound (or_refuse (part_at way tree.root) [] _) _ (Goes n tree.root)
      (λ node g.
      let stands : Stands way tree.root node = way-stands (node_no target.place) tree.root way node (there _ [] _ way e) (there _ [] _ node g) in
      let w : Writing = writing_at types target way tree in
      let inner = node-write n room w sound target.place write node (fine-part (bounded n) way tree.root node stands fine) (plain-part way tree.root node stands plain) p in
      bound (node_written w target.place write node) _ (Goes n tree.root)
      (λ changed k. goes-placed n room way tree.root node changed stands fine (from-Ok (node_written w target.place write node) (Goes n node) changed inner k)))))
