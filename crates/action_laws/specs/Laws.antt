-- What calling an action does to a tree.
use Rattle.std.specs.Prelude.{◌≡◌, ℕ, List, IfSome, IsErr}
use Rattle.snap_core.specs.declared.number.ModelNo.{ModelNo}
use Rattle.type_table.specs.Table.{Catalog}
use Rattle.type_core.specs.Sound.{IsSound}
use Rattle.model_syntax.specs.Shown.{ShownAction}
use Rattle.tree_core.specs.Recorded.{after_settling}
use Rattle.tree_core.specs.State.{State as Tree}
use Rattle.live_tree.specs.Laws.{CanBeTakenBack, given_back}
use Rattle.tree_laws.specs.Calls.{LeadsOn}
use Rattle.tree_laws.specs.Laws.{IsDone}
use Rattle.tree_laws.specs.Tied.{IsSettled}
use Rattle.tree_laws.specs.Trees.{IsSoundTree}
use Rattle.plain_answers.specs.Plainness.{HasPlainConstants, HasPlainBodies, ArePlainAnswers}
use Rattle.action_core.specs.Act.{State, root_of}
use Rattle.action_core.specs.Behaving.{Behaving, Running, Callee}
use Rattle.action_core.specs.Calling.{called}
use Rattle.plain_answers.specs.EachExpression.{HoldsInBlock}
use Rattle.action_core.specs.Laws.{HasAtomic}
use Rattle.action_core.specs.Layers.{layers_of}

-- the types are without a fault, and each constant in a view or an action is plain
pub record IsPlainBehaving (behaving : Behaving) : Type 0 where
  pub sound : IsSound behaving.types
  pub views : HasPlainBodies behaving.viewing
  pub actions : (m : ModelNo) (name : List ℕ) → IfSome (behaving.action_of m name) (λ (a : ShownAction). HoldsInBlock HasPlainConstants a.body)

-- What was kept leads on and can be taken back, no number being given out twice, and the tree is sound.
pub record Leads (types : Catalog) (before after : Tree) : Type 0 where
  pub on : LeadsOn before after
  pub back : CanBeTakenBack before after
  pub sound : IsSoundTree types after

-- an action of a sound tree, refused or not, whatever actions run
abbrev pub ActionsLead : Type 0
ActionsLead =
    (behaving : Behaving) → IsPlainBehaving behaving → (room : ℕ) (running : Running) (callee : Callee) → ArePlainAnswers callee.given
    → (s : State) → IsSoundTree behaving.types s.tree → Leads behaving.types s.tree (called behaving room running callee s).state.tree

-- and settling after it
abbrev pub ActionsAreDone : Type 0
ActionsAreDone =
    (behaving : Behaving) → IsPlainBehaving behaving → (room : ℕ) (running : Running) (callee : Callee) → ArePlainAnswers callee.given
    → (s : State) → IsSoundTree behaving.types s.tree
    → IsDone behaving.types s.tree (after_settling behaving.types (called behaving room running callee s).state.tree)

-- Settling a settled tree leaves it as it is.
abbrev pub SettledTreesStay : Type 0
SettledTreesStay = (types : Catalog) (t : Tree) → IsSettled types t.tree → after_settling types t ≡ t

-- Where an action of a settled tree that an atomic middleware surrounds ends refused, the tree is as it was after settling
-- too: nothing is kept of the request.
abbrev pub FailedAtomicsAreNothing : Type 0
FailedAtomicsAreNothing =
    (behaving : Behaving) (room : ℕ) (running : Running) (callee : Callee) (s : State) → IsSettled behaving.types (root_of s)
    → HasAtomic (layers_of behaving callee (root_of s)) → IsErr (called behaving room running callee s).outcome
    → after_settling behaving.types (called behaving room running callee s).state.tree ≡ given_back s.tree (called behaving room running callee s).state.tree
