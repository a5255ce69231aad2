-- What a tree keeps, whatever is written to it.
use Rattle.snap_core.specs.Value.{Value, IsPlain}
use Rattle.type_table.specs.Table.{Catalog}
use Rattle.type_core.specs.Sound.{IsSound}
use Rattle.tree_core.specs.Recorded.{IsSoundValue, state_of, new_tree, after_settling}
use Rattle.tree_core.specs.State.{State}
use Rattle.tree_laws.specs.Trees.{IsTypedTree, IsSoundTree}
use Rattle.tree_laws.specs.Tied.{IsSettled}
use Rattle.tree_laws.specs.Calls.{Writes, WritesList, LeadsOn}

-- A write of a sound tree that isn't refused leads on. So does a list of patches, and so does settling.
abbrev pub WritesLead : Type 0
WritesLead =
    (types : Catalog) → IsSound types → (before after : State) → IsSoundTree types before → Writes types before after → LeadsOn before after

abbrev pub ListsLead : Type 0
ListsLead =
    (types : Catalog) → IsSound types → (before after : State) → IsSoundTree types before → WritesList types before after → LeadsOn before after

abbrev pub SettlingLeadsOn : Type 0
SettlingLeadsOn = (types : Catalog) → IsSound types → (s : State) → IsSoundTree types s → LeadsOn s (after_settling types s)

-- what leads on, and on from there, leads on
abbrev pub LeadingGoesOn : Type 0
LeadingGoesOn = (first next last : State) → LeadsOn first next → LeadsOn next last → LeadsOn first last

-- a typed tree stays typed
abbrev pub WritesStayTyped : Type 0
WritesStayTyped =
    (types : Catalog) → IsSound types → (before after : State) → IsTypedTree types before → Writes types before after → IsTypedTree types after

abbrev pub ListsStayTyped : Type 0
ListsStayTyped =
    (types : Catalog) → IsSound types → (before after : State) → IsTypedTree types before → WritesList types before after → IsTypedTree types after

abbrev pub SettlingStaysTyped : Type 0
SettlingStaysTyped = (types : Catalog) → IsSound types → (s : State) → IsTypedTree types s → IsTypedTree types (after_settling types s)

-- a new tree of a sound value is sound
abbrev pub NewTreesAreSound : Type 0
NewTreesAreSound = (types : Catalog) (v : Value) → IsSoundValue types v → IsPlain v → IsSoundTree types (state_of (new_tree types v))

-- a sound tree stays sound
abbrev pub WritesKeepTrees : Type 0
WritesKeepTrees =
    (types : Catalog) → IsSound types → (before after : State) → IsSoundTree types before → Writes types before after → IsSoundTree types after

abbrev pub ListsKeepTrees : Type 0
ListsKeepTrees =
    (types : Catalog) → IsSound types → (before after : State) → IsSoundTree types before → WritesList types before after → IsSoundTree types after

abbrev pub SettlingKeepsTrees : Type 0
SettlingKeepsTrees = (types : Catalog) → IsSound types → (s : State) → IsSoundTree types s → IsSoundTree types (after_settling types s)

-- settling leaves nothing loose
abbrev pub SettlingSettles : Type 0
SettlingSettles = (types : Catalog) → IsSound types → (s : State) → IsSettled types (after_settling types s).tree

-- What a call leaves once the tree is settled: it leads on, is sound, and nothing is loose.
pub record IsDone (types : Catalog) (before after : State) : Type 0 where
  pub leads : LeadsOn before after
  pub sound : IsSoundTree types after
  pub settled : IsSettled types after.tree

-- so it is after a write and settling, and after a list of patches and settling
abbrev pub WritesAreDone : Type 0
WritesAreDone =
    (types : Catalog) → IsSound types → (before after : State) → IsSoundTree types before → Writes types before after
    → IsDone types before (after_settling types after)

abbrev pub ListsAreDone : Type 0
ListsAreDone =
    (types : Catalog) → IsSound types → (before after : State) → IsSoundTree types before → WritesList types before after
    → IsDone types before (after_settling types after)
