-- What holds of calling actions.
use Rattle.std.specs.Prelude.{◌≤◌, ◌++◌, ◌≡◌, ℕ, List, Bool, true, false, IsTrue, IsErr}
use Rattle.std.specs.List.{list_any}
use Rattle.model_syntax.specs.Shown.{ShownMiddleware, atomic, protect}
use Rattle.action_core.specs.Act.{Tried, Met, State, root_of}
use Rattle.action_core.specs.Behaving.{Behaving, Running, Callee, most_statements}
use Rattle.action_core.specs.Layers.{Layer, layers_of}
use Rattle.action_core.specs.Calling.{called}

-- The tree is as it was: its snapshot with all labels, and the edits that are kept.
pub record IsAsBefore (before after : State) : Type 0 where
  pub snapshot : root_of after ≡ root_of before
  pub kept : after.tree.calls ≡ before.tree.calls

abbrev pub is_atomic : ShownMiddleware → Bool
is_atomic (atomic which) = true
is_atomic (protect which condition) = false

-- one of the middlewares around an action is atomic
abbrev pub HasAtomic : List Layer → Type 0
HasAtomic layers = IsTrue (list_any (λ (layer : Layer). is_atomic layer.middleware) layers)

-- Where an action that an atomic middleware surrounds ends refused, the tree is as it was, however many actions run.
abbrev pub FailedAtomicsLeaveAll : Type 0
FailedAtomicsLeaveAll =
    (behaving : Behaving) (room : ℕ) (running : Running) (callee : Callee) (s : State) → HasAtomic (layers_of behaving callee (root_of s))
    → IsErr (called behaving room running callee s).outcome → IsAsBefore s (called behaving room running callee s).state

-- What a request tried and met only grows, and no more statements are run than may be.
pub record GoesOn (before after : State) : Type 0 where
  pub tried : (more : List Tried) × (after.tried ≡ before.tried ++ more)
  pub met : (more : List Met) × (after.met ≡ before.met ++ more)
  pub counted : before.counted ≤ after.counted
  pub within : before.counted ≤ most_statements → after.counted ≤ most_statements

abbrev pub RequestsGoOn : Type 0
RequestsGoOn =
    (behaving : Behaving) (room : ℕ) (running : Running) (callee : Callee) (s : State) → GoesOn s (called behaving room running callee s).state
