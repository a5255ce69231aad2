-- What holds of marks.
use Rattle.std.specs.Prelude.{◌≡◌, ◌≢◌, ℕ, ◌≤◌, [], ◌∷◌, ◌++◌}
use Rattle.edit_core.specs.Labelled.{Labelled}
use Rattle.edit_core.specs.Logged.{before_log}
use Rattle.tree_core.specs.State.{State, Calls, mark_of, rolled_back}

-- the snapshot before calls, the newest first
abbrev pub before_calls : Calls → Labelled → Labelled
before_calls [] x = x
before_calls (call ∷ calls) x = before_calls calls (before_log call x)

-- each call has some edits
abbrev pub AreEdited : Calls → Type 0
AreEdited [] = Unit {0}
AreEdited (call ∷ calls) = (call ≢ []) × AreEdited calls

-- What calls did after a state, each with some edits, and the snapshot and the next number that they left.
pub record Later (s : State) : Type 0 where
  pub calls : Calls
  pub edited : AreEdited calls
  pub tree : Labelled
  pub next : ℕ
  pub led : before_calls calls tree ≡ s.tree

-- However many calls came after a mark, rolling back gives the very nodes and the log of then; only the next number
-- stays as high as it is.
abbrev pub MarksAreGivenBack : Type 0
MarksAreGivenBack =
    (s : State) (later : Later s)
    → rolled_back (mark_of s) (record { tree = later.tree; next = later.next; calls = later.calls ++ s.calls })
    ≡ record { tree = s.tree; next = later.next; calls = s.calls }

-- One state came of another by calls, each with some edits, that can be taken back: they give the very nodes of then,
-- and no number was given out twice.
pub record CanBeTakenBack (before after : State) : Type 0 where
  pub calls : Calls
  pub edited : AreEdited calls
  pub joined : after.calls ≡ calls ++ before.calls
  pub led : before_calls calls after.tree ≡ before.tree
  pub later : before.next ≤ after.next

-- what calls led to can be taken back as a whole, however many they are
abbrev pub TakenBackTogether : Type 0
TakenBackTogether = (first second third : State) → CanBeTakenBack first second → CanBeTakenBack second third → CanBeTakenBack first third

-- a state with another's snapshot and log, where the next number stays as high as it is
abbrev pub given_back : State → State → State
given_back before now = record { tree = before.tree; next = now.next; calls = before.calls }
