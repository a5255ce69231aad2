-- What a tree is to its callers: a labelled snapshot, and how it came to be since the last commit.
use Rattle.std.specs.Prelude.{ℕ, ◌+◌, List, [], ◌∷◌, ◌++◌, length, map, nat_le, if◌then◌else◌}
use Rattle.patch_core.specs.declared.patch.Patch.{Patch}
use Rattle.edit_core.specs.Labelled.{Labelled}
use Rattle.edit_core.specs.Logged.{LoggedEdit, before_log, patch_of_logged}

-- the edits of each call since the last commit that changed something, the newest call first
abbrev pub Calls : Type 0
Calls = List (List LoggedEdit)

pub record State : Type 0 where
  -- the snapshot with its nodes' labels, and a number above all that nodes had
  pub tree : Labelled
  pub next : ℕ
  pub calls : Calls

-- the log: all edits in their order
abbrev pub edits_of : Calls → List LoggedEdit
edits_of [] = []
edits_of (call ∷ calls) = edits_of calls ++ call

abbrev pub log_of : State → List LoggedEdit
log_of s = edits_of s.calls

-- the patches of the log
abbrev pub patches_of : State → List Patch
patches_of s = map patch_of_logged (log_of s)

-- how many edits there are
abbrev pub count_of : Calls → ℕ
count_of [] = 0
count_of (call ∷ calls) = count_of calls + length call

-- the mark of a state: the length of its log
abbrev pub mark_of : State → ℕ
mark_of s = count_of s.calls

-- The trail: after each of the calls, and before the first, the length of the log and the labelled snapshot; the newest first.
abbrev pub trail_from : Labelled → Calls → List (ℕ × Labelled)
trail_from x [] = (0, x) ∷ []
trail_from x (call ∷ calls) = (count_of (call ∷ calls), x) ∷ trail_from (before_log call x) calls

abbrev pub trail_of : State → List (ℕ × Labelled)
trail_of s = trail_from s.tree s.calls

-- a snapshot and the calls that led to it
pub record Past : Type 0 where
  pub tree : Labelled
  pub calls : Calls

-- calls are taken back, the newest first, until no more edits are left than this
abbrev pub past_within : ℕ → Labelled → Calls → Past
past_within most x [] = record { tree = x; calls = [] }
past_within most x (call ∷ calls) =
    if nat_le (count_of (call ∷ calls)) most then record { tree = x; calls = call ∷ calls } else past_within most (before_log call x) calls

-- Rolling back to a mark. No number is given out twice, so the next number stays.
abbrev pub rolled_back : ℕ → State → State
rolled_back mark s =
    let past : Past = past_within mark s.tree s.calls in record { tree = past.tree; next = s.next; calls = past.calls }

-- the newest call taken back
abbrev pub without_newest : State → State
without_newest s = without s.calls where
  without : Calls → State
  without [] = s
  without (call ∷ calls) = record { tree = before_log call s.tree; next = s.next; calls = calls }

-- committing: the snapshot stays, and can't be taken back any more
abbrev pub committed : State → State
committed s = record { tree = s.tree; next = s.next; calls = [] }

-- what a call leaves that led by edits to a snapshot
abbrev pub recorded : Labelled → List LoggedEdit → ℕ → State → State
recorded tree [] next s = s
recorded tree (e ∷ es) next s = record { tree = tree; next = next; calls = (e ∷ es) ∷ s.calls }
