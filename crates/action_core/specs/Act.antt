-- What running comes to, and how runs are put together.
use Rattle.std.specs.Prelude.{ℕ, List, [], ◌∷◌, ◌++◌, Ok, Err}
use Rattle.pointer_core.specs.Path.{Path}
use Rattle.pointer_core.specs.declared.refusal.Rule.{Rule}
use Rattle.type_core.specs.Making.{Refused, Outcome}
use Rattle.edit_core.specs.Labelled.{Labelled}
use Rattle.edit_core.specs.Logged.{LoggedEdit, after_logged}
use Rattle.tree_core.specs.Changed.{Changed}
use Rattle.tree_core.specs.Outcome.{refuse}
use Rattle.tree_core.specs.Recorded as recorded
use Rattle.tree_core.specs.State.{State as Tree}
use Rattle.live_tree.specs.Laws.{given_back}
use Rattle.eval_core.specs.Run.{Run, Entered}

-- an edit that was made, and the snapshot before it
pub record Tried : Type 0 where
  pub before : Labelled
  pub edit : LoggedEdit

-- a statement or a condition whose expressions were evaluated: how many of its own were counted, and which views were
-- entered
pub record Met : Type 0 where
  pub own : ℕ
  pub entered : List Entered

-- What a request has come to.
pub record State : Type 0 where
  -- the tree: its labelled snapshot, the next number, and the edits that were made since the request began and kept
  pub tree : Tree
  -- all edits that were made, those that were taken back included
  pub tried : List Tried
  -- how many statements were run
  pub counted : ℕ
  pub met : List Met

-- what a request begins with
abbrev pub state_of : Tree → State
state_of tree = record { tree = tree; tried = []; counted = 0; met = [] }

-- the labelled snapshot
abbrev pub root_of : State → Labelled
root_of s = s.tree.tree

-- the edits, each with the snapshot before it
abbrev pub tried_from : Labelled → List LoggedEdit → List Tried
tried_from x [] = []
tried_from x (e ∷ es) = record { before = x; edit = e } ∷ tried_from (after_logged e x) es

-- a change of the tree, and an evaluation, recorded
abbrev pub with_change : Changed → State → State
with_change c s = record s { tree = recorded.with_change c s.tree; tried = s.tried ++ tried_from (root_of s) c.edits }

abbrev pub with_met : {A : Type 0} → Run A → State → State
with_met run s = record s { met = s.met ++ record { own = run.own; entered = run.entered } ∷ [] }

-- The snapshot and the edits that are kept are again those of an earlier tree. No number is given out twice, so the next
-- number stays.
abbrev pub taken_back : Tree → State → State
taken_back earlier now = record now { tree = given_back earlier now.tree }

-- What running comes to: an outcome, and the state that it leaves, also where it is refused.
pub record Ran (A : Type 0) : Type 0 where
  pub outcome : Outcome A
  pub state : State

abbrev pub came : {A : Type 0} → Outcome A → State → Ran A
came outcome s = record { outcome = outcome; state = s }

-- a run, from each state
abbrev pub Act : Type 0 → Type 0
Act A = State → Ran A

-- an outcome that leaves all as it is
unfoldable pub tells : {A : Type 0} → Outcome A → Act A
tells outcome s = record { outcome = outcome; state = s }

abbrev pub gives : {A : Type 0} → A → Act A
gives x = tells (Ok x)

abbrev pub refuses : {A : Type 0} → Path → Rule → Act A
refuses path rule = tells (refuse path rule)

-- what is said of the snapshot as it is
unfoldable pub looks : {A : Type 0} → (Labelled → Outcome A) → Act A
looks said s = record { outcome = said (root_of s); state = s }

-- what follows a run, unless it is refused
abbrev pub continued : {A B : Type 0} → State → (A → Act B) → Outcome A → Ran B
continued s next (Ok x) = next x s
continued s next (Err e) = record { outcome = Err e; state = s }

-- one run, and with what it gives another one; a refusal ends both
infixl 10 ◌>>=◌
unfoldable pub ◌>>=◌ : {A B : Type 0} → Act A → (A → Act B) → Act B
◌>>=◌ first next s = let ran = first s in continued ran.state next ran.outcome

-- another run, where one is refused
abbrev pub instead : {A : Type 0} → State → (Refused → Act A) → Outcome A → Ran A
instead s other (Ok x) = record { outcome = Ok x; state = s }
instead s other (Err e) = other e s

-- one run, and where it is refused another one, by the refusal; what the first one wrote stays
unfoldable pub or_else : {A : Type 0} → (Refused → Act A) → Act A → Act A
or_else other first s = let ran = first s in instead ran.state other ran.outcome

-- a refused run as if nothing had been written
abbrev pub back_if_refused : {A : Type 0} → Tree → State → Outcome A → Ran A
back_if_refused earlier now (Ok x) = record { outcome = Ok x; state = now }
back_if_refused earlier now (Err e) = record { outcome = Err e; state = taken_back earlier now }

-- a run that is taken back where it ends refused
unfoldable pub all_or_nothing : {A : Type 0} → Act A → Act A
all_or_nothing act s = let ran = act s in back_if_refused s.tree ran.state ran.outcome
