-- How a call relates to the act that it does: a part of what a request runs.
use Rattle.std.specs.Prelude.{◌≡◌, ℕ, ◌+◌, ◌≤◌, List, [], ◌∷◌, Bool, true, false, Result, Ok, Err}
use Rattle.snap_core.specs.declared.number.NodeNo.{NodeNo}
use Rattle.pointer_core.specs.Path.{Path}
use Rattle.pointer_core.specs.declared.refusal.Rule.{Rule}
use Rattle.pointer_core.specs.declared.refusal.Rule.TheVariants as rule
use Rattle.type_core.specs.Making.{Outcome}
use Rattle.type_core.specs.Made.{refused_as}
use Rattle.live_tree.specs.Laws.{CanBeTakenBack, given_back}
use Rattle.tree_core.specs.State.{State as Tree}
use Rattle.eval_core.specs.Answer.{Answer, node}
use Rattle.view_engine.specs.Did.{counted_within}
use Rattle.view_engine.specs.declared.halt.RunError.{RunError}
use Rattle.view_engine.specs.declared.halt.RunError.TheVariants.{Memory, Refused}
use Rattle.action_core.specs.Act.{Tried, Met, State, Ran, Act}

-- where a request is: its tree, the statements that it ran, and the steps that were taken
pub record Point : Type 0 where
  pub tree : Tree
  pub counted : ℕ
  pub steps : ℕ

abbrev pub point : Tree → ℕ → ℕ → Point
point tree counted steps = record { tree = tree; counted = counted; steps = steps }

-- the state of a request at a point, by what was tried and met before
abbrev pub state_at : Point → List Tried → List Met → State
state_at p tried met = record { tree = p.tree; tried = tried; counted = p.counted; met = met }

-- the expressions that were counted in statements and conditions, those of the views that they entered included
abbrev pub spent : List Met → ℕ
spent [] = 0
spent (m ∷ ms) = m.own + counted_within m.entered + spent ms

-- a state is that of a point, to which no more steps were taken than its expressions cost
pub record Stands (from to : Point) (before : ℕ) (s : State) : Type 0 where
  pub tree : s.tree ≡ to.tree
  pub counted : s.counted ≡ to.counted
  pub ticks : to.steps + before ≤ from.steps + spent s.met

-- a run came to what the result tells, want of memory aside
abbrev pub Came : {T A : Type 0} → (T → A) → Result T RunError → Ran A → ℕ → Point → Point → Type 0
Came seen (Ok x) ran before from to = (ran.outcome ≡ Ok (seen x)) × Stands from to before ran.state
Came seen (Err (Refused r)) ran before from to = (ran.outcome ≡ Err (refused_as r)) × Stands from to before ran.state
Came seen (Err Memory) ran before from to = Unit {0}

-- A call did an act from one point to another: it came to what the act comes to, whatever was tried and met before, and
-- what it did to the tree can be taken back, also where memory ran out.
pub record Performs {T A : Type 0} (seen : T → A) (result : Result T RunError) (act : Act A) (from to : Point) : Type 0 where
  pub came : (tried : List Tried) (met : List Met) → Came seen result (act (state_at from tried met)) (spent met) from to
  pub back : CanBeTakenBack from.tree to.tree
  pub rises : from.counted ≤ to.counted

-- a point with the tree of an earlier one; no number is given out twice
abbrev pub back_at : Point → Point → Point
back_at a b = point (given_back a.tree b.tree) b.counted b.steps

-- What is told without a change of the tree.

-- the result is what an outcome says, want of memory aside
abbrev pub IsOutcome : {T A : Type 0} → (T → A) → Result T RunError → Outcome A → Type 0
IsOutcome seen (Ok x) outcome = outcome ≡ Ok (seen x)
IsOutcome seen (Err (Refused r)) outcome = outcome ≡ Err (refused_as r)
IsOutcome seen (Err Memory) outcome = Unit {0}

-- an error is a refusal by a rule at a path, or want of memory
abbrev pub IsRefusal : RunError → Path → Rule → Type 0
IsRefusal (Refused r) path by = r ≡ record { path = path; rule = by }
IsRefusal Memory path by = Unit {0}

abbrev pub is_node : Answer → Bool
is_node (node n) = true
is_node x = false

-- the node that an answer is; any other answer is of the wrong kind, in a frame
abbrev pub IsNodeIn : Result NodeNo RunError → Answer → Path → Type 0
IsNodeIn (Ok n) x frame = x ≡ node n
IsNodeIn (Err e) x frame = (is_node x ≡ false) × IsRefusal e frame rule.Kind
