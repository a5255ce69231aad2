-- Staging: what a request does to a document can be kept or taken back.
use Rattle.std.specs.Prelude.{◌≡◌, ℕ, ◌+◌, ◌≤◌, Option, Some, None, Result, Ok, Err}
use Rattle.std.specs.Option.{option_map}
use Rattle.pointer_core.specs.declared.refusal.Refusal.{Refusal}
use Rattle.type_table.specs.Table.{Catalog}
use Rattle.type_core.specs.Making.{Outcome}
use Rattle.type_core.specs.Made.{refused_as}
use Rattle.tree_core.specs.Recorded.{IsTreeOf, after_settling}
use Rattle.tree_core.specs.State.{State, patches_of}
use Rattle.live_tree.specs.Laws.{CanBeTakenBack}
use Rattle.action_core.specs.Act.{Ran}
use Rattle.action_steps.specs.Doing.{spent}
use Rattle.doc_core.specs.Acting.{Acted}
use Rattle.doc_core.specs.declared.error.DocError.{DocError}
use Rattle.doc_core.specs.declared.error.DocError.TheVariants.{Memory, Refused}
use Rattle.doc_core.specs.declared.document.Staged.{Staged}

-- the document is what the outcome says, and its patches are told; or the outcome's refusal, want of memory aside
abbrev pub Stages : Result Staged DocError → Outcome State → State → Type 0
Stages (Ok staged) outcome now = (outcome ≡ Ok now) × (staged.patches ≡ patches_of now) × (staged.fault ≡ None)
Stages (Err (Refused r)) outcome now = outcome ≡ Err (refused_as r)
Stages (Err Memory) outcome now = Unit {0}

-- so it is for an action, and its refusal is told beside the patches that stay
abbrev pub StagesAct : Result Staged DocError → Outcome Acted → State → Type 0
StagesAct (Ok staged) outcome now =
    (outcome ≡ Ok (record { after = now; fault = option_map refused_as staged.fault })) × (staged.patches ≡ patches_of now)
StagesAct (Err (Refused r)) outcome now = outcome ≡ Err (refused_as r)
StagesAct (Err Memory) outcome now = Unit {0}

-- no more steps were taken than this many, want of memory aside
abbrev pub TakesSteps : Result Staged DocError → ℕ → ℕ → ℕ → Type 0
TakesSteps (Err Memory) most before after = Unit {0}
TakesSteps result most before after = after ≤ before + most

-- a document as before: the very nodes, and nothing staged that wasn't; only the next number may be higher
pub record IsAsBefore (before after : State) : Type 0 where
  pub tree : after.tree ≡ before.tree
  pub calls : after.calls ≡ before.calls
  pub later : before.next ≤ after.next

-- a request is staged, which can be taken back to the document before it
pub record IsStagedAfter (types : Catalog) (before after : State) : Type 0 where
  pub back : CanBeTakenBack before after
  pub typed : IsTreeOf types after

-- For private clauses.

-- what a run came to that is refused, or isn't
abbrev pub outcome_of : Option Refusal → Outcome (Unit {0})
outcome_of None = Ok tt
outcome_of (Some r) = Err (refused_as r)

-- the run came to this, and left the tree; or memory ran out
abbrev pub RunsTo : Result (Option Refusal) DocError → Ran (Unit {0}) → State → Type 0
RunsTo (Ok fault) ran now = (ran.outcome ≡ outcome_of fault) × (ran.state.tree ≡ now)
RunsTo (Err e) ran now = e ≡ Memory

-- it took no more steps than the expressions that it met cost
abbrev pub CostsOf : Result (Option Refusal) DocError → Ran (Unit {0}) → ℕ → ℕ → Type 0
CostsOf (Ok fault) ran before after = after ≤ before + spent ran.state.met
CostsOf (Err e) ran before after = Unit {0}

-- a write left what the outcome says, or it is the outcome's refusal, want of memory aside
abbrev pub Leaves : Result (Unit {0}) DocError → Outcome State → State → Type 0
Leaves (Ok done) outcome now = outcome ≡ Ok now
Leaves (Err (Refused r)) outcome now = outcome ≡ Err (refused_as r)
Leaves (Err Memory) outcome now = Unit {0}

-- what was written is settled, and all patches since the last commit are told
pub record Settles (types : Catalog) (written now : State) (staged : Staged) : Type 0 where
  pub settled : now ≡ after_settling types written
  pub patches : staged.patches ≡ patches_of now
  pub faultless : staged.fault ≡ None
