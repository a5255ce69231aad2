-- What evaluating comes to, and how evaluations are put together.
use Rattle.std.specs.Prelude.{ℕ, suc, ◌+◌, max, nat_lt, List, [], ◌∷◌, ◌++◌, Result, Ok, Err, if◌then◌else◌}
use Rattle.snap_core.specs.declared.number.NodeNo.{NodeNo}
use Rattle.pointer_core.specs.declared.refusal.Rule.{Rule}
use Rattle.expr_syntax.specs.declared.number.ViewNo.{ViewNo}
use Rattle.eval_core.specs.declared.cell.Cell.{Cell}
use Rattle.eval_core.specs.declared.site.Site.{Site}

-- why evaluating is refused, and where
pub record Fault : Type 0 where
  pub rule : Rule
  pub site : Site

-- a view whose body was entered, and how many expressions of that body were counted
pub record Entered : Type 0 where
  pub node : NodeNo
  pub view : ViewNo
  pub own : ℕ

pub record Run (A : Type 0) : Type 0 where
  pub outcome : Result A Fault
  -- how many expressions were counted, those of other bodies left out
  pub own : ℕ
  -- the cells that were read, in order, with repeats, those of other bodies included
  pub reads : List Cell
  -- the views whose bodies were entered, in order
  pub entered : List Entered
  -- how many views were in progress at once
  pub height : ℕ

-- evaluating, after so many expressions of the same body, statement or condition
abbrev pub Eval : Type 0 → Type 0
Eval A = ℕ → Run A

-- an outcome that counts nothing and reads nothing
unfoldable pub lift : {A : Type 0} → Result A Fault → Eval A
lift outcome before = record { outcome = outcome; own = 0; reads = []; entered = []; height = 0 }

-- what is seen of a cell
unfoldable pub looks : {A : Type 0} → Cell → A → Eval A
looks cell seen before = record { outcome = Ok seen; own = 0; reads = cell ∷ []; entered = []; height = 0 }

-- how many expressions one body, statement or condition may evaluate
abbrev pub most_expressions : ℕ
most_expressions = 100000

-- one expression more is counted, at a site
unfoldable pub counts : Site → Eval (Unit {0})
counts site before = record {
  outcome = if nat_lt before most_expressions then Ok tt else Err (record { rule = Rule.Work; site = site });
  own = if nat_lt before most_expressions then 1 else 0;
  reads = [];
  entered = [];
  height = 0;
}

-- a run, and then another one
unfoldable pub joined : {A B : Type 0} → Run A → Run B → Run B
joined first second = record {
  outcome = second.outcome;
  own = first.own + second.own;
  reads = first.reads ++ second.reads;
  entered = first.entered ++ second.entered;
  height = max first.height second.height;
}

-- a run that ended refused, with nothing after it
unfoldable pub ended : {A B : Type 0} → Run A → Fault → Run B
ended run fault = record { outcome = Err fault; own = run.own; reads = run.reads; entered = run.entered; height = run.height }

abbrev pub continued : {A B : Type 0} → Run A → (A → Run B) → Result A Fault → Run B
continued first next (Ok x) = joined first (next x)
continued first next (Err fault) = ended first fault

-- one evaluation, and with what it gives another one; a refusal ends both
unfoldable pub andthen : {A B : Type 0} → Eval A → (A → Eval B) → Eval B
andthen first next before = let run = first before in continued run (λ x. next x (before + run.own)) run.outcome

-- the body of a view as another body sees it: its expressions are counted by themselves, from 0 on
unfoldable pub enters : {A : Type 0} → NodeNo → ViewNo → Eval A → Eval A
enters node view body before =
    let run = body 0 in
    record { outcome = run.outcome; own = 0; reads = run.reads; entered = record { node = node; view = view; own = run.own } ∷ run.entered; height = suc run.height }
