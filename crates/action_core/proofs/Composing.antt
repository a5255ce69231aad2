-- What runs that are put together come to, by what their parts come to.
use Rattle.std.proofs.Common.{◌≡◌, suc, Bool, true, false, Ok, Err, refl, ap}
use Rattle.std.specs.Prelude.{nat_lt, if◌then◌else◌}
use Rattle.pointer_core.specs.Path.{Path}
use Rattle.pointer_core.specs.declared.refusal.Rule.TheVariants as rule
use Rattle.type_core.specs.Making.{Refused, Outcome}
use Rattle.edit_core.specs.Labelled.{Labelled}
use Rattle.tree_core.specs.Changed.{Changed}
use Rattle.tree_core.specs.Outcome.{refuse}
use Rattle.tree_core.specs.Recorded.{tree_in}
use Rattle.tree_core.specs.Writing.{Tree}
use Rattle.eval_core.specs.Asking.{frame_scope}
use Rattle.eval_core.specs.Run.{Run, Eval}
use Rattle.eval_core.specs.Scope.{Scope}
use Rattle.view_engine.specs.Told as views
use Rattle.action_core.specs.Act.{State, Ran, Act, came, root_of, tells, looks, continued, ◌>>=◌, instead, or_else, back_if_refused, all_or_nothing, taken_back, with_change, with_met}
use Rattle.action_core.specs.Behaving.{Behaving, sight_in, told, evaluates, path_in_frame, in_frame, changed_to, writes, most_statements, counts}

-- One run and then another one.

pub then-came : {A B : Type 0} (act : Act A) (next : A → Act B) (s t : State) (x : A) → act s ≡ came (Ok x) t → (act >>= next) s ≡ next x t
unfolding ◌>>=◌
then-came {A} act next s t x e = ap (λ (ran : Ran A). continued ran.state next ran.outcome) e

pub then-refused : {A B : Type 0} (act : Act A) (next : A → Act B) (s t : State) (r : Refused) → act s ≡ came (Err r) t → (act >>= next) s ≡ came (Err r) t
unfolding ◌>>=◌
then-refused {A} act next s t r e = ap (λ (ran : Ran A). continued ran.state next ran.outcome) e

-- A block that is tried.

pub tried-came : {A : Type 0} (other : Refused → Act A) (act : Act A) (s t : State) (x : A) → act s ≡ came (Ok x) t → or_else other act s ≡ came (Ok x) t
unfolding or_else
tried-came {A} other act s t x e = ap (λ (ran : Ran A). instead ran.state other ran.outcome) e

pub tried-refused : {A : Type 0} (other : Refused → Act A) (act : Act A) (s t : State) (r : Refused) → act s ≡ came (Err r) t → or_else other act s ≡ other r t
unfolding or_else
tried-refused {A} other act s t r e = ap (λ (ran : Ran A). instead ran.state other ran.outcome) e

-- All or nothing.

pub atomic-came : {A : Type 0} (act : Act A) (s t : State) (x : A) → act s ≡ came (Ok x) t → all_or_nothing act s ≡ came (Ok x) t
unfolding all_or_nothing
atomic-came {A} act s t x e = ap (λ (ran : Ran A). back_if_refused s.tree ran.state ran.outcome) e

pub atomic-refused : {A : Type 0} (act : Act A) (s t : State) (r : Refused) → act s ≡ came (Err r) t → all_or_nothing act s ≡ came (Err r) (taken_back s.tree t)
unfolding all_or_nothing
atomic-refused {A} act s t r e = ap (λ (ran : Ran A). back_if_refused s.tree ran.state ran.outcome) e

-- What leaves the tree.

pub tells-came : {A : Type 0} (o : Outcome A) (s : State) → tells o s ≡ came o s
unfolding tells
tells-came o s = refl

pub looks-came : {A : Type 0} (said : Labelled → Outcome A) (s : State) → looks said s ≡ came (said (root_of s)) s
unfolding looks
looks-came said s = refl

-- by what a refusal of evaluating is told
abbrev pub telling_in : Behaving → Path → State → views.Telling
telling_in behaving frame s = record { sight = sight_in behaving (root_of s); name_of = behaving.name_of; frame = frame }

-- the run of an evaluation in a state
abbrev pub evaluation : {A : Type 0} → Behaving → (Scope → Eval A) → State → Run A
evaluation behaving e s = e (frame_scope behaving.viewing (sight_in behaving (root_of s))) 0

pub evaluates-came : {A : Type 0} (behaving : Behaving) (frame : Path) (e : Scope → Eval A) (s : State)
    → evaluates behaving frame e s ≡ came (told (telling_in behaving frame s) (evaluation behaving e s).outcome) (with_met (evaluation behaving e s) s)
unfolding evaluates
evaluates-came behaving frame e s = refl

-- Writes and counts.

pub writes-came : (frame : Path) (change : Tree → Outcome Changed) (s : State) (c : Changed) → change (tree_in s.tree) ≡ Ok c
    → writes frame change s ≡ came (Ok tt) (with_change c s)
unfolding writes
writes-came frame change s c e = ap (λ (o : Outcome Changed). changed_to s (in_frame frame o)) e

pub writes-refused : (frame : Path) (change : Tree → Outcome Changed) (s : State) (r : Refused) → change (tree_in s.tree) ≡ Err r
    → writes frame change s ≡ came (refuse (path_in_frame frame r.rule r.path) r.rule) s
unfolding writes
writes-refused frame change s r e = ap (λ (o : Outcome Changed). changed_to s (in_frame frame o)) e

pub counts-came : (frame : Path) (s : State) → nat_lt s.counted most_statements ≡ true → counts frame s ≡ came (Ok tt) (record s { counted = suc s.counted })
unfolding counts
counts-came frame s e =
    ap (λ (b : Bool). if b then came (Ok tt) (record s { counted = suc s.counted }) else came (refuse {A = Unit {0}} frame rule.Budget) s) e

pub counts-refused : (frame : Path) (s : State) → nat_lt s.counted most_statements ≡ false → counts frame s ≡ came (refuse frame rule.Budget) s
unfolding counts
counts-refused frame s e =
    ap (λ (b : Bool). if b then came (Ok tt) (record s { counted = suc s.counted }) else came (refuse {A = Unit {0}} frame rule.Budget) s) e
