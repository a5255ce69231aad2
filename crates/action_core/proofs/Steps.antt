-- What is kept by the runs that all others are put together from.
use Rattle.std.proofs.Common.{◌≡◌, ℕ, suc, ◌+◌, Bool, true, false, Result, Ok, Err, refl}
use Rattle.std.specs.Prelude.{IfOk, nat_lt, if◌then◌else◌}
use Rattle.snap_core.specs.declared.number.NodeNo.{NodeNo}
use Rattle.pointer_core.specs.Path.{Path}
use Rattle.pointer_core.specs.declared.refusal.Rule.{Rule}
use Rattle.pointer_core.specs.declared.refusal.Rule.TheVariants as rule
use Rattle.type_core.specs.Making.{Refused, Outcome}
use Rattle.edit_core.specs.Labelled.{Labelled}
use Rattle.tree_core.specs.Changed.{Changed}
use Rattle.tree_core.specs.Outcome.{refuse}
use Rattle.tree_core.specs.Recorded.{tree_in}
use Rattle.tree_core.specs.Writing.{Tree}
use Rattle.eval_core.specs.Answer.{Answer, plain, node, several}
use Rattle.eval_core.specs.Pairing.{Anything}
use Rattle.eval_core.specs.Run as eval
use Rattle.eval_core.specs.Run.{Run, Eval, Fault, andthen, lift, joined, ended}
use Rattle.eval_core.specs.Scope as scope
use Rattle.eval_core.specs.Scope.{Scope}
use Rattle.view_engine.specs.Told as views
use Rattle.action_core.specs.Act.{State, Act, root_of, tells, refuses, looks, continued, ◌>>=◌, instead, or_else, back_if_refused, all_or_nothing, with_change}
use Rattle.action_core.specs.Behaving.{sight_in, told, evaluates, in_frame, changed_to, writes, most_statements, counts, on_node}
use Rattle.action_core.specs.Keeping.{Keeping, IsKept, Keeps, scope_of}

-- Evaluating.

-- whatever was counted before: where it ends well, a fact holds of what it gives
abbrev pub Gives : {A : Type 0} → (A → Type 0) → Eval A → Type 0
Gives P e = (before : ℕ) → IfOk (e before).outcome P

pub given : {A : Type 0} (P : A → Type 0) (x : A) → P x → Gives P (scope.gives x)
unfolding lift
given P x h before = h

evaluated_on : {A B : Type 0} (P : A → Type 0) (Q : B → Type 0) (run : Run A) (next : A → Run B) (o : Result A Fault)
    → IfOk o P → ((x : A) → P x → IfOk (next x).outcome Q) → IfOk (eval.continued run next o).outcome Q
unfolding joined ended
evaluated_on P Q run next (Ok x) h k = k x h
evaluated_on P Q run next (Err fault) h k = tt

pub going_on : {A B : Type 0} (P : A → Type 0) (Q : B → Type 0) (e : Eval A) (next : A → Eval B) → Gives P e → ((x : A) → P x → Gives Q (next x))
    → Gives Q (andthen e next)
unfolding andthen
going_on P Q e next h k before =
    evaluated_on P Q (e before) (λ x. next x (before + (e before).own)) (e before).outcome (h before) (λ x p. k x p (before + (e before).own))

-- Outcomes.

pub anything : {A E : Type 0} (o : Result A E) → IfOk o Anything
anything (Ok x) = tt
anything (Err e) = tt

told_fine : {A : Type 0} (P : A → Type 0) (t : views.Telling) (o : Result A Fault) → IfOk o P → IfOk (told t o) P
told_fine P t (Ok x) h = h
told_fine P t (Err fault) h = tt

-- Runs.

pub telling : (k : Keeping) {A : Type 0} (P : A → Type 0) (o : Outcome A) → IfOk o P → Keeps k P (tells o)
unfolding tells
telling k P o h s fit = record { fit = fit; rel = k.stays s; fine = h }

pub refusing : (k : Keeping) {A : Type 0} (P : A → Type 0) (path : Path) (r : Rule) → Keeps k P (refuses {A = A} path r)
refusing k P path r = telling k P (refuse path r) tt

pub looking : (k : Keeping) {A : Type 0} (P : A → Type 0) (said : Labelled → Outcome A) → ((s : State) → k.Fit s → IfOk (said (root_of s)) P)
    → Keeps k P (looks said)
unfolding looks
looking k P said h s fit = record { fit = fit; rel = k.stays s; fine = h s fit }

continuing : (k : Keeping) {A B : Type 0} (P : A → Type 0) (Q : B → Type 0) (s now : State) (next : A → Act B) (o : Outcome A)
    → k.Fit now → k.Rel s now → IfOk o P → ((x : A) → P x → Keeps k Q (next x)) → IsKept k.Rel k.Fit Q s (continued now next o)
continuing k P Q s now next (Ok x) fit rel fine h =
    let after = h x fine now fit in record { fit = after.fit; rel = k.goes_on s now (next x now).state rel after.rel; fine = after.fine }
continuing k P Q s now next (Err e) fit rel fine h = record { fit = fit; rel = rel; fine = tt }

pub thens : (k : Keeping) {A B : Type 0} (P : A → Type 0) (Q : B → Type 0) (act : Act A) (next : A → Act B) → Keeps k P act
    → ((x : A) → P x → Keeps k Q (next x)) → Keeps k Q (act >>= next)
unfolding ◌>>=◌
thens k P Q act next h g s fit =
    let first = h s fit in continuing k P Q s (act s).state next (act s).outcome first.fit first.rel first.fine g

rescued : (k : Keeping) {A : Type 0} (P : A → Type 0) (s now : State) (other : Refused → Act A) (o : Outcome A)
    → k.Fit now → k.Rel s now → IfOk o P → ((e : Refused) → Keeps k P (other e)) → IsKept k.Rel k.Fit P s (instead now other o)
rescued k P s now other (Ok x) fit rel fine h = record { fit = fit; rel = rel; fine = fine }
rescued k P s now other (Err e) fit rel fine h =
    let after = h e now fit in record { fit = after.fit; rel = k.goes_on s now (other e now).state rel after.rel; fine = after.fine }

pub rescuing : (k : Keeping) {A : Type 0} (P : A → Type 0) (other : Refused → Act A) (act : Act A) → Keeps k P act
    → ((e : Refused) → Keeps k P (other e)) → Keeps k P (or_else other act)
unfolding or_else
rescuing k P other act h g s fit = let first = h s fit in rescued k P s (act s).state other (act s).outcome first.fit first.rel first.fine g

refused_back : (k : Keeping) {A : Type 0} (P : A → Type 0) (s now : State) (o : Outcome A) → k.Fit s → k.Fit now → k.Rel s now → IfOk o P
    → IsKept k.Rel k.Fit P s (back_if_refused s.tree now o)
refused_back k P s now (Ok x) began fit rel fine = record { fit = fit; rel = rel; fine = fine }
refused_back k P s now (Err e) began fit rel fine = let back = k.backing s now began fit rel in record { fit = back.0; rel = back.1; fine = tt }

pub taking_back : (k : Keeping) {A : Type 0} (P : A → Type 0) (act : Act A) → Keeps k P act → Keeps k P (all_or_nothing act)
unfolding all_or_nothing
taking_back k P act h s fit = let first = h s fit in refused_back k P s (act s).state (act s).outcome fit first.fit first.rel first.fine

pub evaluating : (k : Keeping) {A : Type 0} (P : A → Type 0) (frame : Path) (e : Scope → Eval A)
    → ((s : State) → k.Fit s → Gives P (e (scope_of k.behaving s))) → Keeps k P (evaluates k.behaving frame e)
unfolding evaluates
evaluating k P frame e h s fit =
    let met = k.meets _ (e (scope_of k.behaving s) 0) s fit in
    let t : views.Telling = record { sight = sight_in k.behaving (root_of s); name_of = k.behaving.name_of; frame = frame } in
    record { fit = met.0; rel = met.1; fine = told_fine P t (e (scope_of k.behaving s) 0).outcome (h s fit 0) }

-- a change that is kept wherever it is one
changed : (k : Keeping) (frame : Path) (s : State) (o : Outcome Changed) → k.Fit s
    → ((c : Changed) → o ≡ Ok c → k.Fit (with_change c s) × k.Rel s (with_change c s)) → IsKept k.Rel k.Fit Anything s (changed_to s (in_frame frame o))
changed k frame s (Ok c) fit h = let done = h c refl in record { fit = done.0; rel = done.1; fine = tt }
changed k frame s (Err e) fit h = record { fit = fit; rel = k.stays s; fine = tt }

pub writing : (k : Keeping) (frame : Path) (change : Tree → Outcome Changed)
    → ((s : State) → k.Fit s → (c : Changed) → change (tree_in s.tree) ≡ Ok c → k.Fit (with_change c s) × k.Rel s (with_change c s))
    → Keeps k Anything (writes frame change)
unfolding writes
writing k frame change h s fit = changed k frame s (change (tree_in s.tree)) fit (h s fit)

pub counting : (k : Keeping) (frame : Path) → Keeps k Anything (counts frame)
unfolding counts
counting k frame s fit = by_room (nat_lt s.counted most_statements) refl
  where
    by_room : (b : Bool) → nat_lt s.counted most_statements ≡ b → IsKept k.Rel k.Fit {A = Unit {0}} Anything s
        (if b then record { outcome = Ok tt; state = record s { counted = suc s.counted } } else record { outcome = refuse frame rule.Budget; state = s })
    by_room true e = let done = k.counting s fit e in record { fit = done.0; rel = done.1; fine = tt }
    by_room false e = record { fit = fit; rel = k.stays s; fine = tt }

pub being_node : (k : Keeping) {A : Type 0} (P : A → Type 0) (frame : Path) (x : Answer) (use_node : NodeNo → Act A)
    → ((n : NodeNo) → Keeps k P (use_node n)) → Keeps k P (on_node frame x use_node)
being_node k P frame (node n) use_node h = h n
being_node k P frame (plain v) use_node h = refusing k P frame rule.Kind
being_node k P frame (several xs) use_node h = refusing k P frame rule.Kind

pub choosing : (k : Keeping) {A : Type 0} (P : A → Type 0) (b : Bool) (first second : Act A) → Keeps k P first → Keeps k P second
    → Keeps k P (if b then first else second)
choosing k P true first second h g = h
choosing k P false first second h g = g
