-- Choices, views that are asked, and results of loops.
use Rattle.std.proofs.Common.{◌≡◌, ℕ, suc, ◌++◌, List, [], ◌∷◌, Bool, true, false, Result, Ok, Err, if◌then◌else◌, refl, sym, ◌∙◌, ap, subst}
use Rattle.std.specs.Borrow.{Bor}
use Rattle.snap_core.specs.Value.{boolean}
use Rattle.snap_core.specs.declared.number.NodeNo.{NodeNo}
use Rattle.expr_syntax.specs.declared.number.ViewNo.{ViewNo}
use Rattle.expr_syntax.specs.Shown.{shown}
use Rattle.expr_syntax.specs.declared.expr.Expr.{Expr}
use Rattle.eval_core.specs.Answer.{Answer, plain, node}
use Rattle.eval_core.specs.Run.{Eval, andthen, enters}
use Rattle.eval_core.specs.Scope.{Scope, Env, gives, judged}
use Rattle.eval_core.specs.Operating.{in_bounds, truth_in}
use Rattle.eval_core.specs.Evaluating.{truth, truth_of, evaluated}
use Rattle.answer_ops.specs.View.{answer_of}
use Rattle.answer_ops.specs.declared.value.Value.{Value}
use Rattle.view_engine.specs.declared.halt.Halt.{Halt}
use Rattle.view_engine.specs.declared.step.Branch.{Branch}
use Rattle.view_engine.specs.declared.step.Branch.TheVariants as branch
use Rattle.view_engine.specs.Did.{Course, course, Did, Read}
use Rattle.view_engine.specs.Steps.{tested, branched, branch_by, as_truth}
use Rattle.view_engine.proofs.Doing.{did-stop, did-then, read-did, read-lift, tested-then, tested-stop, tested-gives}
use Rattle.view_engine.proofs.Courses.{truth-chose, last-tested, last-refused}

-- what follows a value by its truth
abbrev pub chosen_from : Scope → Branch → Branch → Env → Answer → Eval Answer
chosen_from s met unmet env x = andthen (truth s x) (λ t. if t then branched s met env else branched s unmet env)

-- the branch that was chosen was taken
pub branch-taken : (s : Scope) (x : Answer) (branches : Branch × Branch) (chosen : Branch) (env : Env) (b : Bool) (r : Result Value Halt) (way : Course)
    → truth_in x ≡ Ok b → chosen ≡ branch_by branches b → Did answer_of r (tested s (branched s chosen env)) way
    → Did answer_of r (tested s (andthen (truth s x) (λ t. if t then branched s branches.0 env else branched s branches.1 env))) way
branch-taken s x branches chosen env b r way is by did =
    truth-chose s x b (λ t. if t then branched s branches.0 env else branched s branches.1 env) r way is
    (by_truth b (subst (λ c. Did answer_of r (tested s (branched s c env)) way) by did))
  where
    by_truth : (t : Bool) → Did answer_of r (tested s (branched s (branch_by branches t) env)) way
        → Did answer_of r (tested s (if t then branched s branches.0 env else branched s branches.1 env)) way
    by_truth true h = h
    by_truth false h = h

-- an expression that was chosen gave its answer
pub any-taken : (s : Scope) (x : Answer) (branches : Branch × Branch) (chosen : Branch) (e : Bor Expr) (env : Env) (b : Bool) (y : Value) (r : Result Value Halt) (way : Course)
    → truth_in x ≡ Ok b → chosen ≡ branch_by branches b → chosen ≡ branch.Any e
    → Did answer_of (Ok y) (evaluated s (shown e.now) env) way → Read answer_of r (judged s (in_bounds (answer_of y)))
    → Did answer_of r (tested s (chosen_from s branches.0 branches.1 env x)) way
any-taken s x branches chosen e env b y r way is by any did last =
    branch-taken s x branches chosen env b r way is by
    (subst (λ c. Did answer_of r (tested s (branched s c env)) way) (sym any)
    (last-tested s y r (evaluated s (shown e.now) env) way.counted way.counted_after way.steps way.steps_after did last))

pub any-refused : (s : Scope) (x : Answer) (branches : Branch × Branch) (chosen : Branch) (e : Bor Expr) (env : Env) (b : Bool) (halt : Halt) (way : Course)
    → truth_in x ≡ Ok b → chosen ≡ branch_by branches b → chosen ≡ branch.Any e
    → Did {T = Value} answer_of (Err halt) (evaluated s (shown e.now) env) way
    → Did {T = Value} answer_of (Err halt) (tested s (chosen_from s branches.0 branches.1 env x)) way
any-refused s x branches chosen e env b halt way is by any did =
    branch-taken s x branches chosen env b (Err halt) way is by
    (subst (λ c. Did {T = Value} answer_of (Err halt) (tested s (branched s c env)) way) (sym any) (last-refused s halt (evaluated s (shown e.now) env) way did))

-- one that is to be a truth
pub truth-taken : (s : Scope) (x : Answer) (branches : Branch × Branch) (chosen : Branch) (e : Bor Expr) (env : Env) (b : Bool) (y : Value) (r : Result Value Halt) (way : Course)
    → truth_in x ≡ Ok b → chosen ≡ branch_by branches b → chosen ≡ branch.Truth e
    → Did answer_of (Ok y) (evaluated s (shown e.now) env) way → Read answer_of r (tested s (as_truth s (answer_of y)))
    → Did answer_of r (tested s (chosen_from s branches.0 branches.1 env x)) way
truth-taken s x branches chosen e env b y r way is by truth did last =
    branch-taken s x branches chosen env b r way is by
    (subst (λ c. Did answer_of r (tested s (branched s c env)) way) (sym truth)
    (tested-then answer_of s y r (evaluated s (shown e.now) env) (as_truth s) way.counted way.counted_after way.counted_after way.steps way.steps_after way.steps_after did
    (read-did answer_of r (tested s (as_truth s (answer_of y))) way.counted_after way.steps_after last)))

pub truth-refused : (s : Scope) (x : Answer) (branches : Branch × Branch) (chosen : Branch) (e : Bor Expr) (env : Env) (b : Bool) (halt : Halt) (way : Course)
    → truth_in x ≡ Ok b → chosen ≡ branch_by branches b → chosen ≡ branch.Truth e
    → Did {T = Value} answer_of (Err halt) (evaluated s (shown e.now) env) way
    → Did {T = Value} answer_of (Err halt) (tested s (chosen_from s branches.0 branches.1 env x)) way
truth-refused s x branches chosen e env b halt way is by truth did =
    branch-taken s x branches chosen env b (Err halt) way is by
    (subst (λ c. Did {T = Value} answer_of (Err halt) (tested s (branched s c env)) way) (sym truth)
    (tested-stop answer_of s halt (evaluated s (shown e.now) env) (as_truth s) way did))

-- a truth that is given is a result
pub truth-tested : (s : Scope) (b : Bool) (v : Value) → answer_of v ≡ plain (boolean b) → Read answer_of (Ok v) (tested s (gives (plain (boolean b))))
truth-tested s true v is = tested-gives s (plain (boolean true)) (Ok v) (read-lift answer_of (Ok v) _ (ap Ok (sym is)))
truth-tested s false v is = tested-gives s (plain (boolean false)) (Ok v) (read-lift answer_of (Ok v) _ (ap Ok (sym is)))

-- a truth that is known was chosen
pub known-taken : (s : Scope) (x : Answer) (branches : Branch × Branch) (chosen : Branch) (known : Bool) (env : Env) (b : Bool) (v : Value) (n a : ℕ)
    → truth_in x ≡ Ok b → chosen ≡ branch_by branches b → chosen ≡ branch.Known known → answer_of v ≡ plain (boolean known)
    → Did answer_of (Ok v) (tested s (chosen_from s branches.0 branches.1 env x)) (course n n a a)
known-taken s x branches chosen known env b v n a is by told given =
    branch-taken s x branches chosen env b (Ok v) (course n n a a) is by
    (subst (λ c. Did answer_of (Ok v) (tested s (branched s c env)) (course n n a a)) (sym told)
    (read-did answer_of (Ok v) (tested s (gives (plain (boolean known)))) n a (truth-tested s known v given)))
