-- What is evaluated of an expression, by the number of its parts.
use Rattle.std.specs.Prelude.{◌≡◌, ℕ, List, [], ◌∷◌, Bool, Result, Ok, Err, codes, map, if◌then◌else◌}
use Rattle.snap_core.specs.Value.{boolean, null}
use Rattle.snap_core.specs.View.{view}
use Rattle.expr_syntax.specs.Syntax.{Expression}
use Rattle.expr_syntax.specs.Syntax as syntax
use Rattle.expr_syntax.specs.Shown.{shown, expressions, members}
use Rattle.expr_syntax.specs.Forms.{entry_shown}
use Rattle.eval_core.specs.Answer.{Answer, plain, several}
use Rattle.eval_core.specs.Run.{Eval, counts, andthen}
use Rattle.eval_core.specs.Scope.{Scope, Env, bound_in, gives, judged}
use Rattle.eval_core.specs.Operating.{in_bounds, truth_in}
use Rattle.eval_core.specs.Reading.{operate, got, ref_got, own_got, find_got, is_got}
use Rattle.eval_core.specs.Walking.{walked, walk_over, start}
use Rattle.eval_core.specs.Making.{record_made}
use Rattle.eval_core.specs.Evaluating.{counted, truth, truth_of, bound_answer, told, evaluated, all_evaluated, members_evaluated}
use Rattle.view_engine.specs.declared.halt.Halt.{Halt}
use Rattle.view_engine.specs.Did.{Read}
use Rattle.view_engine.specs.declared.step.Use.{Use}
use Rattle.view_engine.specs.declared.step.Use.TheVariants.{Ref, Operate, Keys, Items, Snapshot, Path, Find, Is}
use Rattle.view_engine.specs.declared.step.Walk.{Walk}
use Rattle.view_engine.specs.declared.step.Walk.TheVariants as walk
use Rattle.view_engine.specs.declared.step.Branch.{Branch}
use Rattle.view_engine.specs.declared.step.Branch.TheVariants as branch
use Rattle.view_engine.specs.declared.step.Step.{Step}
use Rattle.view_engine.specs.declared.step.Step.TheVariants as step

abbrev pub walk_of : Walk → syntax.Walk
walk_of walk.Filter = syntax.filter
walk_of walk.Collect = syntax.collect
walk_of walk.All = syntax.all
walk_of walk.Any = syntax.any
walk_of walk.Sum = syntax.sum

-- what is done with the value of the one part
abbrev pub used : Scope → Use → Answer → Eval Answer
used s (Ref p) x = ref_got s p.now x
used s (Operate op) x = operate s op x (plain null)
used s Keys x = told s syntax.keys x
used s Items x = told s syntax.items x
used s Snapshot x = told s syntax.snapshot x
used s Path x = told s syntax.path x
used s (Find m) x = find_got s m x
used s (Is m) x = is_got s m x

-- a value that is to be a truth
abbrev pub as_truth : Scope → Answer → Eval Answer
as_truth s x = andthen (truth s x) (λ b. gives (plain (boolean b)))

abbrev pub branched : Scope → Branch → Env → Eval Answer
branched s (branch.Known b) env = gives (plain (boolean b))
branched s (branch.Truth e) env = truth_of s (evaluated s (shown e.now) env)
branched s (branch.Any e) env = evaluated s (shown e.now) env

-- what a step gives, before its result is tested
abbrev pub stepped : Scope → Step → Env → Eval Answer
stepped s (step.Const v) env = gives (plain (view v.now))
stepped s (step.Var x) env = bound_answer s (bound_in x.now env)
stepped s (step.Own p) env = own_got s p.now (bound_in (codes "self") env)
stepped s (step.Get e p) env = andthen (evaluated s (shown e.now) env) (got s p.now)
stepped s (step.One u e) env = andthen (evaluated s (shown e.now) env) (used s u)
stepped s (step.Two op a b) env = andthen (evaluated s (shown a.now) env) (λ x. andthen (evaluated s (shown b.now) env) (operate s op x))
stepped s (step.Walk w) env =
    andthen (evaluated s (shown w.over.now) env) (λ y. andthen (walked s y) (λ is.
    walk_over s (walk_of w.walk) (λ z. evaluated s (shown w.body.now) ((w.name.now, z) ∷ env)) is (start (walk_of w.walk))))
stepped s (step.Choose c met unmet) env =
    andthen (evaluated s (shown c.now) env) (λ x. andthen (truth s x) (λ t. if t then branched s met env else branched s unmet env))
stepped s (step.Bind x e b) env = andthen (evaluated s (shown e.now) env) (λ y. evaluated s (shown b.now) ((x.now, y) ∷ env))
stepped s (step.List es) env = andthen (all_evaluated s (expressions (map shown es.now)) env) (λ xs. gives (several xs))
stepped s (step.Make ms) env = andthen (members_evaluated s (members (map entry_shown ms.now)) env) (λ xs. judged s (record_made s.sight xs))

-- the result of an evaluation is tested
abbrev pub tested : Scope → Eval Answer → Eval Answer
tested s inner = andthen inner (λ x. judged s (in_bounds x))

-- a step is what is evaluated of an expression once the expression is counted
abbrev pub IsStepOf : Step → Expression → Type 0
IsStepOf step e = (s : Scope) (env : Env) → evaluated s e env ≡ counted s (stepped s step env)

-- the branch that a value chooses by its truth
abbrev pub branch_by : Branch × Branch → Bool → Branch
branch_by branches b = if b then branches.0 else branches.1

abbrev pub Chooses : Scope → Answer → Branch × Branch → Result Branch Halt → Type 0
Chooses s x branches (Ok chosen) = (b : Bool) × (truth_in x ≡ Ok b) × (chosen ≡ branch_by branches b)
Chooses s x branches (Err halt) = Read {T = Bool} (λ b. b) (Err halt) (truth s x)
