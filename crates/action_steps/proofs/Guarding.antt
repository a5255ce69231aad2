-- A condition is evaluated with what is bound on its node.
use Rattle.std.proofs.Common.{◌≡◌, Bool, refl, ◌∙◌, ap, subst}
use Rattle.std.specs.Prelude.{Result}
use Rattle.snap_core.specs.declared.number.NodeNo.{NodeNo}
use Rattle.pointer_core.specs.Path.{Path}
use Rattle.expr_syntax.specs.Syntax.{Expression}
use Rattle.eval_core.specs.Asking.{bound_at}
use Rattle.eval_core.specs.Evaluating.{evaluated, truth}
use Rattle.eval_core.specs.Run.{andthen}
use Rattle.eval_core.specs.Scope.{Env}
use Rattle.view_engine.specs.declared.halt.RunError.{RunError}
use Rattle.action_core.specs.Act.{State, Ran, Act, root_of}
use Rattle.action_core.specs.Behaving.{Behaving, sight_in, evaluates}
use Rattle.action_core.specs.Calling.{guards}
use Rattle.action_steps.specs.Doing.{Point, state_at, spent, Came, Performs}

-- a condition under names
abbrev holds_under : Behaving → Path → Expression → Env → Act Bool
holds_under behaving frame condition env = evaluates behaving frame (λ s. andthen (evaluated s condition env) (truth s))

own-names : (behaving : Behaving) (frame : Path) (n : NodeNo) (condition : Expression) (s : State)
    → holds_under behaving frame condition (bound_at (sight_in behaving (root_of s)) n) s ≡ guards behaving frame n condition s
unfolding evaluates
own-names behaving frame n condition s = refl

pub guarded : (behaving : Behaving) (frame : Path) (n : NodeNo) (condition : Expression) (env : Env) (r : Result Bool RunError) (a b : Point)
    → env ≡ bound_at (sight_in behaving a.tree.tree) n → Performs (λ x. x) r (holds_under behaving frame condition env) a b → Performs (λ x. x) r (guards behaving frame n condition) a b
guarded behaving frame n condition env r a b is did = record {
  came = λ tried met.
      let s : State = state_at a tried met in
      let same : holds_under behaving frame condition env s ≡ guards behaving frame n condition s =
      ap (λ e. holds_under behaving frame condition e s) is ∙ own-names behaving frame n condition s in
      subst (λ (ran : Ran Bool). Came (λ x. x) r ran (spent met) a b) same (did.came tried met);
  back = did.back;
  rises = did.rises;
}
