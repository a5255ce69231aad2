-- The body of a view that is asked.
use Rattle.std.proofs.Common.{◌≡◌, ℕ, List, [], ◌∷◌, ◌++◌, Result, sym, ◌∙◌, ap, subst}
use Rattle.std.specs.Borrow.{Bor}
use Rattle.snap_core.specs.declared.number.NodeNo.{NodeNo}
use Rattle.expr_syntax.specs.Syntax.{Expression}
use Rattle.expr_syntax.specs.declared.number.ViewNo.{ViewNo}
use Rattle.eval_core.specs.Answer.{Answer, node}
use Rattle.eval_core.specs.Sight.{Sight}
use Rattle.eval_core.specs.Run.{Eval, enters}
use Rattle.eval_core.specs.Scope.{Scope, Env, Viewing}
use Rattle.eval_core.specs.Evaluating.{evaluated}
use Rattle.eval_core.specs.Asking.{Asked, Stack, Asking, site_of, bound_at, body_run}
use Rattle.answer_ops.specs.View.{answer_of}
use Rattle.answer_ops.specs.declared.value.Value
use Rattle.answer_ops.proofs.Views.{answer-Node}
use Rattle.view_engine.specs.declared.halt.Halt.{Halt}
use Rattle.view_engine.specs.declared.member.Got.{Got}
use Rattle.view_engine.specs.declared.member.Got.TheVariants as got
use Rattle.view_engine.specs.declared.names.Names
use Rattle.view_engine.specs.declared.scope.Going
use Rattle.view_engine.specs.declared.scope.Going.TheFolds.{fold-roll-Going}
use Rattle.view_engine.specs.declared.scope.Going.TheOpen.{Going-F}
use Rattle.view_engine.specs.declared.scope.Going.TheVariants.{rolls-Nothing, rolls-View}
use Rattle.view_engine.specs.Did.{Course, course, Did}
use Rattle.view_engine.specs.Got.{reached}
use Rattle.view_engine.specs.Names.{names_of, body_env}
use Rattle.view_engine.specs.Progress.{Standing, standing_of, going_step}
use Rattle.view_engine.proofs.Alike.{Alike, alike-same}
use Rattle.view_engine.proofs.Doing.{did-alike, did-enters}
use Rattle.view_engine.proofs.Bindings.{names-Body}

pub standing-Nothing : standing_of Going.Nothing ≡ going_step Going-F.Nothing
standing-Nothing = ap standing_of (sym rolls-Nothing) ∙ fold-roll-Going Standing going_step Going-F.Nothing

abbrev pub one_more_view : NodeNo → ViewNo → Standing → Standing
one_more_view n v before = let q : Asked = record { node = n; view = v } in record { stack = before.stack ++ q ∷ []; here = site_of q }

pub standing-View : (n : NodeNo) (v : ViewNo) (before : Bor Going.Going) → standing_of (Going.View n v before) ≡ one_more_view n v (standing_of before.now)
standing-View n v before = ap standing_of (sym (rolls-View n v before)) ∙ fold-roll-Going Standing going_step (Going-F.View n v before)

-- what is bound in the body of a view of a node
pub names-bound : (sight : Sight) (n root : NodeNo) (own : Bor Value.Value) (top : Bor Value.Value) → own.now ≡ Value.Node n → top.now ≡ Value.Node root → root ≡ sight.root
    → names_of (Names.Body own top) ≡ bound_at sight n
names-bound sight n root own top is_own is_top is_root =
    names-Body own top ∙ ap (λ x. body_env x (answer_of top.now)) (ap answer_of is_own ∙ answer-Node n)
    ∙ ap (λ x. body_env (node n) x) (ap answer_of is_top ∙ answer-Node root ∙ ap node is_root)

-- a body that was evaluated is a view that was asked
pub view-entered : (s inner : Scope) (asking : Asking) (stack : Stack) (q : Asked) (found : Got) (body : Expression) (env : Env) (r : Result Value.Value Halt) (n c a b : ℕ)
    → found ≡ got.View q.node q.view
    → ((m : ℕ) → s.ask q.node q.view m ≡ body_run s.viewing s.sight asking stack q m)
    → inner ≡ record { viewing = s.viewing; sight = s.sight; ask = asking (stack ++ q ∷ []); here = site_of q }
    → body ≡ s.viewing.body_of q.view
    → env ≡ bound_at s.sight q.node
    → Did answer_of r (evaluated inner body env) (course 0 c a b)
    → Did answer_of r (reached s found) (course n n a b)
view-entered s inner asking stack q found body env r n c a b is asks by shows binds did =
    let own : Scope = record { viewing = s.viewing; sight = s.sight; ask = asking (stack ++ q ∷ []); here = site_of q } in
    let done : Did answer_of r (evaluated own (s.viewing.body_of q.view) (bound_at s.sight q.node)) (course 0 c a b) =
    subst (λ x. Did answer_of r (evaluated own (s.viewing.body_of q.view) x) (course 0 c a b)) binds
    (subst (λ x. Did answer_of r (evaluated own x env) (course 0 c a b)) shows
    (subst (λ x. Did answer_of r (evaluated x body env) (course 0 c a b)) by did)) in
    subst (λ g. Did answer_of r (reached s g) (course n n a b)) (sym is)
    (did-alike answer_of r (body_run s.viewing s.sight asking stack q) (s.ask q.node q.view) (course n n a b)
    (subst (λ run. Alike (body_run s.viewing s.sight asking stack q n) run) (sym (asks n)) (alike-same (body_run s.viewing s.sight asking stack q n)))
    (did-enters answer_of r q.node q.view (evaluated own (s.viewing.body_of q.view) (bound_at s.sight q.node)) n c a b done))
