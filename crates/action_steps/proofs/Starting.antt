-- What an action begins with, by what it is called with.
use Rattle.std.proofs.Common.{◌≡◌, ℕ, List, ◌++◌, Option, Some, None, Result, Ok, Err, refl, sym, ◌∙◌, ap, subst}
use Rattle.std.specs.Prelude.{IfSome, IsErrAnd}
use Rattle.std.specs.Option.{option_map}
use Rattle.pointer_core.specs.Path.{Path}
use Rattle.pointer_core.specs.declared.refusal.Rule.TheVariants as rule
use Rattle.type_core.specs.Making.{Outcome}
use Rattle.expr_syntax.specs.Syntax.{Statements}
use Rattle.model_syntax.specs.declared.behaviour.Param.{Param}
use Rattle.model_syntax.specs.Shown.{ShownAction}
use Rattle.edit_core.specs.declared.kind.Kind.{Kind}
use Rattle.edit_core.specs.declared.kind.Kind.TheVariants as kinds
use Rattle.edit_core.specs.Labelled.{Labelled}
use Rattle.tree_core.specs.Outcome.{◌>>=◌, refuse, or_refuse}
use Rattle.tree_core.specs.Reading.{kind_at}
use Rattle.answer_ops.specs.View.{answers_of}
use Rattle.eval_core.specs.Asking.{bound_at}
use Rattle.eval_core.specs.Scope.{Env}
use Rattle.plain_answers.specs.EachExpression.{HoldsInBlock}
use Rattle.plain_answers.specs.Plainness.{HasPlainConstants}
use Rattle.view_engine.specs.declared.halt.RunError.{RunError}
use Rattle.view_engine.specs.declared.halt.RunError.TheVariants as halts
use Rattle.action_core.specs.Behaving.{Behaving, Callee, sight_in}
use Rattle.action_core.specs.Beginning.{Begun, Bound, arguments_of, all_reached, frame_of, action_under, action_begun, begun_of_kind, begun_by}
use Rattle.action_laws.specs.Laws.{IsPlainBehaving}
use Rattle.action_steps.specs.Acting.{Begins, env_of}
use Rattle.action_steps.specs.Doing.{IsOutcome}
use Rattle.action_steps.specs.Beginning.{names_bound}
use Rattle.action_steps.specs.declared.binding.Called.{Called}
use Rattle.action_steps.specs.declared.beginning.Begun.{Begun as Declared}
use Rattle.view_engine.specs.declared.names.Env.{Env as Names}

-- Refusals.

pub begun-dead : (behaving : Behaving) (caller : Path) (callee : Callee) (root : Labelled) → None ≡ kind_at callee.node.0 root → begun_by behaving caller callee root ≡ refuse caller rule.Dead
begun-dead behaving caller callee root dead = ap (λ o. or_refuse o caller rule.Dead >>= begun_of_kind behaving callee root) (sym dead)

begun-kind : (behaving : Behaving) (caller : Path) (callee : Callee) (root : Labelled) (kind : Kind) → Some kind ≡ kind_at callee.node.0 root
    → begun_by behaving caller callee root ≡ begun_of_kind behaving callee root kind
begun-kind behaving caller callee root kind lives = ap (λ o. or_refuse o caller rule.Dead >>= begun_of_kind behaving callee root) (sym lives)

pub begun-unknown : (behaving : Behaving) (caller : Path) (callee : Callee) (root : Labelled) (kind : Kind) → Some kind ≡ kind_at callee.node.0 root
    → None ≡ action_under behaving callee.name kind → begun_by behaving caller callee root ≡ refuse (frame_of callee root) rule.Unknown
begun-unknown behaving caller callee root kind lives none =
    begun-kind behaving caller callee root kind lives ∙ ap (λ o. or_refuse o (frame_of callee root) rule.Unknown >>= action_begun behaving callee root) (sym none)

-- Beginning.

-- with the names that are bound in the statements
abbrev pub begun_with : Path → Statements → Outcome Env → Outcome Begun
begun_with frame body names = names >>= (λ env. Ok (record { frame = frame; body = body; env = env }))

with_reached : (frame : Path) (body : Statements) (own : Env) (o : Option Env)
    → (or_refuse o frame rule.Reference >>= (λ env. Ok (record { frame = frame; body = body; env = env ++ own })))
    ≡ begun_with frame body (or_refuse o frame rule.Reference >>= (λ env. Ok (env ++ own)))
with_reached frame body own None = refl
with_reached frame body own (Some env) = refl

with_given : (frame : Path) (body : Statements) (own : Env) (f : List Bound → Option Env) (o : Option (List Bound))
    → ((or_refuse o frame rule.Arguments >>= (λ g. or_refuse (f g) frame rule.Reference)) >>= (λ env. Ok (record { frame = frame; body = body; env = env ++ own })))
    ≡ begun_with frame body (or_refuse o frame rule.Arguments >>= (λ g. or_refuse (f g) frame rule.Reference >>= (λ env. Ok (env ++ own))))
with_given frame body own f None = refl
with_given frame body own f (Some g) = with_reached frame body own (f g)

-- of a known action
begun-action : (behaving : Behaving) (callee : Callee) (root : Labelled) (action : ShownAction)
    → action_begun behaving callee root action
    ≡ begun_with (frame_of callee root) action.body (or_refuse (arguments_of behaving.types root action.params callee.given) (frame_of callee root) rule.Arguments
    >>= (λ given. or_refuse (all_reached (sight_in behaving root) given) (frame_of callee root) rule.Reference >>= (λ env. Ok (env ++ bound_at (sight_in behaving root) callee.node))))
begun-action behaving callee root action =
    with_given (frame_of callee root) action.body (bound_at (sight_in behaving root) callee.node) (all_reached (sight_in behaving root))
    (arguments_of behaving.types root action.params callee.given)

-- the action whose parameters and whose body are told
the_action : (o : Option ShownAction) (params : List Param) (body : Statements) → option_map (λ (a : ShownAction). a.params) o ≡ Some params → option_map (λ (a : ShownAction). a.body) o ≡ Some body
    → (a : ShownAction) × (o ≡ Some a) × (a.params ≡ params) × (a.body ≡ body)
the_action None params body first second = cc
the_action (Some a) params body first second = (a, refl, cc, cc)

pub begun-names : (behaving : Behaving) (caller : Path) (callee : Callee) (root : Labelled) (kind : Kind) (o : Option ShownAction) (c : Called) (body : Statements)
    → Some kind ≡ kind_at callee.node.0 root → o ≡ action_under behaving callee.name kind → option_map (λ (a : ShownAction). a.params) o ≡ Some c.params.now
    → option_map (λ (a : ShownAction). a.body) o ≡ Some body → answers_of c.args.now ≡ callee.given → c.node ≡ callee.node
    → begun_by behaving caller callee root ≡ begun_with (frame_of callee root) body (names_bound behaving.types root (frame_of callee root) c)
begun-names behaving caller callee root kind o c body lives known params stated args node =
    let a = the_action o c.params.now body params stated in
    let frame = frame_of callee root in
    let sight = sight_in behaving root in
    begun-kind behaving caller callee root kind lives
    ∙ ap (λ p. or_refuse p frame rule.Unknown >>= action_begun behaving callee root) (sym known ∙ a.1)
    ∙ begun-action behaving callee root a.0
    ∙ ap (λ b. begun_with frame b (or_refuse (arguments_of behaving.types root a.0.params callee.given) frame rule.Arguments
    >>= (λ given. or_refuse (all_reached sight given) frame rule.Reference >>= (λ env. Ok (env ++ bound_at sight callee.node))))) a.3
    ∙ ap (λ ps. begun_with frame body (or_refuse (arguments_of behaving.types root ps callee.given) frame rule.Arguments
    >>= (λ given. or_refuse (all_reached sight given) frame rule.Reference >>= (λ env. Ok (env ++ bound_at sight callee.node))))) a.2
    ∙ ap (λ xs. begun_with frame body (or_refuse (arguments_of behaving.types root c.params.now xs) frame rule.Arguments
    >>= (λ given. or_refuse (all_reached sight given) frame rule.Reference >>= (λ env. Ok (env ++ bound_at sight callee.node))))) (sym args)
    ∙ ap (λ n. begun_with frame body (or_refuse (arguments_of behaving.types root c.params.now (answers_of c.args.now)) frame rule.Arguments
    >>= (λ given. or_refuse (all_reached sight given) frame rule.Reference >>= (λ env. Ok (env ++ bound_at sight n))))) (sym node)

-- an error of binding the names is handed on
handed : (frame : Path) (body : Statements) (names : Outcome Env) (o : Outcome Begun) (e : RunError) (r : Result Declared RunError) → o ≡ begun_with frame body names
    → IsErrAnd r (λ x. x ≡ e) → IsOutcome {T = Names} env_of (Err e) names → Begins r o
handed frame body names o e (Ok x) is handed_on said = absurd handed_on
handed frame body names o e (Err other) is handed_on said = subst (λ x. Begins (Err x) o) (sym handed_on) (begins e said)
  where
    begins : (x : RunError) → IsOutcome {T = Names} env_of (Err x) names → Begins (Err x) o
    begins halts.Memory told = tt
    begins (halts.Refused q) told = is ∙ ap (begun_with frame body) told

pub begins-handed : (behaving : Behaving) (caller : Path) (callee : Callee) (root : Labelled) (kind : Kind) (o : Option ShownAction) (c : Called) (e : RunError) (r : Result Declared RunError)
    → Some kind ≡ kind_at callee.node.0 root → o ≡ action_under behaving callee.name kind → option_map (λ (a : ShownAction). a.params) o ≡ Some c.params.now
    → answers_of c.args.now ≡ callee.given → c.node ≡ callee.node → IsErrAnd r (λ x. x ≡ e)
    → IsOutcome {T = Names} env_of (Err e) (names_bound behaving.types root (frame_of callee root) c) → Begins r (begun_by behaving caller callee root)
begins-handed behaving caller callee root kind None c e r lives known params args node handed_on said = cc
begins-handed behaving caller callee root kind (Some a) c e r lives known params args node handed_on said =
    handed (frame_of callee root) a.body (names_bound behaving.types root (frame_of callee root) c) (begun_by behaving caller callee root) e r
    (begun-names behaving caller callee root kind (Some a) c a.body lives known params refl args node) handed_on said

-- the constants of an action that is known are plain
pub constants-plain : (behaving : Behaving) → IsPlainBehaving behaving → (name : List ℕ) (kind : Kind) (o : Option ShownAction) (body : Statements) → o ≡ action_under behaving name kind
    → option_map (λ (a : ShownAction). a.body) o ≡ Some body → HoldsInBlock HasPlainConstants body
constants-plain behaving plain name (kinds.Model m) o body known stated =
    of_action o (subst (λ p. IfSome p (λ (a : ShownAction). HoldsInBlock HasPlainConstants a.body)) (sym known) (plain.actions m name)) stated
  where
    of_action : (p : Option ShownAction) → IfSome p (λ (a : ShownAction). HoldsInBlock HasPlainConstants a.body) → option_map (λ (a : ShownAction). a.body) p ≡ Some body
        → HoldsInBlock HasPlainConstants body
    of_action None fine is = cc
    of_action (Some a) fine is = let same : a.body ≡ body = cc in subst (HoldsInBlock HasPlainConstants) same fine
constants-plain behaving plain name (kinds.Array t) None body known stated = cc
constants-plain behaving plain name (kinds.Array t) (Some a) body known stated = cc
constants-plain behaving plain name (kinds.Map t) None body known stated = cc
constants-plain behaving plain name (kinds.Map t) (Some a) body known stated = cc
