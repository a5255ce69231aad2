-- The names that are bound in an action, by what its arguments come to.
use Rattle.std.proofs.Common.{◌≡◌, List, [], ◌∷◌, ◌++◌, Option, Some, None, Ok, Err, refl, sym, ◌∙◌, ap, subst}
use Rattle.std.specs.Prelude.{IfOk}
use Rattle.pointer_core.specs.Path.{Path}
use Rattle.pointer_core.specs.declared.refusal.Refusal.{Refusal}
use Rattle.pointer_core.specs.declared.refusal.Rule.{Rule}
use Rattle.pointer_core.specs.declared.refusal.Rule.TheVariants as rule
use Rattle.type_table.specs.Table.{Catalog}
use Rattle.type_core.specs.Making.{Outcome}
use Rattle.type_core.specs.Made.{refused_as}
use Rattle.type_core.specs.Sound.{IsSound}
use Rattle.expr_syntax.specs.Syntax.{done}
use Rattle.model_syntax.specs.Shown.{ShownAction}
use Rattle.edit_core.specs.Labelled.{Labelled}
use Rattle.tree_core.specs.Outcome.{◌>>=◌, refuse, or_refuse}
use Rattle.answer_ops.specs.View.{answers_of}
use Rattle.eval_core.specs.Asking.{bound_at}
use Rattle.eval_core.specs.Scope.{Env}
use Rattle.plain_answers.specs.Plainness.{IsPlainAnswer, ArePlainAnswers, IsPlainEnv}
use Rattle.view_engine.specs.declared.halt.RunError.{RunError}
use Rattle.view_engine.specs.declared.halt.RunError.TheVariants as halts
use Rattle.action_core.specs.Behaving.{Callee}
use Rattle.action_core.specs.Beginning.{Bound, arguments_of, all_reached, frame_of}
use Rattle.action_core.specs.Keeping.{IsFineEnv}
use Rattle.action_laws.specs.Schemas.{behaving_by}
use Rattle.action_laws.proofs.Arguments.{bound-plain}
use Rattle.action_laws.proofs.Leading.{fine-given}
use Rattle.action_steps.specs.Beginning.{names_bound, seen}
use Rattle.action_steps.specs.Doing.{IsOutcome, IsRefusal}
use Rattle.action_steps.specs.declared.binding.Called.{Called}
use Rattle.action_steps.proofs.Reaching.{bound_with}

-- a refusal is what an outcome says
pub refusal-outcome : {T A : Type 0} (seen_as : T → A) (e : RunError) (path : Path) (by : Rule) (o : Outcome A) → IsRefusal e path by → o ≡ refuse path by
    → IsOutcome {T = T} seen_as (Err e) o
refusal-outcome seen_as halts.Memory path by o is said = tt
refusal-outcome seen_as (halts.Refused r) path by o is said = said ∙ ap (λ (q : Refusal). Err (refused_as q)) (sym is)

-- what follows the arguments
abbrev names_of : Catalog → Labelled → Path → Called → List Bound → Outcome Env
names_of types root frame c given =
    or_refuse (all_reached (seen types root) given) frame rule.Reference >>= (λ env. Ok (env ++ bound_at (seen types root) c.node))

pub names-uneven : (types : Catalog) (root : Labelled) (frame : Path) (c : Called) → None ≡ arguments_of types root c.params.now (answers_of c.args.now)
    → names_bound types root frame c ≡ refuse frame rule.Arguments
names-uneven types root frame c none = ap (λ o. or_refuse o frame rule.Arguments >>= names_of types root frame c) (sym none)

ended : (o : Option Env) (frame : Path) (own : Env) → (or_refuse o frame rule.Reference >>= (λ env. Ok (env ++ own))) ≡ or_refuse (bound_with o own) frame rule.Reference
ended None frame own = refl
ended (Some env) frame own = refl

pub names-reached : (types : Catalog) (root : Labelled) (frame : Path) (c : Called) (given : List Bound) (o : Option Env) → Some given ≡ arguments_of types root c.params.now (answers_of c.args.now)
    → o ≡ bound_with (all_reached (seen types root) given) (bound_at (seen types root) c.node) → names_bound types root frame c ≡ or_refuse o frame rule.Reference
names-reached types root frame c given o some is =
    ap (λ p. or_refuse p frame rule.Arguments >>= names_of types root frame c) (sym some)
    ∙ ended (all_reached (seen types root) given) frame (bound_at (seen types root) c.node) ∙ ap (λ p. or_refuse p frame rule.Reference) (sym is)

-- Plainness.

joined-plain : (env own : Env) → IsFineEnv IsPlainAnswer env → IsPlainEnv own → IsPlainEnv (env ++ own)
joined-plain [] own fine plain = plain
joined-plain (b ∷ env) own fine plain = (fine.0, joined-plain env own fine.1 plain)

reached-plain : (p frame : Path) (own : Env) → IsPlainEnv own → (o : Option Env) → IfOk (or_refuse o p rule.Reference) (IsFineEnv IsPlainAnswer) → (env : Env)
    → (or_refuse o frame rule.Reference >>= (λ e. Ok (e ++ own))) ≡ Ok env → IsPlainEnv env
reached-plain p frame own plain None fine env is = cc
reached-plain p frame own plain (Some e) fine env is = let same : e ++ own ≡ env = cc in subst IsPlainEnv same (joined-plain e own fine plain)

given-plain : (p frame : Path) (own : Env) → IsPlainEnv own → (f : List Bound → Option Env) (o : Option (List Bound))
    → IfOk (or_refuse o p rule.Arguments >>= (λ g. or_refuse (f g) p rule.Reference)) (IsFineEnv IsPlainAnswer) → (env : Env)
    → (or_refuse o frame rule.Arguments >>= (λ g. or_refuse (f g) frame rule.Reference >>= (λ e. Ok (e ++ own)))) ≡ Ok env → IsPlainEnv env
given-plain p frame own plain f None fine env is = cc
given-plain p frame own plain f (Some g) fine env is = reached-plain p frame own plain (f g) fine env is

-- the names of plain arguments stand for plain answers
pub names-plain : (types : Catalog) → IsSound types → (root : Labelled) (frame : Path) (c : Called) → ArePlainAnswers (answers_of c.args.now) → (env : Env)
    → names_bound types root frame c ≡ Ok env → IsPlainEnv env
names-plain types sound root frame c plain env is =
    let action : ShownAction = record { name = []; params = c.params.now; body = done } in
    let callee : Callee = record { node = c.node; name = []; given = answers_of c.args.now } in
    given-plain (frame_of callee root) frame (bound_at (seen types root) c.node) (tt, (tt, tt)) (all_reached (seen types root)) (arguments_of types root c.params.now (answers_of c.args.now))
    (bound-plain (behaving_by types []) sound callee (fine-given (answers_of c.args.now) plain) root action) env is
