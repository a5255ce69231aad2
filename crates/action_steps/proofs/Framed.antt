-- What a schema says of views is what behaving by it says, and evaluating over a plain tree is plain.
use Rattle.std.proofs.Common.{◌≡◌, ℕ, ◌+◌, ◌≤◌, List, [], map, Result, Ok, ap, subst, sym}
use Rattle.std.specs.Prelude.{All, IfOk, OnOk}
use Rattle.expr_syntax.specs.Syntax.{Expression}
use Rattle.snap_core.specs.Value.{IsPlain}
use Rattle.edit_core.specs.Labelled.{bare}
use Rattle.model_syntax.specs.Shown.{ShownBehaviour, behaviour_shown}
use Rattle.live_tree.specs.Contents.{Contents, state}
use Rattle.eval_core.specs.Answer.{Answer}
use Rattle.eval_core.specs.Asking.{most_views, frame_scope}
use Rattle.eval_core.specs.Evaluating.{evaluated}
use Rattle.eval_core.specs.Run.{Fault, Eval, andthen}
use Rattle.eval_core.specs.Scope.{Scope, Env}
use Rattle.answer_ops.specs.View.{answer_of}
use Rattle.answer_ops.specs.declared.value.Value.{Value}
use Rattle.plain_answers.specs.Plainness.{IsPlainAnswer, IsPlainEnv, HasPlainConstants, HasPlainBodies}
use Rattle.plain_answers.specs.Laws.{GivePlainAnswers}
use Rattle.plain_answers.proofs.Readings.{IsPlainScope}
use Rattle.plain_views.proofs.PlainTrees.{sight-plain, trees-plain}
use Rattle.view_engine.specs.Asks.{sight_by, telling}
use Rattle.view_engine.specs.Did.{cost_of, Course, course}
use Rattle.view_engine.specs.Halts.{Answers}
use Rattle.view_engine.specs.Told.{Telling, Tells}
use Rattle.view_engine.specs.TreeSight.{Whole}
use Rattle.view_engine.specs.declared.halt.Halt.{Halt}
use Rattle.view_engine.specs.declared.halt.RunError.{RunError}
use Rattle.view_engine.specs.Saying.{Saying}
use Rattle.expr_core.specs.Plain.{HavePlainConstants}
use Rattle.expr_core.specs.Schema.{Schema, views_of, views_in, behaviours_shown}
use Rattle.expr_core.proofs.Lists.{map-map}
use Rattle.schema_views.specs.Saying.{saying, saying_by}
use Rattle.schema_views.proofs.PlainBodies.{bodies-plain}
use Rattle.action_core.specs.Behaving.{sight_in}
use Rattle.action_core.specs.Running.{items_read}
use Rattle.action_steps.specs.Acting.{behaving_of}
use Rattle.action_steps.specs.Parts.{scope_in, telling_in, Evaluates, EvaluatesIn}
use Rattle.action_steps.proofs.Evaluations.{part-by, tells-fine}
use Rattle.action_steps.proofs.ItemsRead.{items-plain}
use Rattle.action_steps.specs.declared.acting.Acting.{Acting}

views-shown : (s : Schema) → views_of s ≡ views_in (behaviours_shown s)
views-shown s = sym (map-map (λ (b : ShownBehaviour). b.views) behaviour_shown s.behaviours)

-- as behaving has it
pub says-of : (s : Schema) → saying s ≡ saying_by s.types (views_in (behaviours_shown s))
says-of s = ap (saying_by s.types) (views-shown s)

bodies : (s : Schema) → HavePlainConstants (views_of s) → HasPlainBodies (behaving_of s).viewing
bodies s constants = bodies-plain s.types (views_in (behaviours_shown s)) (subst HavePlainConstants (views-shown s) constants)

abbrev whole_of : Schema → Contents → Whole
whole_of s tree = record { table = s.types.table; tree = (state tree).tree }

pub frame-plain : (s : Schema) (tree : Contents) → HavePlainConstants (views_of s) → IsPlain (bare (state tree).tree)
    → GivePlainAnswers (behaving_of s).viewing (sight_in (behaving_of s) (state tree).tree)
frame-plain s tree constants value = trees-plain (behaving_of s).viewing (whole_of s tree) (bodies s constants) value

pub scope-plain : (a : Acting) (tree : Contents) → HavePlainConstants (views_of a.schema.now) → IsPlain (bare (state tree).tree) → IsPlainScope (scope_in a tree)
scope-plain a tree constants value = record {
  seen = sight-plain (whole_of a.schema.now tree) value;
  asking = λ n v before. (frame-plain a.schema.now tree constants value).views most_views [] n v before;
}

abbrev scope_by : Saying → Contents → Scope
scope_by says tree = frame_scope says.viewing (sight_by says tree)

-- what views answer by a schema, is what evaluating in a frame comes to
pub evaluates-in : (a : Acting) (tree : Contents) (eval : Scope → Eval Answer) (r : Result Value RunError) (n m x y : ℕ)
    → Tells (telling (saying a.schema.now) tree a.frame.now) r (eval (scope_by (saying a.schema.now) tree) n).outcome
    → OnOk r (m ≡ n + (eval (scope_by (saying a.schema.now) tree) n).own)
    → y ≤ x + cost_of (eval (scope_by (saying a.schema.now) tree) n)
    → EvaluatesIn a tree answer_of r eval (course n m x y)
evaluates-in a tree eval r n m x y tells counts ticks =
    let P : Saying → Type 0 = λ says. Evaluates (telling says tree a.frame.now) answer_of r (eval (scope_by says tree)) (course n m x y) in
    subst P (says-of a.schema.now) (part-by (telling (saying a.schema.now) tree a.frame.now) r (eval (scope_by (saying a.schema.now) tree)) n m x y tells counts ticks)

-- and it is plain
pub part-plain : (a : Acting) (tree : Contents) (e : Expression) (env : Env) (r : Result Value RunError) (n : ℕ)
    → HavePlainConstants (views_of a.schema.now) → IsPlain (bare (state tree).tree)
    → Tells (telling (saying a.schema.now) tree a.frame.now) r (evaluated (scope_by (saying a.schema.now) tree) e env n).outcome
    → HasPlainConstants e → IsPlainEnv env → IfOk r (λ x. IsPlainAnswer (answer_of x))
part-plain a tree e env r n constants value tells good fine =
    let P : Saying → Type 0 = λ says. Tells (telling says tree a.frame.now) r (evaluated (scope_by says tree) e env n).outcome in
    let t : Telling = telling_in a tree in
    tells-fine t IsPlainAnswer r (evaluated (scope_in a tree) e env n).outcome (subst P (says-of a.schema.now) tells)
    ((frame-plain a.schema.now tree constants value).expressions e env n good fine)

pub items-fine : (a : Acting) (tree : Contents) (e : Expression) (env : Env) (vs : List Value) (way : Course)
    → HavePlainConstants (views_of a.schema.now) → IsPlain (bare (state tree).tree) → HasPlainConstants e → IsPlainEnv env
    → EvaluatesIn a tree (λ xs. map answer_of xs) (Ok vs) (λ s. andthen (evaluated s e env) (items_read s)) way
    → All IsPlainAnswer (map answer_of vs)
items-fine a tree e env vs way constants value good fine h =
    let s : Scope = scope_in a tree in
    let items : Eval (List Answer) = andthen (evaluated s e env) (items_read s) in
    let came : (items way.counted).outcome ≡ Ok (map answer_of vs) =
    subst (λ (r : Result (List Value) Halt). Answers (λ xs. map answer_of xs) r (items way.counted).outcome) h.told h.did.outcome in
    let P : Result (List Answer) Fault → Type 0 = λ o. IfOk o (All IsPlainAnswer) in
    subst P came
    (items-plain s (scope-plain a tree constants value) e env (λ n. (frame-plain a.schema.now tree constants value).expressions e env n good fine) way.counted)
