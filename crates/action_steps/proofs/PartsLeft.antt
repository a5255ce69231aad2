-- What is left of several expressions that are evaluated in turn.
use Rattle.std.proofs.Common.{◌≡◌, ℕ, zero, suc, ◌+◌, ◌<◌, List, [], ◌∷◌, ◌++◌, length, map, drop, get_or, Result, Ok, Err, refl, sym, ◌∙◌, ap, subst, add-zero}
use Rattle.std.proofs.lemmas.List.{map-append}
use Rattle.expr_syntax.specs.Syntax as syntax
use Rattle.expr_syntax.specs.Syntax.{Expressions}
use Rattle.expr_syntax.specs.Shown.{shown, expressions}
use Rattle.expr_syntax.specs.declared.expr.Expr.{Expr}
use Rattle.eval_core.specs.Answer.{Answer, AnswerList, answer, no_answers}
use Rattle.eval_core.specs.Run.{Fault, Run, Eval, andthen, continued, joined, ended, lift}
use Rattle.eval_core.specs.Scope.{Scope, Env, gives}
use Rattle.eval_core.specs.Evaluating.{evaluated, all_evaluated}
use Rattle.answer_ops.specs.View.{answer_of, answers_of, answers_from}
use Rattle.answer_ops.specs.declared.value.Value.{Value}
use Rattle.plain_answers.specs.Plainness.{IsPlainAnswer, ArePlainAnswers, HasPlainConstants, HavePlainConstants}
use Rattle.view_engine.specs.Did.{cost_of, Course, course}
use Rattle.view_engine.specs.Told.{Telling}
use Rattle.view_engine.specs.declared.halt.RunError.{RunError}
use Rattle.view_engine.specs.declared.halt.RunError.TheVariants as errors
use Rattle.view_engine.proofs.Alike.{Alike, alike-same, alike-sym, alike-trans, alike-then, alike-gives, alike-assoc, cost-joined}
use Rattle.view_engine.proofs.Doing.{did-alike}
use Rattle.view_engine.proofs.Lists.{element, appended, appended-last, exprs_from}
use Rattle.view_engine.proofs.Loops.{Point}
use Rattle.action_steps.specs.Parts.{Evaluates}
use Rattle.action_steps.proofs.Evaluations.{part-then, part-stop, part-gives, part-memory}

-- what comes to the same
pub part-alike : {T A : Type 0} (t : Telling) (seen : T → A) (r : Result T RunError) (e f : Eval A) (way : Course) → Alike (e way.counted) (f way.counted)
    → Evaluates t seen r e way → Evaluates t seen r f way
part-alike t seen r e f way same h = record { halted = h.halted; did = did-alike seen h.halted e f way same h.did; told = h.told }

-- what is given as it is adds nothing
unit_by : {A : Type 0} (run : Run A) (k : ℕ) (o : Result A Fault) → run.outcome ≡ o → Alike (continued run (λ x. gives x k) o) run
unfolding lift joined ended
unit_by run k (Ok x) is = record { outcome = sym is; own = add-zero run.own; cost = cost-joined run (gives x k) ∙ add-zero (cost_of run) }
unit_by run k (Err fault) is = record { outcome = sym is; own = refl; cost = refl }

alike-unit : {A : Type 0} (e : Eval A) (n : ℕ) → Alike (andthen e (λ x. gives x) n) (e n)
unfolding andthen
alike-unit e n = unit_by (e n) (n + (e n).own) (e n).outcome refl

-- what is left, of expressions whose first ones gave these answers
abbrev pub parts_left : Scope → Env → Expressions → List Answer → Eval AnswerList
parts_left s env es so_far = andthen (all_evaluated s es env) (λ xs. gives (appended so_far xs))

one_more : (s : Scope) (env : Env) (e : syntax.Expression) (es : Expressions) (so_far : List Answer) (n : ℕ)
    → Alike (parts_left s env (syntax.more e es) so_far n) (andthen (evaluated s e env) (λ x. parts_left s env es (so_far ++ x ∷ [])) n)
one_more s env e es so_far n =
    let f : Answer → Eval AnswerList = λ x. andthen (all_evaluated s es env) (λ xs. gives (answer x xs)) in
    let g : AnswerList → Eval AnswerList = λ xs. gives (appended so_far xs) in
    let h : Answer → Eval AnswerList = λ x. parts_left s env es (so_far ++ x ∷ []) in
    alike-trans _ _ _ (alike-assoc (evaluated s e env) f g n)
    (alike-then (evaluated s e env) (evaluated s e env) (λ x. andthen (f x) g) h n (alike-same (evaluated s e env n)) (λ x m.
    alike-trans _ _ _ (alike-assoc (all_evaluated s es env) (λ xs. gives (answer x xs)) g m)
    (alike-then (all_evaluated s es env) (all_evaluated s es env) (λ xs. andthen (gives (answer x xs)) g) (λ xs. gives (appended (so_far ++ x ∷ []) xs)) m
    (alike-same (all_evaluated s es env m)) (λ xs k.
    let same : appended (so_far ++ x ∷ []) xs ≡ appended so_far (answer x xs) = appended-last so_far x xs in
    alike-trans _ _ _ (alike-gives (answer x xs) g k) (subst (λ ys. Alike (g (answer x xs) k) (gives ys k)) (sym same) (alike-same (g (answer x xs) k)))))))

-- Whatever does what is left from one point on, does the whole from another point on.
abbrev pub Leaves : Telling → Eval AnswerList → Eval AnswerList → Point → Point → Type 0
Leaves t left whole from now =
    (r : Result (List Value) RunError) (counted steps : ℕ) → Evaluates t answers_of r left (course now.counted counted now.steps steps)
    → Evaluates t answers_of r whole (course from.counted counted from.steps steps)

pub parts-begin : (t : Telling) (s : Scope) (env : Env) (es : Expressions) (values : List Value) (from : Point) → values ≡ []
    → Leaves t (parts_left s env es (map answer_of values)) (all_evaluated s es env) from from
parts-begin t s env es values from is =
    subst (λ (vs : List Value). Leaves t (parts_left s env es (map answer_of vs)) (all_evaluated s es env) from from) (sym is)
    (λ r counted steps h. part-alike t answers_of r (parts_left s env es []) (all_evaluated s es env) _ (alike-unit (all_evaluated s es env) from.counted) h)

opened : (t : Telling) (s : Scope) (env : Env) (es : List Expr) (i : ℕ) (e : Expr) (so_far : List Answer) (whole : Eval AnswerList) (from now : Point)
    → i < length es → e ≡ get_or es i e
    → Leaves t (parts_left s env (exprs_from i es) so_far) whole from now
    → Leaves t (andthen (evaluated s (shown e) env) (λ x. parts_left s env (exprs_from (i + 1) es) (so_far ++ x ∷ []))) whole from now
opened t s env es i e so_far whole from now within is leaves r counted steps h =
    let rest : Expressions = exprs_from (i + 1) es in
    let at : Leaves t (parts_left s env (syntax.more (shown e) rest) so_far) whole from now =
    subst (λ (xs : List Expr). Leaves t (parts_left s env (expressions (map shown xs)) so_far) whole from now) (element es i e within is) leaves in
    at r counted steps
    (part-alike t answers_of r (andthen (evaluated s (shown e) env) (λ x. parts_left s env rest (so_far ++ x ∷ []))) (parts_left s env (syntax.more (shown e) rest) so_far) _
    (alike-sym _ _ (one_more s env (shown e) rest so_far now.counted)) h)

-- an expression gave its answer
pub parts-on : (t : Telling) (s : Scope) (env : Env) (es : List Expr) (i : ℕ) (e : Expr) (values more : List Value) (x : Value) (whole : Eval AnswerList) (from middle now : Point)
    → i < length es → e ≡ get_or es i e → more ≡ values ++ x ∷ []
    → Leaves t (parts_left s env (exprs_from i es) (map answer_of values)) whole from middle
    → Evaluates t answer_of (Ok x) (evaluated s (shown e) env) (course middle.counted now.counted middle.steps now.steps)
    → Leaves t (parts_left s env (exprs_from (i + 1) es) (map answer_of more)) whole from now
parts-on t s env es i e values more x whole from middle now within is pushed leaves first r counted steps h =
    let left : List Answer → Eval AnswerList = λ so_far. parts_left s env (exprs_from (i + 1) es) so_far in
    let seen : map answer_of values ++ answer_of x ∷ [] ≡ map answer_of more = sym (map-append answer_of values (x ∷ [])) ∙ ap (map answer_of) (sym pushed) in
    opened t s env es i e (map answer_of values) whole from middle within is leaves r counted steps
    (part-then t answer_of answers_of x r (evaluated s (shown e) env) (λ y. left (map answer_of values ++ y ∷ [])) middle.counted now.counted counted middle.steps now.steps steps first
    (subst (λ xs. Evaluates t answers_of r (left xs) (course now.counted counted now.steps steps)) (sym seen) h))

-- there was no room for it
pub parts-lost : (t : Telling) (s : Scope) (env : Env) (es : List Expr) (i : ℕ) (e : Expr) (values : List Value) (x : Value) (error : RunError) (whole : Eval AnswerList) (from middle now : Point)
    → i < length es → e ≡ get_or es i e → error ≡ errors.Memory
    → Leaves t (parts_left s env (exprs_from i es) (map answer_of values)) whole from middle
    → Evaluates t answer_of (Ok x) (evaluated s (shown e) env) (course middle.counted now.counted middle.steps now.steps)
    → Evaluates {T = List Value} t answers_of (Err error) whole (course from.counted now.counted from.steps now.steps)
parts-lost t s env es i e values x error whole from middle now within is lost leaves first =
    let left : Eval AnswerList = parts_left s env (exprs_from (i + 1) es) (map answer_of (values ++ x ∷ [])) in
    subst (λ (m : RunError). Evaluates {T = List Value} t answers_of (Err m) whole (course from.counted now.counted from.steps now.steps)) (sym lost)
    (parts-on t s env es i e values (values ++ x ∷ []) x whole from middle now within is refl leaves first (Err errors.Memory) now.counted now.steps
    (part-memory {T = List Value} t answers_of left now.counted now.steps))

-- an expression ended refused
pub parts-unmet : (t : Telling) (s : Scope) (env : Env) (es : List Expr) (i : ℕ) (e : Expr) (values : List Value) (error : RunError) (whole : Eval AnswerList) (from middle now : Point)
    → i < length es → e ≡ get_or es i e
    → Leaves t (parts_left s env (exprs_from i es) (map answer_of values)) whole from middle
    → Evaluates {T = Value} t answer_of (Err error) (evaluated s (shown e) env) (course middle.counted now.counted middle.steps now.steps)
    → Evaluates {T = List Value} t answers_of (Err error) whole (course from.counted now.counted from.steps now.steps)
parts-unmet t s env es i e values error whole from middle now within is leaves first =
    opened t s env es i e (map answer_of values) whole from middle within is leaves (Err error) now.counted now.steps
    (part-stop {T = Value} {U = List Value} t answer_of answers_of error (evaluated s (shown e) env) (λ y. parts_left s env (exprs_from (i + 1) es) (map answer_of values ++ y ∷ [])) _ first)

appended-none : (ws : List Answer) → appended ws no_answers ≡ answers_from ws
appended-none [] = refl
appended-none (w ∷ ws) = ap (answer w) (appended-none ws)

-- all of them gave their answers
pub parts-end : (t : Telling) (s : Scope) (env : Env) (es : List Expr) (i : ℕ) (values : List Value) (whole : Eval AnswerList) (from now : Point) → drop i es ≡ []
    → Leaves t (parts_left s env (exprs_from i es) (map answer_of values)) whole from now
    → Evaluates t answers_of (Ok values) whole (course from.counted now.counted from.steps now.steps)
parts-end t s env es i values whole from now none leaves =
    let so_far : List Answer = map answer_of values in
    let g : AnswerList → Eval AnswerList = λ xs. gives (appended so_far xs) in
    leaves (Ok values) now.counted now.steps
    (subst (λ (xs : List Expr). Evaluates t answers_of (Ok values) (parts_left s env (expressions (map shown xs)) so_far) (course now.counted now.counted now.steps now.steps)) (sym none)
    (part-then t (λ (xs : AnswerList). xs) answers_of no_answers (Ok values) (gives no_answers) g now.counted now.counted now.counted now.steps now.steps now.steps
    (part-gives t (λ (xs : AnswerList). xs) no_answers no_answers now.counted now.steps refl)
    (part-gives t answers_of values (appended so_far no_answers) now.counted now.steps (appended-none so_far))))

-- Constants and answers are plain, one by one.

constants-from : (es : List Expr) (i : ℕ) → HavePlainConstants (expressions (map shown es)) → HavePlainConstants (exprs_from i es)
constants-from es zero h = h
constants-from [] (suc i) h = tt
constants-from (e ∷ es) (suc i) h = constants-from es i h.1

pub constants-at : (es : List Expr) (i : ℕ) (e : Expr) → i < length es → e ≡ get_or es i e → HavePlainConstants (expressions (map shown es)) → HasPlainConstants (shown e)
constants-at es i e within is h =
    let here : HavePlainConstants (expressions (map shown (e ∷ drop (i + 1) es))) =
    subst (λ (xs : List Expr). HavePlainConstants (expressions (map shown xs))) (element es i e within is) (constants-from es i h) in
    here.0

plain-last : (vs : List Value) (x : Value) → ArePlainAnswers (answers_of vs) → IsPlainAnswer (answer_of x) → ArePlainAnswers (answers_of (vs ++ x ∷ []))
plain-last [] x all last = (last, tt)
plain-last (v ∷ vs) x all last = (all.0, plain-last vs x all.1 last)

pub plain-pushed : (vs more : List Value) (x : Value) → more ≡ vs ++ x ∷ [] → ArePlainAnswers (answers_of vs) → IsPlainAnswer (answer_of x) → ArePlainAnswers (answers_of more)
plain-pushed vs more x is all last = subst (λ (xs : List Value). ArePlainAnswers (answers_of xs)) (sym is) (plain-last vs x all last)
