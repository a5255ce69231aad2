-- What is left of a list, and of a record that is made.
use Rattle.std.proofs.Common.{◌≡◌, ℕ, zero, suc, ◌+◌, ◌<◌, List, [], ◌∷◌, ◌++◌, length, map, take, drop, get_or, Result, Ok, Err, append_assoc, append-nil, add-one, suc-add, refl, sym, ◌∙◌, ap, subst, arith}
use Rattle.std.specs.Prelude.{IsErrAnd}
use Rattle.std.proofs.Math.Seq.{drop-cons}
use Rattle.std.proofs.lemmas.List.{map-append}
use Rattle.expr_syntax.specs.Syntax as syntax
use Rattle.expr_syntax.specs.Syntax.{Expressions, Members}
use Rattle.expr_syntax.specs.Shown.{shown, expressions, members}
use Rattle.expr_syntax.specs.Forms.{entry_shown, entry-parts}
use Rattle.expr_syntax.specs.declared.expr.Expr.{Expr}
use Rattle.expr_syntax.specs.declared.expr.Entry.{Entry}
use Rattle.eval_core.specs.Answer.{Answer, AnswerList, answer, no_answers, several}
use Rattle.eval_core.specs.Run.{Eval, andthen, lift}
use Rattle.eval_core.specs.Scope.{Scope, Env, gives, judged}
use Rattle.eval_core.specs.Operating.{in_bounds}
use Rattle.eval_core.specs.Making.{Made, record_made}
use Rattle.eval_core.specs.Evaluating.{evaluated, all_evaluated, members_evaluated}
use Rattle.answer_ops.specs.View.{answer_of, answers_of, answers_from}
use Rattle.answer_ops.specs.declared.value.Value
use Rattle.answer_ops.proofs.Views.{answer-Several}
use Rattle.view_engine.specs.declared.halt.Halt.{Halt}
use Rattle.view_engine.specs.declared.halt.Halt.TheVariants as halts
use Rattle.view_engine.specs.Did.{Course, course, Did, Read}
use Rattle.view_engine.specs.Made.{made_of}
use Rattle.view_engine.specs.Steps.{tested}
use Rattle.view_engine.proofs.Alike.{Alike, alike-same, alike-sym, alike-trans, alike-then, alike-gives, alike-assoc}
use Rattle.view_engine.proofs.Doing.{did-stop, did-memory, read-did, read-lift, tested-then, tested-stop, tested-gives}
use Rattle.view_engine.proofs.Loops.{Point, Leaves, leaves-then, leaves-on, leaves-alike}

-- the element of a loop, and those behind it
pub element : {X : Type 0} (xs : List X) (i : ℕ) (x : X) → i < length xs → x ≡ get_or xs i x → drop i xs ≡ x ∷ drop (i + 1) xs
element xs i x within is = rw add-one (drop-cons xs i x within ∙ ap (λ y. y ∷ drop (suc i) xs) (sym is))

-- answers behind those of a list
abbrev pub appended : List Answer → AnswerList → AnswerList
appended [] xs = xs
appended (w ∷ ws) xs = answer w (appended ws xs)

pub appended-last : (ws : List Answer) (w : Answer) (xs : AnswerList) → appended (ws ++ w ∷ []) xs ≡ appended ws (answer w xs)
appended-last [] w xs = refl
appended-last (v ∷ ws) w xs = ap (answer v) (appended-last ws w xs)

-- what is left of a list whose first expressions gave these answers
abbrev pub list_left : Scope → Env → Expressions → List Answer → Eval Answer
list_left s env es so_far = tested s (andthen (all_evaluated s es env) (λ xs. gives (several (appended so_far xs))))

one_more : (s : Scope) (env : Env) (e : syntax.Expression) (es : Expressions) (so_far : List Answer) (n : ℕ)
    → Alike
    (andthen (all_evaluated s (syntax.more e es) env) (λ xs. gives (several (appended so_far xs))) n)
    (andthen (evaluated s e env) (λ x. andthen (all_evaluated s es env) (λ xs. gives (several (appended (so_far ++ x ∷ []) xs)))) n)
one_more s env e es so_far n =
    let f : Answer → Eval AnswerList = λ x. andthen (all_evaluated s es env) (λ xs. gives (answer x xs)) in
    let g : AnswerList → Eval Answer = λ xs. gives (several (appended so_far xs)) in
    let h : Answer → Eval Answer = λ x. andthen (all_evaluated s es env) (λ xs. gives (several (appended (so_far ++ x ∷ []) xs))) in
    alike-trans _ _ _ (alike-assoc (evaluated s e env) f g n)
    (alike-then (evaluated s e env) (evaluated s e env) (λ x. andthen (f x) g) h n (alike-same (evaluated s e env n)) (λ x m.
    alike-trans _ _ _ (alike-assoc (all_evaluated s es env) (λ xs. gives (answer x xs)) g m)
    (alike-then (all_evaluated s es env) (all_evaluated s es env) (λ xs. andthen (gives (answer x xs)) g) (λ xs. gives (several (appended (so_far ++ x ∷ []) xs))) m
    (alike-same (all_evaluated s es env m)) (λ xs k.
    let same : appended (so_far ++ x ∷ []) xs ≡ appended so_far (answer x xs) = appended-last so_far x xs in
    alike-trans _ _ _ (alike-gives (answer x xs) g k) (subst (λ ys. Alike (g (answer x xs) k) (gives (several ys) k)) (sym same) (alike-same (g (answer x xs) k)))))))

-- one expression more gave its answer
pub list-goes_on : (s : Scope) (env : Env) (e : syntax.Expression) (es : Expressions) (so_far : List Answer) (x : Value.Value) (whole : Eval Answer) (from middle now : Point)
    → Leaves (list_left s env (syntax.more e es) so_far) whole from middle
    → Did answer_of (Ok x) (evaluated s e env) (course middle.counted now.counted middle.steps now.steps)
    → Leaves (list_left s env es (so_far ++ answer_of x ∷ [])) whole from now
list-goes_on s env e es so_far x whole from middle now leaves did =
    let h : Answer → Eval Answer = λ y. andthen (all_evaluated s es env) (λ xs. gives (several (appended (so_far ++ y ∷ []) xs))) in
    let after : Answer → Eval Answer = λ y. judged s (in_bounds y) in
    leaves-on (list_left s env es (so_far ++ answer_of x ∷ [])) (tested s (andthen (evaluated s e env) h)) whole from middle now
    (leaves-alike (list_left s env (syntax.more e es) so_far) (tested s (andthen (evaluated s e env) h)) whole from middle
    (λ n. alike-then (andthen (evaluated s e env) h) (andthen (all_evaluated s (syntax.more e es) env) (λ xs. gives (several (appended so_far xs)))) after after n
    (alike-sym _ _ (one_more s env e es so_far n)) (λ y m. alike-same (after y m))) leaves)
    (leaves-then answer_of s x (evaluated s e env) h middle now did)

-- A list, by the values of its first expressions.

pub list-begins : (s : Scope) (env : Env) (es : Expressions) (values : List Value.Value) (from : Point) → values ≡ []
    → Leaves (list_left s env es (map answer_of values)) (list_left s env es []) from from
list-begins s env es values from is =
    subst (λ vs. Leaves (list_left s env es (map answer_of vs)) (list_left s env es []) from from) (sym is) (λ r counted steps did. did)

-- the expressions from an index on
abbrev pub exprs_from : ℕ → List Expr → Expressions
exprs_from i es = expressions (map shown (drop i es))

list_opened : (s : Scope) (env : Env) (es : List Expr) (i : ℕ) (e : Expr) (so_far : List Answer) (whole : Eval Answer) (from now : Point) → drop i es ≡ e ∷ drop (i + 1) es
    → Leaves (list_left s env (exprs_from i es) so_far) whole from now
    → Leaves (list_left s env (syntax.more (shown e) (exprs_from (i + 1) es)) so_far) whole from now
list_opened s env es i e so_far whole from now at leaves = subst (λ xs. Leaves (list_left s env (expressions (map shown xs)) so_far) whole from now) at leaves

-- an expression gave its answer
list_on : (s : Scope) (env : Env) (es : List Expr) (i : ℕ) (e : Expr) (so_far : List Answer) (x : Value.Value) (whole : Eval Answer) (from middle now : Point)
    → i < length es → e ≡ get_or es i e
    → Leaves (list_left s env (exprs_from i es) so_far) whole from middle
    → Did answer_of (Ok x) (evaluated s (shown e) env) (course middle.counted now.counted middle.steps now.steps)
    → Leaves (list_left s env (exprs_from (i + 1) es) (so_far ++ answer_of x ∷ [])) whole from now
list_on s env es i e so_far x whole from middle now within is leaves did =
    list-goes_on s env (shown e) (exprs_from (i + 1) es) so_far x whole from middle now (list_opened s env es i e so_far whole from middle (element es i e within is) leaves) did

pub list-pushed : (s : Scope) (env : Env) (es : List Expr) (i : ℕ) (e : Expr) (values more : List Value.Value) (x : Value.Value) (whole : Eval Answer) (from middle now : Point)
    → i < length es → e ≡ get_or es i e → more ≡ values ++ x ∷ []
    → Leaves (list_left s env (exprs_from i es) (map answer_of values)) whole from middle
    → Did answer_of (Ok x) (evaluated s (shown e) env) (course middle.counted now.counted middle.steps now.steps)
    → Leaves (list_left s env (exprs_from (i + 1) es) (map answer_of more)) whole from now
list-pushed s env es i e values more x whole from middle now within is pushed leaves did =
    let seen : map answer_of values ++ answer_of x ∷ [] ≡ map answer_of more = sym (map-append answer_of values (x ∷ [])) ∙ ap (map answer_of) (sym pushed) in
    subst (λ xs. Leaves (list_left s env (exprs_from (i + 1) es) xs) whole from now) seen
    (list_on s env es i e (map answer_of values) x whole from middle now within is leaves did)

-- there was no room for it
pub list-lost : (s : Scope) (env : Env) (es : List Expr) (i : ℕ) (e : Expr) (so_far : List Answer) (x : Value.Value) (halt : Halt) (whole : Eval Answer) (from middle now : Point)
    → i < length es → e ≡ get_or es i e → halt ≡ halts.Memory
    → Leaves (list_left s env (exprs_from i es) so_far) whole from middle
    → Did answer_of (Ok x) (evaluated s (shown e) env) (course middle.counted now.counted middle.steps now.steps)
    → Did {T = Value.Value} answer_of (Err halt) whole (course from.counted now.counted from.steps now.steps)
list-lost s env es i e so_far x halt whole from middle now within is lost leaves did =
    list_on s env es i e so_far x whole from middle now within is leaves did (Err halt) now.counted now.steps
    (did-memory answer_of halt (list_left s env (exprs_from (i + 1) es) (so_far ++ answer_of x ∷ [])) now.counted now.steps lost)

pub list-lost-at : (s : Scope) (env : Env) (es : List Expr) (i : ℕ) (e : Expr) (so_far : List Answer) (x : Value.Value) (r : Result Value.Value Halt) (whole : Eval Answer) (from middle now : Point)
    → i < length es → e ≡ get_or es i e → IsErrAnd r (λ h. h ≡ halts.Memory)
    → Leaves (list_left s env (exprs_from i es) so_far) whole from middle
    → Did answer_of (Ok x) (evaluated s (shown e) env) (course middle.counted now.counted middle.steps now.steps)
    → Did answer_of r whole (course from.counted now.counted from.steps now.steps)
list-lost-at s env es i e so_far x (Ok y) whole from middle now within is lost leaves did = absurd lost
list-lost-at s env es i e so_far x (Err halt) whole from middle now within is lost leaves did = list-lost s env es i e so_far x halt whole from middle now within is lost leaves did

-- an expression ended refused
pub list-unmet : (s : Scope) (env : Env) (es : List Expr) (i : ℕ) (e : Expr) (so_far : List Answer) (halt : Halt) (whole : Eval Answer) (from middle now : Point)
    → i < length es → e ≡ get_or es i e
    → Leaves (list_left s env (exprs_from i es) so_far) whole from middle
    → Did {T = Value.Value} answer_of (Err halt) (evaluated s (shown e) env) (course middle.counted now.counted middle.steps now.steps)
    → Did {T = Value.Value} answer_of (Err halt) whole (course from.counted now.counted from.steps now.steps)
list-unmet s env es i e so_far halt whole from middle now within is leaves did =
    let way : Course = course middle.counted now.counted middle.steps now.steps in
    let f : Answer → Eval AnswerList = λ x. andthen (all_evaluated s (exprs_from (i + 1) es) env) (λ xs. gives (answer x xs)) in
    let g : AnswerList → Eval Answer = λ xs. gives (several (appended so_far xs)) in
    list_opened s env es i e so_far whole from middle (element es i e within is) leaves (Err halt) now.counted now.steps
    (tested-stop {T = AnswerList} (λ xs. xs) s halt (andthen (evaluated s (shown e) env) f) g way
    (did-stop {T = Value.Value} {U = AnswerList} answer_of (λ xs. xs) halt (evaluated s (shown e) env) f way did))

appended-none : (ws : List Answer) → appended ws no_answers ≡ answers_from ws
appended-none [] = refl
appended-none (w ∷ ws) = ap (answer w) (appended-none ws)

-- all of them gave their answers
pub list-ends : (s : Scope) (env : Env) (es : List Expr) (i : ℕ) (values : List Value.Value) (r : Result Value.Value Halt) (whole : Eval Answer) (from now : Point)
    → drop i es ≡ []
    → Leaves (list_left s env (exprs_from i es) (map answer_of values)) whole from now
    → Read answer_of r (judged s (in_bounds (answer_of (Value.Several values))))
    → Did answer_of r whole (course from.counted now.counted from.steps now.steps)
list-ends s env es i values r whole from now none leaves read =
    let n = now.counted in
    let a = now.steps in
    let g : AnswerList → Eval Answer = λ xs. gives (several (appended (map answer_of values) xs)) in
    let all : answer_of (Value.Several values) ≡ several (appended (map answer_of values) no_answers) =
    answer-Several values ∙ ap several (sym (appended-none (map answer_of values))) in
    leaves r n a
    (subst (λ xs. Did answer_of r (list_left s env (expressions (map shown xs)) (map answer_of values)) (course n n a a)) (sym none)
    (tested-then (λ xs. xs) s no_answers r (gives no_answers) g n n n a a a
    (read-did (λ xs. xs) (Ok no_answers) (gives no_answers) n a (read-lift (λ xs. xs) (Ok no_answers) (Ok no_answers) refl))
    (read-did answer_of r (tested s (g no_answers)) n a
    (tested-gives s (several (appended (map answer_of values) no_answers)) r (subst (λ x. Read answer_of r (judged s (in_bounds x))) all read)))))

-- what is left of a record whose first entries gave these answers
abbrev pub make_left : Scope → Env → Members → List Made → Eval Answer
make_left s env ms so_far = tested s (andthen (members_evaluated s ms env) (λ xs. judged s (record_made s.sight (so_far ++ xs))))

one_entry_more : (s : Scope) (env : Env) (k : List ℕ) (e : syntax.Expression) (ms : Members) (so_far : List Made) (n : ℕ)
    → Alike
    (andthen (members_evaluated s (syntax.member k e ms) env) (λ xs. judged s (record_made s.sight (so_far ++ xs))) n)
    (andthen (evaluated s e env) (λ x. andthen (members_evaluated s ms env) (λ xs. judged s (record_made s.sight ((so_far ++ (k, x) ∷ []) ++ xs)))) n)
one_entry_more s env k e ms so_far n =
    let f : Answer → Eval (List Made) = λ x. andthen (members_evaluated s ms env) (λ xs. gives ((k, x) ∷ xs)) in
    let g : List Made → Eval Answer = λ xs. judged s (record_made s.sight (so_far ++ xs)) in
    let h : Answer → Eval Answer = λ x. andthen (members_evaluated s ms env) (λ xs. judged s (record_made s.sight ((so_far ++ (k, x) ∷ []) ++ xs))) in
    alike-trans _ _ _ (alike-assoc (evaluated s e env) f g n)
    (alike-then (evaluated s e env) (evaluated s e env) (λ x. andthen (f x) g) h n (alike-same (evaluated s e env n)) (λ x m.
    alike-trans _ _ _ (alike-assoc (members_evaluated s ms env) (λ xs. gives ((k, x) ∷ xs)) g m)
    (alike-then (members_evaluated s ms env) (members_evaluated s ms env) (λ xs. andthen (gives ((k, x) ∷ xs)) g) (λ xs. judged s (record_made s.sight ((so_far ++ (k, x) ∷ []) ++ xs))) m
    (alike-same (members_evaluated s ms env m)) (λ xs j.
    alike-trans _ _ _ (alike-gives ((k, x) ∷ xs) g j)
    (subst (λ ys. Alike (g ((k, x) ∷ xs) j) (judged s (record_made s.sight ys) j)) (sym (append_assoc so_far ((k, x) ∷ []) xs)) (alike-same (g ((k, x) ∷ xs) j)))))))

-- one entry more gave its answer
pub make-goes_on : (s : Scope) (env : Env) (k : List ℕ) (e : syntax.Expression) (ms : Members) (so_far : List Made) (x : Value.Value) (whole : Eval Answer) (from middle now : Point)
    → Leaves (make_left s env (syntax.member k e ms) so_far) whole from middle
    → Did answer_of (Ok x) (evaluated s e env) (course middle.counted now.counted middle.steps now.steps)
    → Leaves (make_left s env ms (so_far ++ (k, answer_of x) ∷ [])) whole from now
make-goes_on s env k e ms so_far x whole from middle now leaves did =
    let h : Answer → Eval Answer = λ y. andthen (members_evaluated s ms env) (λ xs. judged s (record_made s.sight ((so_far ++ (k, y) ∷ []) ++ xs))) in
    let after : Answer → Eval Answer = λ y. judged s (in_bounds y) in
    leaves-on (make_left s env ms (so_far ++ (k, answer_of x) ∷ [])) (tested s (andthen (evaluated s e env) h)) whole from middle now
    (leaves-alike (make_left s env (syntax.member k e ms) so_far) (tested s (andthen (evaluated s e env) h)) whole from middle
    (λ n. alike-then (andthen (evaluated s e env) h) (andthen (members_evaluated s (syntax.member k e ms) env) (λ xs. judged s (record_made s.sight (so_far ++ xs)))) after after n
    (alike-sym _ _ (one_entry_more s env k e ms so_far n)) (λ y m. alike-same (after y m))) leaves)
    (leaves-then answer_of s x (evaluated s e env) h middle now did)

-- A record, by the values of its first entries.

pub make-begins : (s : Scope) (env : Env) (ms : Members) (entries : List Entry) (values : List Value.Value) (from : Point)
    → Leaves (make_left s env ms (made_of (take 0 entries) values)) (make_left s env ms []) from from
make-begins s env ms entries values from r counted steps did = did

-- the entries from an index on
abbrev pub entries_from : ℕ → List Entry → Members
entries_from i entries = members (map entry_shown (drop i entries))

make_opened : (s : Scope) (env : Env) (entries : List Entry) (i : ℕ) (m : Entry) (so_far : List Made) (whole : Eval Answer) (from now : Point)
    → drop i entries ≡ m ∷ drop (i + 1) entries
    → Leaves (make_left s env (entries_from i entries) so_far) whole from now
    → Leaves (make_left s env (syntax.member m.key (shown m.value) (entries_from (i + 1) entries)) so_far) whole from now
make_opened s env entries i m so_far whole from now at leaves =
    let rest : Members = entries_from (i + 1) entries in
    subst (λ k. Leaves (make_left s env (syntax.member k.0 k.1 rest) so_far) whole from now) (entry-parts m)
    (subst (λ ms. Leaves (make_left s env (members (map entry_shown ms)) so_far) whole from now) at leaves)

make_on : (s : Scope) (env : Env) (entries : List Entry) (i : ℕ) (m : Entry) (so_far : List Made) (x : Value.Value) (whole : Eval Answer) (from middle now : Point)
    → i < length entries → m ≡ get_or entries i m
    → Leaves (make_left s env (entries_from i entries) so_far) whole from middle
    → Did answer_of (Ok x) (evaluated s (shown m.value) env) (course middle.counted now.counted middle.steps now.steps)
    → Leaves (make_left s env (entries_from (i + 1) entries) (so_far ++ (m.key, answer_of x) ∷ [])) whole from now
make_on s env entries i m so_far x whole from middle now within is leaves did =
    make-goes_on s env m.key (shown m.value) (entries_from (i + 1) entries) so_far x whole from middle now
    (make_opened s env entries i m so_far whole from middle (element entries i m within is) leaves) did

-- the first entries with their answers, and one more
made_of-last : (entries : List Entry) (values : List Value.Value) (i : ℕ) (m : Entry) (x : Value.Value) (rest : List Entry) → drop i entries ≡ m ∷ rest → length values ≡ i
    → made_of (take i entries) values ++ (m.key, answer_of x) ∷ [] ≡ made_of (take (i + 1) entries) (values ++ x ∷ [])
made_of-last [] values zero m x rest at count = cc
made_of-last [] values (suc i) m x rest at count = cc
made_of-last (e ∷ es) [] zero m x rest at count = let same : e ≡ m = cc in ap (λ (k : Entry). (k.key, answer_of x) ∷ []) (sym same)
made_of-last (e ∷ es) (v ∷ vs) zero m x rest at count = absurd (omega arith)
made_of-last (e ∷ es) [] (suc i) m x rest at count = absurd (omega arith)
made_of-last (e ∷ es) (v ∷ vs) (suc i) m x rest at count = rw suc-add (ap (λ ms. (e.key, answer_of v) ∷ ms) (made_of-last es vs i m x rest at (omega arith)))

pub make-pushed : (s : Scope) (env : Env) (entries : List Entry) (i : ℕ) (m : Entry) (values more : List Value.Value) (x : Value.Value) (whole : Eval Answer) (from middle now : Point)
    → i < length entries → m ≡ get_or entries i m → more ≡ values ++ x ∷ [] → length values ≡ i
    → Leaves (make_left s env (entries_from i entries) (made_of (take i entries) values)) whole from middle
    → Did answer_of (Ok x) (evaluated s (shown m.value) env) (course middle.counted now.counted middle.steps now.steps)
    → Leaves (make_left s env (entries_from (i + 1) entries) (made_of (take (i + 1) entries) more)) whole from now
make-pushed s env entries i m values more x whole from middle now within is pushed count leaves did =
    let seen : made_of (take i entries) values ++ (m.key, answer_of x) ∷ [] ≡ made_of (take (i + 1) entries) more =
    made_of-last entries values i m x (drop (i + 1) entries) (element entries i m within is) count ∙ ap (made_of (take (i + 1) entries)) (sym pushed) in
    subst (λ xs. Leaves (make_left s env (entries_from (i + 1) entries) xs) whole from now) seen
    (make_on s env entries i m (made_of (take i entries) values) x whole from middle now within is leaves did)

-- there was no room for its value
pub make-lost : (s : Scope) (env : Env) (entries : List Entry) (i : ℕ) (m : Entry) (so_far : List Made) (x : Value.Value) (halt : Halt) (whole : Eval Answer) (from middle now : Point)
    → i < length entries → m ≡ get_or entries i m → halt ≡ halts.Memory
    → Leaves (make_left s env (entries_from i entries) so_far) whole from middle
    → Did answer_of (Ok x) (evaluated s (shown m.value) env) (course middle.counted now.counted middle.steps now.steps)
    → Did {T = Value.Value} answer_of (Err halt) whole (course from.counted now.counted from.steps now.steps)
make-lost s env entries i m so_far x halt whole from middle now within is lost leaves did =
    make_on s env entries i m so_far x whole from middle now within is leaves did (Err halt) now.counted now.steps
    (did-memory answer_of halt (make_left s env (entries_from (i + 1) entries) (so_far ++ (m.key, answer_of x) ∷ [])) now.counted now.steps lost)

pub make-lost-at : (s : Scope) (env : Env) (entries : List Entry) (i : ℕ) (m : Entry) (so_far : List Made) (x : Value.Value) (r : Result Value.Value Halt) (whole : Eval Answer) (from middle now : Point)
    → i < length entries → m ≡ get_or entries i m → IsErrAnd r (λ h. h ≡ halts.Memory)
    → Leaves (make_left s env (entries_from i entries) so_far) whole from middle
    → Did answer_of (Ok x) (evaluated s (shown m.value) env) (course middle.counted now.counted middle.steps now.steps)
    → Did answer_of r whole (course from.counted now.counted from.steps now.steps)
make-lost-at s env entries i m so_far x (Ok y) whole from middle now within is lost leaves did = absurd lost
make-lost-at s env entries i m so_far x (Err halt) whole from middle now within is lost leaves did = make-lost s env entries i m so_far x halt whole from middle now within is lost leaves did

-- an entry ended refused
pub make-unmet : (s : Scope) (env : Env) (entries : List Entry) (i : ℕ) (m : Entry) (so_far : List Made) (halt : Halt) (whole : Eval Answer) (from middle now : Point)
    → i < length entries → m ≡ get_or entries i m
    → Leaves (make_left s env (entries_from i entries) so_far) whole from middle
    → Did {T = Value.Value} answer_of (Err halt) (evaluated s (shown m.value) env) (course middle.counted now.counted middle.steps now.steps)
    → Did {T = Value.Value} answer_of (Err halt) whole (course from.counted now.counted from.steps now.steps)
make-unmet s env entries i m so_far halt whole from middle now within is leaves did =
    let way : Course = course middle.counted now.counted middle.steps now.steps in
    let f : Answer → Eval (List Made) = λ x. andthen (members_evaluated s (entries_from (i + 1) entries) env) (λ xs. gives ((m.key, x) ∷ xs)) in
    let g : List Made → Eval Answer = λ xs. judged s (record_made s.sight (so_far ++ xs)) in
    make_opened s env entries i m so_far whole from middle (element entries i m within is) leaves (Err halt) now.counted now.steps
    (tested-stop {T = List Made} (λ xs. xs) s halt (andthen (evaluated s (shown m.value) env) f) g way
    (did-stop {T = Value.Value} {U = List Made} answer_of (λ xs. xs) halt (evaluated s (shown m.value) env) f way did))

-- all of them gave their answers
pub make-ends : (s : Scope) (env : Env) (entries : List Entry) (i : ℕ) (values : List Value.Value) (r : Result Value.Value Halt) (whole : Eval Answer) (from now : Point)
    → drop i entries ≡ [] → take i entries ≡ entries
    → Leaves (make_left s env (entries_from i entries) (made_of (take i entries) values)) whole from now
    → Read answer_of r (tested s (judged s (record_made s.sight (made_of entries values))))
    → Did answer_of r whole (course from.counted now.counted from.steps now.steps)
make-ends s env entries i values r whole from now none all leaves read =
    let n = now.counted in
    let a = now.steps in
    let so_far : List Made = made_of (take i entries) values in
    let g : List Made → Eval Answer = λ xs. judged s (record_made s.sight (so_far ++ xs)) in
    let same : made_of entries values ≡ so_far ++ [] = ap (λ es. made_of es values) (sym all) ∙ sym (append-nil so_far) in
    leaves r n a
    (subst (λ ms. Did answer_of r (make_left s env (members (map entry_shown ms)) so_far) (course n n a a)) (sym none)
    (tested-then (λ xs. xs) s [] r (gives []) g n n n a a a
    (read-did (λ xs. xs) (Ok []) (gives []) n a (read-lift (λ xs. xs) (Ok []) (Ok []) refl))
    (read-did answer_of r (tested s (g [])) n a (subst (λ ms. Read answer_of r (tested s (judged s (record_made s.sight ms)))) same read))))
