-- Statements one after the other, runs for each of some values, and what binds no name.
use Rattle.std.proofs.Math.Seq.{drop-cons}
use Rattle.std.proofs.lemmas.List.Elements.{All-head, All-tail}
use Rattle.std.proofs.Common.{◌≡◌, ℕ, suc, ◌+◌, ◌*◌, ◌-◌, ◌<◌, List, [], ◌∷◌, All, length, take, drop, get_or, add-one, map, Bool, true, false, Ok, Err, refl, sym, ◌∙◌, ap, subst}
use Rattle.expr_syntax.specs.Syntax.{Expressions, no_more, more, Statement, Statements, run, done}
use Rattle.expr_syntax.specs.declared.stmt.Stmt.{Stmt}
use Rattle.expr_syntax.specs.ShownStatements.{statements, stmt_shown}
use Rattle.answer_ops.specs.View.{answer_of}
use Rattle.answer_ops.specs.declared.value.Value.{Value}
use Rattle.plain_answers.specs.EachExpression.{HoldsInEach}
use Rattle.plain_answers.specs.Plainness.{HasPlainConstants, HavePlainConstants}
use Rattle.snap_core.specs.declared.number.NodeNo.{NodeNo}
use Rattle.eval_core.specs.Answer.{Answer, AnswerList}
use Rattle.eval_core.specs.Scope.{Env}
use Rattle.view_engine.specs.declared.halt.RunError.{RunError}
use Rattle.view_engine.specs.declared.names.Env.{Env as Bound}
use Rattle.action_steps.specs.Acting.{env_of}
use Rattle.action_core.specs.Act.{Act, gives}
use Rattle.action_core.specs.Behaving.{Acting, counts}
use Rattle.action_core.specs.Running.{keeping, over_each, one_of, ran, ran_block}
use Rattle.action_steps.specs.Doing.{Point, Performs}
use Rattle.action_steps.proofs.Doing.{acts-then, acts-stop, acts-tells}
use Rattle.action_run.specs.Surrounding.{Done}

-- room for actions first, then how many statements may still be counted, then which call of one statement it is
abbrev pub measure : ℕ → ℕ → ℕ → ℕ
measure room counted call = room * 2000100 + 16 * (100001 - counted) + call

-- an item of a list, and those behind it
pub element : {X : Type 0} (xs : List X) (i : ℕ) (x : X) → i < length xs → x ≡ get_or xs i x → drop i xs ≡ x ∷ drop (i + 1) xs
element xs i x within is = rw add-one (drop-cons xs i x within ∙ ap (λ y. y ∷ drop (suc i) xs) (sym is))

pub statements-opened : (xs : List Stmt) (i : ℕ) (x : Stmt) → i < length xs → x ≡ get_or xs i x
    → statements (map stmt_shown (drop i xs)) ≡ run (stmt_shown x) (statements (map stmt_shown (drop (i + 1) xs)))
statements-opened xs i x within is = ap (λ ys. statements (map stmt_shown ys)) (element xs i x within is)

pub values-opened : (xs : List Value) (i : ℕ) (x : Value) → i < length xs → x ≡ get_or xs i x → map answer_of (drop i xs) ≡ answer_of x ∷ map answer_of (drop (i + 1) xs)
values-opened xs i x within is = ap (λ ys. map answer_of ys) (element xs i x within is)

first_of : (P : Answer → Type 0) (x : Answer) (xs : List Answer) → All P (x ∷ xs) → P x
first_of P x xs h = All-head P x xs h

rest_of : (P : Answer → Type 0) (x : Answer) (xs : List Answer) → All P (x ∷ xs) → All P xs
rest_of P x xs h = All-tail P x xs h

-- what holds of each value that is left, holds of the first one, and of those behind it
pub first_fine : (P : Answer → Type 0) (xs : List Value) (i : ℕ) (x : Value) → i < length xs → x ≡ get_or xs i x → All P (map answer_of (drop i xs)) → P (answer_of x)
first_fine P xs i x within is fine = first_of P (answer_of x) _ (subst (λ ys. All P ys) (values-opened xs i x within is) fine)

pub rest-fine : (P : Answer → Type 0) (xs : List Value) (i : ℕ) (x : Value) → i < length xs → x ≡ get_or xs i x → All P (map answer_of (drop i xs)) → All P (map answer_of (drop (i + 1) xs))
rest-fine P xs i x within is fine = rest_of P (answer_of x) _ (subst (λ ys. All P ys) (values-opened xs i x within is) fine)

pub each_plain : (es : Expressions) → HoldsInEach HasPlainConstants es → HavePlainConstants es
each_plain no_more h = tt
each_plain (more e es) h = (h.0, each_plain es h.1)

-- what stood at the front still does
pub kept-on : {X : Type 0} (xs ys zs : List X) → take (length xs) ys ≡ xs → take (length ys) zs ≡ ys → take (length xs) zs ≡ xs
kept-on [] ys zs h k = refl
kept-on (x ∷ xs) [] zs h k = cc
kept-on (x ∷ xs) (y ∷ ys) [] h k = cc
kept-on (x ∷ xs) (y ∷ ys) (z ∷ zs) h k =
    let front : take (length xs) ys ≡ xs = cc in
    let behind : take (length ys) zs ≡ ys = cc in
    let rest : take (length xs) zs ≡ xs = kept-on xs ys zs front behind in
    cc

-- a statement that binds no name leaves those that are bound
pub acts-keeping : (env : Env) (r : Done) (act : Act (Unit {0})) (a b : Point) → Performs (λ u. u) r act a b
    → Performs {T = Unit {0}} (λ u. env) r (keeping env act) a b
acts-keeping env (Ok u) act a b did = acts-then (λ (v : Unit {0}). v) (λ (v : Unit {0}). env) u (Ok u) act (λ one. gives env) a b b did (acts-tells (λ (v : Unit {0}). env) (Ok u) (Ok env) b refl)
acts-keeping env (Err e) act a b did = acts-stop {T = Unit {0}} {U = Unit {0}} (λ v. v) (λ v. env) e act (λ one. gives env) a b did

-- one of two blocks
pub acts-one : (first second : Act (Unit {0})) (b : Bool) (r : Done) (a c : Point) → b ≡ true → Performs (λ u. u) r first a c → Performs (λ u. u) r (one_of first second b) a c
acts-one first second b r a c is did = subst (λ x. Performs {T = Unit {0}} (λ u. u) r (one_of first second x) a c) (sym is) did

pub acts-other : (first second : Act (Unit {0})) (b : Bool) (r : Done) (a c : Point) → b ≡ false → Performs (λ u. u) r second a c → Performs (λ u. u) r (one_of first second b) a c
acts-other first second b r a c is did = subst (λ x. Performs {T = Unit {0}} (λ u. u) r (one_of first second x) a c) (sym is) did

-- What is left does the rest.

abbrev pub Leaves : {A : Type 0} (seen : Unit {0} → A) (left : Act (Unit {0})) (whole : Act A) (a m : Point) → Type 0
Leaves seen left whole a m = (r : Done) (c : Point) → Performs (λ u. u) r left m c → Performs seen r whole a c

-- one statement of a block was counted and run
block_opened : {A : Type 0} (seen : Unit {0} → A) (whole : Act A) (by : Acting) (all opened : Statements) (env : Env) (a m : Point) → all ≡ opened
    → Leaves seen (ran_block by all env) whole a m → Leaves seen (ran_block by opened env) whole a m
block_opened seen whole by all opened env a m e left = subst (λ x. Leaves seen (ran_block by x env) whole a m) e left

pub statement-left : {A : Type 0} (seen : Unit {0} → A) (whole : Act A) (by : Acting) (all : Statements) (st : Statement) (sts : Statements) (env bound : Env) (u v : Unit {0}) (a m k n : Point) → all ≡ run st sts
    → Leaves seen (ran_block by all env) whole a m → Performs (λ w. w) (Ok u) (counts by.running.frame) m k
    → Performs {T = Unit {0}} (λ w. bound) (Ok v) (ran by st env) k n → Leaves seen (ran_block by sts bound) whole a n
statement-left seen whole by all st sts env bound u v a m k n e left counted did r c rest =
    block_opened seen whole by all (run st sts) env a m e left r c
    (acts-then (λ (w : Unit {0}). w) (λ (w : Unit {0}). w) u r (counts by.running.frame) _ m k c counted
    (acts-then (λ (w : Unit {0}). bound) (λ (w : Unit {0}). w) v r (ran by st env) _ k n c did rest))

-- it wasn't counted, or was refused
pub statement-uncounted : {A : Type 0} (seen : Unit {0} → A) (whole : Act A) (by : Acting) (all : Statements) (st : Statement) (sts : Statements) (env : Env) (e : RunError) (a m k : Point) → all ≡ run st sts
    → Leaves seen (ran_block by all env) whole a m → Performs {T = Unit {0}} (λ w. w) (Err e) (counts by.running.frame) m k
    → Performs {T = Unit {0}} seen (Err e) whole a k
statement-uncounted seen whole by all st sts env e a m k is left counted =
    block_opened seen whole by all (run st sts) env a m is left (Err e) k (acts-stop {T = Unit {0}} {U = Unit {0}} (λ w. w) (λ w. w) e (counts by.running.frame) _ m k counted)

pub statement-refused : {A : Type 0} (seen : Unit {0} → A) (whole : Act A) (by : Acting) (all : Statements) (st : Statement) (sts : Statements) (env bound : Env) (u : Unit {0}) (e : RunError) (a m k n : Point) → all ≡ run st sts
    → Leaves seen (ran_block by all env) whole a m → Performs (λ w. w) (Ok u) (counts by.running.frame) m k
    → Performs {T = Unit {0}} (λ w. bound) (Err e) (ran by st env) k n → Performs {T = Unit {0}} seen (Err e) whole a n
statement-refused seen whole by all st sts env bound u e a m k n is left counted did =
    block_opened seen whole by all (run st sts) env a m is left (Err e) n
    (acts-then (λ (w : Unit {0}). w) (λ (w : Unit {0}). w) u (Err e) (counts by.running.frame) _ m k n counted
    (acts-stop {T = Unit {0}} {U = Unit {0}} (λ w. bound) (λ w. w) e (ran by st env) _ k n did))

-- none is left
pub none-left : {A : Type 0} (seen : Unit {0} → A) (whole : Act A) (by : Acting) (all : Statements) (env : Env) (u : Unit {0}) (a m : Point) → all ≡ done
    → Leaves seen (ran_block by all env) whole a m → Performs seen (Ok u) whole a m
none-left seen whole by all env u a m is left = block_opened seen whole by all done env a m is left (Ok u) m (acts-tells (λ (w : Unit {0}). w) (Ok u) (Ok tt) m refl)

-- A block for each of some values.

turns_opened : {A : Type 0} (seen : Unit {0} → A) (whole : Act A) (body : Answer → Act (Unit {0})) (all opened : List Answer) (a m : Point) → all ≡ opened
    → Leaves seen (over_each body all) whole a m → Leaves seen (over_each body opened) whole a m
turns_opened seen whole body all opened a m e left = subst (λ x. Leaves seen (over_each body x) whole a m) e left

pub turn-left : {A : Type 0} (seen : Unit {0} → A) (whole : Act A) (body : Answer → Act (Unit {0})) (all : List Answer) (x : Answer) (xs : List Answer) (u : Unit {0}) (a m n : Point) → all ≡ x ∷ xs
    → Leaves seen (over_each body all) whole a m → Performs (λ w. w) (Ok u) (body x) m n → Leaves seen (over_each body xs) whole a n
turn-left seen whole body all x xs u a m n e left did r c rest =
    turns_opened seen whole body all (x ∷ xs) a m e left r c (acts-then (λ (w : Unit {0}). w) (λ (w : Unit {0}). w) u r (body x) _ m n c did rest)

pub turn-refused : {A : Type 0} (seen : Unit {0} → A) (whole : Act A) (body : Answer → Act (Unit {0})) (all : List Answer) (x : Answer) (xs : List Answer) (e : RunError) (a m n : Point) → all ≡ x ∷ xs
    → Leaves seen (over_each body all) whole a m → Performs {T = Unit {0}} (λ w. w) (Err e) (body x) m n → Performs {T = Unit {0}} seen (Err e) whole a n
turn-refused seen whole body all x xs e a m n is left did =
    turns_opened seen whole body all (x ∷ xs) a m is left (Err e) n (acts-stop {T = Unit {0}} {U = Unit {0}} (λ w. w) (λ w. w) e (body x) _ m n did)

pub no-turn-left : {A : Type 0} (seen : Unit {0} → A) (whole : Act A) (body : Answer → Act (Unit {0})) (all : List Answer) (u : Unit {0}) (a m : Point) → all ≡ []
    → Leaves seen (over_each body all) whole a m → Performs seen (Ok u) whole a m
no-turn-left seen whole body all u a m is left = turns_opened seen whole body all [] a m is left (Ok u) m (acts-tells (λ (w : Unit {0}). w) (Ok u) (Ok tt) m refl)

-- Names that are bound as before, and as they are told.

pub bound-as : (f : Env → Act (Unit {0})) (now before : Bound) (r : Done) (a b : Point) → now ≡ before → Performs (λ u. u) r (f (env_of now)) a b → Performs (λ u. u) r (f (env_of before)) a b
bound-as f now before r a b is did = subst (λ e. Performs {T = Unit {0}} (λ u. u) r (f (env_of e)) a b) is did

pub env-told : (now before : Bound) (r : Done) (act : Act Env) (a b : Point) → now ≡ before → Performs {T = Unit {0}} (λ u. env_of before) r act a b → Performs {T = Unit {0}} (λ u. env_of now) r act a b
env-told now before r act a b is did = subst (λ e. Performs {T = Unit {0}} (λ u. env_of e) r act a b) (sym is) did

pub env-bound : (by : Acting) (sts : Statements) (now before : Env) (r : Done) (a b : Point) → now ≡ before → Performs (λ u. u) r (ran_block by sts now) a b → Performs (λ u. u) r (ran_block by sts before) a b
env-bound by sts now before r a b is did = subst (λ e. Performs {T = Unit {0}} (λ u. u) r (ran_block by sts e) a b) is did

pub block-did : (by : Acting) (shown sts : Statements) (env : Env) (r : Done) (a b : Point) → shown ≡ sts → Performs (λ u. u) r (ran_block by sts env) a b → Performs (λ u. u) r (ran_block by shown env) a b
block-did by shown sts env r a b is did = subst (λ x. Performs {T = Unit {0}} (λ u. u) r (ran_block by x env) a b) (sym is) did

pub turns-left : {A : Type 0} (seen : Unit {0} → A) (whole : Act A) (body : Answer → Act (Unit {0})) (all opened : List Value) (a m : Point) → all ≡ opened
    → Leaves seen (over_each body (map answer_of opened)) whole a m → Leaves seen (over_each body (map answer_of all)) whole a m
turns-left seen whole body all opened a m e left = subst (λ x. Leaves seen (over_each body (map answer_of x)) whole a m) (sym e) left

pub call-named : (by : Acting) (n : NodeNo) (name other : List ℕ) (given : AnswerList) (r : Done) (a b : Point) → other ≡ name
    → Performs (λ u. u) r (by.call (record { node = n; name = other; given = given })) a b → Performs (λ u. u) r (by.call (record { node = n; name = name; given = given })) a b
call-named by n name other given r a b is did = subst (λ (x : List ℕ). Performs {T = Unit {0}} (λ u. u) r (by.call (record { node = n; name = x; given = given })) a b) is did
