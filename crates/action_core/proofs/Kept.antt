-- Calling any action keeps a relation that is kept by each write, each evaluation, each count and each taking back.
use Rattle.std.proofs.Common.{ℕ, zero, suc, List, [], ◌∷◌, ◌++◌, Option, Some, None, Ok, Err}
use Rattle.std.specs.Prelude.{IfOk, IfSome}
use Rattle.snap_core.specs.declared.number.NodeNo.{NodeNo}
use Rattle.pointer_core.specs.Path.{Path}
use Rattle.pointer_core.specs.declared.refusal.Rule.{Rule}
use Rattle.pointer_core.specs.declared.refusal.Rule.TheVariants as rule
use Rattle.type_core.specs.Making.{Outcome}
use Rattle.expr_syntax.specs.Syntax.{Expression, Expressions, Statement, Statements, no_more, more, set, put, push, insert, replace, drop, clear, apply, each, call, attempt, throw, done, run}
use Rattle.model_syntax.specs.Shown.{ShownAction, ShownMiddleware, atomic, protect}
use Rattle.edit_core.specs.declared.kind.Kind.{Kind}
use Rattle.edit_core.specs.declared.kind.Kind.TheVariants.{Model, Array, Map}
use Rattle.tree_core.specs.Outcome as outcome
use Rattle.tree_core.specs.Outcome.{or_refuse}
use Rattle.tree_core.specs.Reading.{kind_at}
use Rattle.eval_core.specs.Answer.{Answer, no_answers, answer}
use Rattle.eval_core.specs.Asking.{bound_at}
use Rattle.eval_core.specs.Evaluating.{evaluated, all_evaluated}
use Rattle.eval_core.specs.Pairing.{Anything}
use Rattle.eval_core.specs.Run.{Eval, andthen}
use Rattle.eval_core.specs.Scope.{Env}
use Rattle.action_core.specs.Act.{State, Act, root_of}
use Rattle.action_core.specs.Behaving.{Running, Callee, sight_in}
use Rattle.action_core.specs.Beginning.{Begun, frame_of, action_under, arguments_bound, action_begun, begun_of_kind, begun_by}
use Rattle.action_core.specs.Calling.{around, surrounded, running_on, called}
use Rattle.action_core.specs.Keeping.{EachFine, AreFine, IsFineEnv, Keeping, Keeps, scope_of}
use Rattle.plain_answers.specs.EachExpression.{HoldsInEach, HoldsInStatement, HoldsInBlock}
use Rattle.action_core.specs.Layers.{Layer, layers_of}
use Rattle.action_core.specs.Running.{two, three, items_read, over_each, is_budget, keeping, ran, ran_block}
use Rattle.action_core.specs.Statements.{property_set, entry_put, item_inserted, item_replaced, part_dropped, snapshot_applied}
use Rattle.action_core.proofs.Steps.{Gives, given, going_on, anything, telling, refusing, looking, thens, rescuing, taking_back, evaluating, counting, being_node, choosing}
use Rattle.action_core.proofs.KeptWrites.{acting, to_node, pushing, clearing}

-- Parts of statements.

-- an expression in a state
abbrev Evaluated : (k : Keeping) → State → Expression → Env → Type 0
Evaluated k s e env = Gives k.Fine (evaluated (scope_of k.behaving s) e env)

pair : {A B : Type 0} (P : A → Type 0) (Q : B → Type 0) (e : Eval A) (f : Eval B) → Gives P e → Gives Q f → Gives (λ (xs : A × B). P xs.0 × Q xs.1) (two e f)
pair P Q e f h g = going_on P _ e _ h (λ x fine. going_on Q _ f _ g (λ y good. given _ (x, y) (fine, good)))

triple : {A B C : Type 0} (P : A → Type 0) (Q : B → Type 0) (R : C → Type 0) (e : Eval A) (f : Eval B) (g : Eval C) → Gives P e → Gives Q f → Gives R g
    → Gives (λ (xs : A × B × C). P xs.0 × Q xs.1 × R xs.2) (three e f g)
triple P Q R e f g h i j =
    going_on P _ e _ h (λ x fine. going_on Q _ f _ i (λ y good. going_on R _ g _ j (λ z well. given _ (x, y, z) (fine, good, well))))

many : (k : Keeping) (s : State) → k.Fit s → (es : Expressions) → HoldsInEach k.Good es → (env : Env) → IsFineEnv k.Fine env
    → Gives (AreFine k.Fine) (all_evaluated (scope_of k.behaving s) es env)
many k s fit no_more good env fine = given _ no_answers tt
many k s fit (more e es) good env fine =
    going_on k.Fine _ _ _ (k.evaluates s fit e good.0 env fine)
    (λ x first. going_on (AreFine k.Fine) _ _ _ (many k s fit es good.1 env fine) (λ xs rest. given _ (answer x xs) (first, rest)))

walked : (k : Keeping) (s : State) → k.Fit s → (e : Expression) → k.Good e → (env : Env) → IsFineEnv k.Fine env
    → Gives (EachFine k.Fine) (andthen (evaluated (scope_of k.behaving s) e env) (items_read (scope_of k.behaving s)))
walked k s fit e good env fine = going_on k.Fine _ _ _ (k.evaluates s fit e good env fine) (λ x first. k.walks s fit x first)

-- Statements.

-- how actions are called keeps it
abbrev CallsKept : (k : Keeping) → (Callee → Act (Unit {0})) → Type 0
CallsKept k called_by = (callee : Callee) → AreFine k.Fine callee.given → Keeps k Anything (called_by callee)

binding_none : (k : Keeping) (env : Env) → IsFineEnv k.Fine env → (act : Act (Unit {0})) → Keeps k Anything act → Keeps k (IsFineEnv k.Fine) (keeping env act)
binding_none k env fine act h = thens k Anything (IsFineEnv k.Fine) act _ h (λ one any. telling k (IsFineEnv k.Fine) (Ok env) fine)

each_of : (k : Keeping) (body : Answer → Act (Unit {0})) → ((y : Answer) → k.Fine y → Keeps k Anything (body y)) → (xs : List Answer) → EachFine k.Fine xs
    → Keeps k Anything (over_each body xs)
each_of k body h [] fine = telling k Anything (Ok tt) tt
each_of k body h (x ∷ xs) fine = thens k Anything Anything (body x) _ (h x fine.0) (λ one any. each_of k body h xs fine.1)

mutual
  statement_kept : (k : Keeping) (r : Running) (by : Callee → Act (Unit {0})) → CallsKept k by → (st : Statement) → HoldsInStatement k.Good st
      → (env : Env) → IsFineEnv k.Fine env → Keeps k (IsFineEnv k.Fine) (ran (acting k r by) st env)
  statement_kept k r by h (set e p v) good env fine =
      binding_none k env fine _ (thens k _ Anything _ _
      (evaluating k _ r.frame _ (λ s fit. pair k.Fine k.Fine _ _ (k.evaluates s fit e good.0 env fine) (k.evaluates s fit v good.1 env fine)))
      (λ xs both. to_node k r by xs.0 (λ n. property_set n p xs.1) (λ n. both.1)))
  statement_kept k r by h (put e i v) good env fine =
      binding_none k env fine _ (thens k _ Anything _ _
      (evaluating k _ r.frame _ (λ s fit. triple k.Fine k.Fine k.Fine _ _ _ (k.evaluates s fit e good.0 env fine) (k.evaluates s fit i good.1 env fine) (k.evaluates s fit v good.2 env fine)))
      (λ xs all. to_node k r by xs.0 (λ n. entry_put n xs.1 xs.2) (λ n. all.2)))
  statement_kept k r by h (push e v) good env fine =
      binding_none k env fine _ (thens k _ Anything _ _
      (evaluating k _ r.frame _ (λ s fit. pair k.Fine k.Fine _ _ (k.evaluates s fit e good.0 env fine) (k.evaluates s fit v good.1 env fine)))
      (λ xs both. pushing k r by xs.0 xs.1 both.1))
  statement_kept k r by h (insert e i v) good env fine =
      binding_none k env fine _ (thens k _ Anything _ _
      (evaluating k _ r.frame _ (λ s fit. triple k.Fine k.Fine k.Fine _ _ _ (k.evaluates s fit e good.0 env fine) (k.evaluates s fit i good.1 env fine) (k.evaluates s fit v good.2 env fine)))
      (λ xs all. to_node k r by xs.0 (λ n. item_inserted n xs.1 xs.2) (λ n. all.2)))
  statement_kept k r by h (replace e i v) good env fine =
      binding_none k env fine _ (thens k _ Anything _ _
      (evaluating k _ r.frame _ (λ s fit. triple k.Fine k.Fine k.Fine _ _ _ (k.evaluates s fit e good.0 env fine) (k.evaluates s fit i good.1 env fine) (k.evaluates s fit v good.2 env fine)))
      (λ xs all. to_node k r by xs.0 (λ n. item_replaced n xs.1 xs.2) (λ n. all.2)))
  statement_kept k r by h (drop e i) good env fine =
      binding_none k env fine _ (thens k _ Anything _ _
      (evaluating k _ r.frame _ (λ s fit. pair k.Fine k.Fine _ _ (k.evaluates s fit e good.0 env fine) (k.evaluates s fit i good.1 env fine)))
      (λ xs both. to_node k r by xs.0 (λ n. part_dropped n xs.1) (λ n. tt)))
  statement_kept k r by h (clear e) good env fine =
      binding_none k env fine _ (thens k k.Fine Anything _ _ (evaluating k k.Fine r.frame _ (λ s fit. k.evaluates s fit e good env fine)) (λ x first. clearing k r by x))
  statement_kept k r by h (apply e v) good env fine =
      binding_none k env fine _ (thens k _ Anything _ _
      (evaluating k _ r.frame _ (λ s fit. pair k.Fine k.Fine _ _ (k.evaluates s fit e good.0 env fine) (k.evaluates s fit v good.1 env fine)))
      (λ xs both. to_node k r by xs.0 (λ n. snapshot_applied n xs.1) (λ n. both.1)))
  statement_kept k r by h (Statement.bind x e) good env fine =
      thens k k.Fine (IsFineEnv k.Fine) _ _ (evaluating k k.Fine r.frame _ (λ s fit. k.evaluates s fit e good env fine))
      (λ y first. telling k (IsFineEnv k.Fine) (Ok ((x, y) ∷ env)) (first, fine))
  statement_kept k r by h (Statement.choice c first second) good env fine =
      binding_none k env fine _ (thens k Anything Anything _ _ (evaluating k Anything r.frame _ (λ s fit before. anything _))
      (λ b any. choosing k Anything b _ _ (block_kept k r by h first good.1 env fine) (block_kept k r by h second good.2 env fine)))
  statement_kept k r by h (each e x body) good env fine =
      binding_none k env fine _ (thens k (EachFine k.Fine) Anything _ _ (evaluating k (EachFine k.Fine) r.frame _ (λ s fit. walked k s fit e good.0 env fine))
      (λ xs all. each_of k _ (λ y first. block_kept k r by h body good.1 ((x, y) ∷ env) (first, fine)) xs all))
  statement_kept k r by h (call e name es) good env fine =
      binding_none k env fine _ (thens k _ Anything _ _
      (evaluating k _ r.frame _ (λ s fit. pair k.Fine (AreFine k.Fine) _ _ (k.evaluates s fit e good.0 env fine) (many k s fit es good.1 env fine)))
      (λ xs both. being_node k Anything r.frame xs.0 _ (λ n. h (record { node = n; name = name; given = xs.1 }) both.1)))
  statement_kept k r by h (attempt first second) good env fine =
      binding_none k env fine _ (rescuing k Anything _ _ (block_kept k r by h first good.0 env fine)
      (λ e. choosing k Anything (is_budget e.rule) _ _ (telling k Anything (Err e) tt) (block_kept k r by h second good.1 env fine)))
  statement_kept k r by h (throw reason) good env fine = refusing k (IsFineEnv k.Fine) r.frame (rule.Thrown reason)

  block_kept : (k : Keeping) (r : Running) (by : Callee → Act (Unit {0})) → CallsKept k by → (sts : Statements) → HoldsInBlock k.Good sts
      → (env : Env) → IsFineEnv k.Fine env → Keeps k Anything (ran_block (acting k r by) sts env)
  block_kept k r by h done good env fine = telling k Anything (Ok tt) tt
  block_kept k r by h (run st sts) good env fine =
      thens k Anything Anything _ _ (counting k r.frame)
      (λ one any. thens k (IsFineEnv k.Fine) Anything _ _ (statement_kept k r by h st good.0 env fine) (λ bound well. block_kept k r by h sts good.1 bound well))

-- Middleware.

around_kept : (k : Keeping) (frame : Path) (n : NodeNo) (m : ShownMiddleware) (inner : Act (Unit {0})) → Keeps k Anything inner
    → Keeps k Anything (around k.behaving frame n m inner)
around_kept k frame n (atomic which) inner h = taking_back k Anything inner h
around_kept k frame n (protect which condition) inner h =
    thens k Anything Anything _ _ (evaluating k Anything frame _ (λ s fit before. anything _)) (λ b any. choosing k Anything b _ _ h (refusing k Anything frame rule.Guarded))

surrounded_kept : (k : Keeping) (frame : Path) (layers : List Layer) (body : Act (Unit {0})) → Keeps k Anything body
    → Keeps k Anything (surrounded k.behaving frame layers body)
surrounded_kept k frame [] body h = h
surrounded_kept k frame (layer ∷ layers) body h = around_kept k frame layer.node layer.middleware _ (surrounded_kept k frame layers body h)

-- Beginning.

abbrev IsWell : Keeping → Begun → Type 0
IsWell k begun = HoldsInBlock k.Good begun.body × IsFineEnv k.Fine begun.env

appended : (Fine : Answer → Type 0) (xs ys : Env) → IsFineEnv Fine xs → IsFineEnv Fine ys → IsFineEnv Fine (xs ++ ys)
appended Fine [] ys h g = g
appended Fine (x ∷ xs) ys h g = (h.0, appended Fine xs ys h.1 g)

then_well : {A B : Type 0} (P : A → Type 0) (Q : B → Type 0) (o : Outcome A) (next : A → Outcome B) → IfOk o P → ((x : A) → P x → IfOk (next x) Q)
    → IfOk (outcome.◌>>=◌ o next) Q
then_well P Q (Ok x) next h g = g x h
then_well P Q (Err e) next h g = tt

or_well : {A : Type 0} (P : A → Type 0) (o : Option A) (path : Path) (r : Rule) → IfSome o P → IfOk (or_refuse o path r) P
or_well P (Some x) path r h = h
or_well P None path r h = tt

some_any : {A : Type 0} (o : Option A) → IfSome o Anything
some_any (Some x) = tt
some_any None = tt

action_well : (k : Keeping) (s : State) → k.Fit s → (callee : Callee) → AreFine k.Fine callee.given → (action : ShownAction) → HoldsInBlock k.Good action.body
    → IfOk (action_begun k.behaving callee (root_of s) action) (IsWell k)
action_well k s fit callee fine action good =
    then_well (IsFineEnv k.Fine) (IsWell k) (arguments_bound k.behaving callee (root_of s) action)
    (λ env. Ok (record { frame = frame_of callee (root_of s); body = action.body; env = env ++ bound_at (sight_in k.behaving (root_of s)) callee.node }))
    (k.binds s fit callee fine action) (λ env well. (good, appended k.Fine env _ well (k.bound s fit callee.node)))

under_well : (k : Keeping) (name : List ℕ) (kind : Kind) → IfSome (action_under k.behaving name kind) (λ (a : ShownAction). HoldsInBlock k.Good a.body)
under_well k name (Model m) = k.actions m name
under_well k name (Array t) = tt
under_well k name (Map t) = tt

begun_well : (k : Keeping) (s : State) → k.Fit s → (caller : Path) (callee : Callee) → AreFine k.Fine callee.given
    → IfOk (begun_by k.behaving caller callee (root_of s)) (IsWell k)
begun_well k s fit caller callee fine =
    then_well Anything (IsWell k) (or_refuse (kind_at callee.node.0 (root_of s)) caller rule.Dead) (begun_of_kind k.behaving callee (root_of s))
    (or_well Anything (kind_at callee.node.0 (root_of s)) caller rule.Dead (some_any (kind_at callee.node.0 (root_of s))))
    (λ kind any. then_well (λ (a : ShownAction). HoldsInBlock k.Good a.body) (IsWell k)
    (or_refuse (action_under k.behaving callee.name kind) (frame_of callee (root_of s)) rule.Unknown) (action_begun k.behaving callee (root_of s))
    (or_well _ (action_under k.behaving callee.name kind) (frame_of callee (root_of s)) rule.Unknown (under_well k callee.name kind))
    (λ action good. action_well k s fit callee fine action good))

-- Calling.

pub called_kept : (k : Keeping) (room : ℕ) (r : Running) → CallsKept k (called k.behaving room r)
called_kept k zero r callee fine =
    thens k (IsWell k) Anything _ _ (looking k (IsWell k) _ (λ s fit. begun_well k s fit r.frame callee fine)) (λ begun well. refusing k Anything begun.frame rule.Calls)
called_kept k (suc room) r callee fine =
    thens k (IsWell k) Anything _ _ (looking k (IsWell k) _ (λ s fit. begun_well k s fit r.frame callee fine))
    (λ begun well. thens k Anything Anything _ _ (looking k Anything (λ root. Ok (layers_of k.behaving callee root)) (λ s fit. tt))
    (λ layers any. surrounded_kept k begun.frame layers _
    (block_kept k (running_on r callee.node begun.frame) _ (called_kept k room (running_on r callee.node begun.frame)) begun.body well.0 begun.env well.1)))
