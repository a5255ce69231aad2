-- What a relation between the state before a run and the one behind it has to keep, so that calling any action keeps it.
use Rattle.std.specs.Prelude.{◌≡◌, ℕ, suc, nat_lt, true, List, [], ◌∷◌, Ok, IfOk, IfSome}
use Rattle.snap_core.specs.declared.number.ModelNo.{ModelNo}
use Rattle.snap_core.specs.declared.number.NodeNo.{NodeNo}
use Rattle.expr_syntax.specs.Syntax.{Expression}
use Rattle.model_syntax.specs.Shown.{ShownAction}
use Rattle.tree_core.specs.Changed.{Changed}
use Rattle.tree_core.specs.Recorded.{tree_in}
use Rattle.tree_core.specs.Writing.{Target}
use Rattle.eval_core.specs.Answer.{Answer, AnswerList, no_answers, answer}
use Rattle.eval_core.specs.Asking.{frame_scope, bound_at}
use Rattle.eval_core.specs.Evaluating.{evaluated}
use Rattle.eval_core.specs.Run.{Run}
use Rattle.eval_core.specs.Scope.{Scope, Env}
use Rattle.plain_answers.specs.EachExpression.{HoldsInBlock}
use Rattle.action_core.specs.Act.{State, Ran, Act, root_of, with_change, with_met, taken_back}
use Rattle.action_core.specs.Behaving.{Behaving, Callee, sight_in, most_statements}
use Rattle.action_core.specs.Beginning.{arguments_bound}
use Rattle.answer_writing.specs.Giving.{Giving, given, sets, inserts, removes}
use Rattle.action_core.specs.Running.{items_read}

-- A fact of each answer.

abbrev pub EachFine : (Answer → Type 0) → List Answer → Type 0
EachFine Fine [] = Unit {0}
EachFine Fine (x ∷ xs) = Fine x × EachFine Fine xs

abbrev pub AreFine : (Answer → Type 0) → AnswerList → Type 0
AreFine Fine no_answers = Unit {0}
AreFine Fine (answer x xs) = Fine x × AreFine Fine xs

abbrev pub IsFineEnv : (Answer → Type 0) → Env → Type 0
IsFineEnv Fine [] = Unit {0}
IsFineEnv Fine (b ∷ bs) = Fine b.1 × IsFineEnv Fine bs

abbrev pub GivesFine : (Answer → Type 0) → Giving → Type 0
GivesFine Fine (sets x) = Fine x
GivesFine Fine (inserts x) = Fine x
GivesFine Fine removes = Unit {0}

-- by what the expressions of a state's statements are evaluated
abbrev pub scope_of : Behaving → State → Scope
scope_of behaving s = frame_scope behaving.viewing (sight_in behaving (root_of s))

-- What a run comes to: the relation leads to it, and the facts hold.
pub record IsKept (Rel : State → State → Type 0) (Fit : State → Type 0) {A : Type 0} (P : A → Type 0) (s : State) (ran : Ran A) : Type 0 where
  pub fit : Fit ran.state
  pub rel : Rel s ran.state
  pub fine : IfOk ran.outcome P

-- A relation between states; a fact of each state, one of each answer and one of each expression.
pub record Keeping : Type 1 where
  pub behaving : Behaving
  pub Rel : State → State → Type 0
  pub Fit : State → Type 0
  pub Fine : Answer → Type 0
  pub Good : Expression → Type 0
  -- the fact of expressions holds of all that actions run
  pub actions : (m : ModelNo) (name : List ℕ) → IfSome (behaving.action_of m name) (λ (a : ShownAction). HoldsInBlock Good a.body)
  -- the relation leads on
  pub stays : (s : State) → Rel s s
  pub goes_on : (a b c : State) → Rel a b → Rel b c → Rel a c
  -- what is evaluated is fine, and so is what walking reads, what parameters are bound to, and what is always bound
  pub evaluates : (s : State) → Fit s → (e : Expression) → Good e → (env : Env) → IsFineEnv Fine env → (before : ℕ)
      → IfOk (evaluated (scope_of behaving s) e env before).outcome Fine
  pub walks : (s : State) → Fit s → (x : Answer) → Fine x → (before : ℕ) → IfOk (items_read (scope_of behaving s) x before).outcome (EachFine Fine)
  pub binds : (s : State) → Fit s → (callee : Callee) → AreFine Fine callee.given → (action : ShownAction)
      → IfOk (arguments_bound behaving callee (root_of s) action) (IsFineEnv Fine)
  pub bound : (s : State) → Fit s → (n : NodeNo) → IsFineEnv Fine (bound_at (sight_in behaving (root_of s)) n)
  -- each change of a state is kept
  pub meets : (A : Type 0) (run : Run A) (s : State) → Fit s → Fit (with_met run s) × Rel s (with_met run s)
  pub counting : (s : State) → Fit s → nat_lt s.counted most_statements ≡ true
      → Fit (record s { counted = suc s.counted }) × Rel s (record s { counted = suc s.counted })
  pub writing : (target : Target) (giving : Giving) (s : State) (c : Changed) → Fit s → GivesFine Fine giving
      → given behaving.types target giving (tree_in s.tree) ≡ Ok c → Fit (with_change c s) × Rel s (with_change c s)
  pub backing : (earlier now : State) → Fit earlier → Fit now → Rel earlier now
      → Fit (taken_back earlier.tree now) × Rel earlier (taken_back earlier.tree now)

-- a run keeps the relation, from each state of which the fact holds
abbrev pub Keeps : (k : Keeping) → {A : Type 0} → (A → Type 0) → Act A → Type 0
Keeps k P act = (s : State) → k.Fit s → IsKept k.Rel k.Fit P s (act s)
