-- Evaluating over two sights side by side: what a relation between evaluations has to keep, so that evaluating any
-- expression keeps it.
use Rattle.std.specs.Prelude.{◌≡◌, ℕ, List, [], ◌∷◌, Option, Some, None, Result, IfOk}
use Rattle.snap_core.specs.Value.{Value}
use Rattle.snap_core.specs.declared.number.ModelNo.{ModelNo}
use Rattle.snap_core.specs.declared.number.NodeNo.{NodeNo}
use Rattle.snap_core.specs.declared.ident.Ident.{Ident}
use Rattle.pointer_core.specs.Path.{Path}
use Rattle.expr_syntax.specs.declared.number.ViewNo.{ViewNo}
use Rattle.eval_core.specs.declared.cell.Cell.{Cell}
use Rattle.eval_core.specs.declared.site.Site.{Site}
use Rattle.eval_core.specs.Answer.{Answer, AnswerList, plain, node, several, no_answers, answer}
use Rattle.eval_core.specs.Sight.{Sight, Held, holds, stands, refers, Entry}
use Rattle.eval_core.specs.Run.{Eval, Fault, lift, looks, counts, andthen}
use Rattle.eval_core.specs.Scope.{Scope, Viewing, Env}

-- a fact of nodes, for each node in an answer
abbrev mutual
  pub InAnswer : (NodeNo → Type 0) → Answer → Type 0
  InAnswer Good (plain v) = Unit {0}
  InAnswer Good (node n) = Good n
  InAnswer Good (several xs) = InAnswers Good xs

  pub InAnswers : (NodeNo → Type 0) → AnswerList → Type 0
  InAnswers Good no_answers = Unit {0}
  InAnswers Good (answer x xs) = InAnswer Good x × InAnswers Good xs

abbrev pub InEnv : (NodeNo → Type 0) → Env → Type 0
InEnv Good [] = Unit {0}
InEnv Good (b ∷ bs) = InAnswer Good b.1 × InEnv Good bs

-- a fact of nodes, for each node in what is seen
abbrev pub InHeld : (NodeNo → Type 0) → Held → Type 0
InHeld Good (holds v) = Unit {0}
InHeld Good (stands n) = Good n
InHeld Good (refers link) = Unit {0}

abbrev pub InProp : (NodeNo → Type 0) → Option Held → Type 0
InProp Good None = Unit {0}
InProp Good (Some held) = InHeld Good held

abbrev pub InLevel : (NodeNo → Type 0) → List Entry → Type 0
InLevel Good [] = Unit {0}
InLevel Good (e ∷ es) = InHeld Good e.held × InLevel Good es

abbrev pub InFound : (NodeNo → Type 0) → Option NodeNo → Type 0
InFound Good None = Unit {0}
InFound Good (Some n) = Good n

abbrev pub Anything : {A : Type 0} → A → Type 0
Anything x = Unit {0}

-- Two sights with two ways to ask views, a fact of the nodes that evaluating meets, and a relation between evaluations
-- that give, where they end well, the same thing, of which a fact holds.
pub record Pairing : Type 1 where
  pub viewing : Viewing
  pub left : Sight
  pub right : Sight
  pub ask_left : NodeNo → ViewNo → Eval Answer
  pub ask_right : NodeNo → ViewNo → Eval Answer
  pub here : Site
  pub Good : NodeNo → Type 0
  pub Rel : (A : Type 0) → (A → Type 0) → Eval A → Eval A → Type 0
  -- what a node is, is the same in both
  pub beings : (n : NodeNo) → Good n → left.being n ≡ right.being n
  -- the relation is kept by each way to make an evaluation
  pub lifts : (A : Type 0) (P : A → Type 0) (outcome : Result A Fault) → IfOk outcome P → Rel A P (lift outcome) (lift outcome)
  pub thens : (A B : Type 0) (P : A → Type 0) (Q : B → Type 0) (e f : Eval A) (next then_next : A → Eval B)
      → Rel A P e f → ((x : A) → P x → Rel B Q (next x) (then_next x)) → Rel B Q (andthen e next) (andthen f then_next)
  pub counting : Rel (Unit {0}) Anything (counts here) (counts here)
  pub asks : (n : NodeNo) (v : ViewNo) → Good n → Rel Answer (InAnswer Good) (ask_left n v) (ask_right n v)
  -- the relation is kept by looking at each cell
  pub props : (n : NodeNo) (p : List ℕ) → Good n
      → Rel (Option Held) (InProp Good) (looks (Cell.Prop n p) (left.prop n p)) (looks (Cell.Prop n p) (right.prop n p))
  pub levels : (n : NodeNo) → Good n → Rel (List Entry) (InLevel Good) (looks (Cell.Shape n) (left.level n)) (looks (Cell.Shape n) (right.level n))
  pub places : (n : NodeNo) → Good n → Rel Path Anything (looks (Cell.Place n) (left.place n)) (looks (Cell.Place n) (right.place n))
  pub wholes : (n : NodeNo) → Good n → Rel Value Anything (looks (Cell.Whole n) (left.whole n)) (looks (Cell.Whole n) (right.whole n))
  pub knowns : (m : ModelNo) (i : Ident) → Rel (Option NodeNo) (InFound Good) (looks (Cell.Known m i) (left.known m i)) (looks (Cell.Known m i) (right.known m i))

-- the two scopes
abbrev pub left_scope : Pairing → Scope
left_scope p = record { viewing = p.viewing; sight = p.left; ask = p.ask_left; here = p.here }

abbrev pub right_scope : Pairing → Scope
right_scope p = record { viewing = p.viewing; sight = p.right; ask = p.ask_right; here = p.here }
