-- What holds of evaluating.
use Rattle.std.specs.Prelude.{◌≡◌, ℕ, ◌+◌, ◌<◌, ◌≤◌, List, [], ◌∷◌, Bool, false, IsTrue, Option, Some, None, Err, IsOk}
use Rattle.snap_core.specs.Value.{Value}
use Rattle.snap_core.specs.declared.number.NodeNo.{NodeNo}
use Rattle.pointer_core.specs.declared.refusal.Rule.{Rule}
use Rattle.expr_syntax.specs.declared.number.ViewNo.{ViewNo}
use Rattle.expr_syntax.specs.declared.op.Op.{Op}
use Rattle.plain_ops.specs.Applied.{operated}
use Rattle.expr_syntax.specs.Syntax.{Expression}
use Rattle.eval_core.specs.declared.cell.Cell.{Cell}
use Rattle.eval_core.specs.declared.cell.Cell.TheVariants.{Prop, Shape, Place, Whole, Known}
use Rattle.eval_core.specs.Answer.{Answer, plain}
use Rattle.eval_core.specs.Sight.{Sight}
use Rattle.eval_core.specs.Run.{Run, Entered, most_expressions}
use Rattle.eval_core.specs.Scope.{Scope, Viewing, Env, judged}
use Rattle.eval_core.specs.Operating.{operated_on, bounded_outcome, as_plain}
use Rattle.eval_core.specs.Reading.{operate}
use Rattle.eval_core.specs.Evaluating.{evaluated}
use Rattle.eval_core.specs.Asking.{Asked, Stack, in_progress, site_of, asked, view_run, frame_scope, most_views}
use Rattle.eval_core.specs.Pairing.{InProp, InLevel, InFound, InEnv}

-- a fact of each cell that was read
abbrev pub EachCell : (Cell → Type 0) → List Cell → Type 0
EachCell Fact [] = Unit {0}
EachCell Fact (c ∷ cs) = Fact c × EachCell Fact cs

-- the nodes that are the same in two sights
abbrev pub IsSame : (NodeNo → Bool) → NodeNo → Type 0
IsSame same n = IsTrue (same n)

-- Two sights agree at a cell: they see the same there, and of the same nodes.
abbrev pub AgreeAt : (NodeNo → Bool) → Sight → Sight → Cell → Type 0
AgreeAt same a b (Prop n p) = (a.prop n p ≡ b.prop n p) × InProp (IsSame same) (a.prop n p)
AgreeAt same a b (Shape n) = (a.level n ≡ b.level n) × InLevel (IsSame same) (a.level n)
AgreeAt same a b (Place n) = a.place n ≡ b.place n
AgreeAt same a b (Whole n) = a.whole n ≡ b.whole n
AgreeAt same a b (Known m i) = (a.known m i ≡ b.known m i) × InFound (IsSame same) (a.known m i)

-- some nodes are the same in two sights, the root among them
pub record AreAlike (same : NodeNo → Bool) (a b : Sight) : Type 0 where
  pub root : a.root ≡ b.root
  pub root_same : IsTrue (same a.root)
  pub beings : (n : NodeNo) → IsTrue (same n) → a.being n ≡ b.being n

-- The whole run is the same over the other sight, where the two agree at each cell that it read: of a view that is asked
-- of a node, and of an expression in a statement or a condition.
pub record RunsAlike (viewing : Viewing) (same : NodeNo → Bool) (a b : Sight) : Type 0 where
  pub views : (room : ℕ) (stack : Stack) (n : NodeNo) (v : ViewNo) (before : ℕ) → IsTrue (same n)
      → EachCell (AgreeAt same a b) (asked viewing a room stack n v before).reads
      → asked viewing b room stack n v before ≡ asked viewing a room stack n v before
  pub expressions : (e : Expression) (env : Env) (before : ℕ) → InEnv (IsSame same) env
      → EachCell (AgreeAt same a b) (evaluated (frame_scope viewing a) e env before).reads
      → evaluated (frame_scope viewing b) e env before ≡ evaluated (frame_scope viewing a) e env before

abbrev pub SameCellsSameRun : Type 0
SameCellsSameRun = (viewing : Viewing) (same : NodeNo → Bool) (a b : Sight) → AreAlike same a b → RunsAlike viewing same a b

-- views in progress, the first one by itself, and room for so many more
pub record Progress : Type 0 where
  pub first : Asked
  pub others : Stack
  pub room : ℕ

abbrev pub stack_of : Progress → Stack
stack_of going = going.first ∷ going.others

-- none of the views whose bodies were entered is in progress
abbrev pub NoneGoing : Stack → List Entered → Type 0
NoneGoing stack [] = Unit {0}
NoneGoing stack (e ∷ es) = (in_progress (record { node = e.node; view = e.view }) stack ≡ false) × NoneGoing stack es

abbrev pub alone : Viewing → Sight → Asked → Run Answer
alone viewing sight q = view_run viewing sight q.node q.view 0

abbrev pub among : Viewing → Sight → Asked → Progress → Run Answer
among viewing sight q going = asked viewing sight going.room (stack_of going) q.node q.view 0

-- A view that ends well from nothing, asked while others are in progress: the same run where its height has room, and
-- otherwise too many views in progress, told of the first one.
pub record HeightTells (viewing : Viewing) (sight : Sight) (q : Asked) (going : Progress) : Type 0 where
  pub fits : (alone viewing sight q).height ≤ going.room → among viewing sight q going ≡ alone viewing sight q
  pub deep : going.room < (alone viewing sight q).height → (among viewing sight q going).outcome ≡ Err (record { rule = Rule.Deep; site = site_of going.first })

abbrev pub HeightTellsDeep : Type 0
HeightTellsDeep =
    (viewing : Viewing) (sight : Sight) (q : Asked) (going : Progress) → IsOk (alone viewing sight q).outcome
    → NoneGoing (stack_of going) (alone viewing sight q).entered → HeightTells viewing sight q going

-- each body that was entered counted at most as many expressions as a body may
abbrev pub EachWithin : List Entered → Type 0
EachWithin [] = Unit {0}
EachWithin (e ∷ es) = (e.own ≤ most_expressions) × EachWithin es

-- What a run comes to, after so many expressions of the same body and with room for so many views.
pub record IsWithin {A : Type 0} (room before : ℕ) (run : Run A) : Type 0 where
  pub counted : before ≤ most_expressions → before + run.own ≤ most_expressions
  pub high : run.height ≤ room
  pub each : EachWithin run.entered

-- no body, statement or condition counts more expressions than it may, and no more views are in progress than may be
pub record RunsStayWithin (viewing : Viewing) (sight : Sight) : Type 0 where
  pub views : (room : ℕ) (stack : Stack) (n : NodeNo) (v : ViewNo) (before : ℕ) → IsWithin room before (asked viewing sight room stack n v before)
  pub expressions : (e : Expression) (env : Env) (before : ℕ) → IsWithin most_views before (evaluated (frame_scope viewing sight) e env before)

abbrev pub AllStayWithin : Type 0
AllStayWithin = (viewing : Viewing) (sight : Sight) → RunsStayWithin viewing sight

-- A view that ends well while others are in progress does the same from nothing.
abbrev pub AmongIsAlone : Type 0
AmongIsAlone =
    (viewing : Viewing) (sight : Sight) (q : Asked) (room : ℕ) (stack : Stack) → room ≤ most_views
    → IsOk (asked viewing sight room stack q.node q.view 0).outcome → alone viewing sight q ≡ asked viewing sight room stack q.node q.view 0

-- the view of an entry of a trace
abbrev pub asked_in : Entered → Asked
asked_in e = record { node = e.node; view = e.view }

abbrev pub first_entered : List Entered → Option Entered
first_entered [] = None
first_entered (e ∷ es) = Some e

-- an entry of a trace is the one that its view has from nothing, where it ends well too
pub record IsItsOwn (viewing : Viewing) (sight : Sight) (e : Entered) : Type 0 where
  pub well : IsOk (alone viewing sight (asked_in e)).outcome
  pub own : first_entered (alone viewing sight (asked_in e)).entered ≡ Some e

abbrev pub EachItsOwn : Viewing → Sight → List Entered → Type 0
EachItsOwn viewing sight [] = Unit {0}
EachItsOwn viewing sight (e ∷ es) = IsItsOwn viewing sight e × EachItsOwn viewing sight es

-- In the trace of a view that ends well, a view counts the same wherever it is entered: what it counts from nothing.
abbrev pub TracesRepeat : Type 0
TracesRepeat =
    (viewing : Viewing) (sight : Sight) (q : Asked) → IsOk (alone viewing sight q).outcome → EachItsOwn viewing sight (alone viewing sight q).entered

-- On plain operands an operator reads nothing, and what it gives, tested as every result is, is what it gives on plain
-- values.
pub record OperatesPlainly (s : Scope) (op : Op) (v w : Value) : Type 0 where
  pub reads_nothing : operate s op (plain v) (plain w) ≡ judged s (operated_on op (plain v) (plain w))
  pub tested : bounded_outcome (operated_on op (plain v) (plain w)) ≡ as_plain (operated op v w)

abbrev pub PlainOperands : Type 0
PlainOperands = (s : Scope) (op : Op) (v w : Value) → OperatesPlainly s op v w
