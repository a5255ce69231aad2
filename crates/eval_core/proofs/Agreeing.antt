-- Where two sights agree at each cell that was read, the whole run is the same.
use Rattle.std.proofs.Common.{◌≡◌, ℕ, zero, suc, ◌+◌, List, [], ◌∷◌, ◌++◌, Bool, true, false, Option, Some, None, Result, Ok, Err, refl, sym, ap, subst}
use Rattle.std.specs.Prelude.{IfOk, codes}
use Rattle.snap_core.specs.Value.{Value}
use Rattle.snap_core.specs.declared.number.NodeNo.{NodeNo}
use Rattle.pointer_core.specs.Path.{Path}
use Rattle.pointer_core.specs.declared.refusal.Rule.{Rule}
use Rattle.expr_syntax.specs.declared.number.ViewNo.{ViewNo}
use Rattle.expr_syntax.specs.Syntax.{Expression}
use Rattle.eval_core.specs.declared.cell.Cell.{Cell}
use Rattle.eval_core.specs.declared.site.Site.{Site}
use Rattle.eval_core.specs.Answer.{Answer, node}
use Rattle.eval_core.specs.Sight.{Sight, Being, Held, Entry}
use Rattle.eval_core.specs.Run.{Run, Eval, Fault, lift, looks, counts, joined, ended, continued, andthen, enters}
use Rattle.eval_core.specs.Scope.{Viewing, Env, refused_at}
use Rattle.eval_core.specs.Evaluating.{evaluated}
use Rattle.eval_core.specs.Asking.{Asked, Stack, in_progress, site_of, first_asked, unless_cycle, unless_dead, bound_at, asked, most_views, view_run}
use Rattle.eval_core.specs.Pairing.{Pairing, InAnswer, InProp, InLevel, InFound, InEnv, Anything}
use Rattle.eval_core.specs.Laws.{EachCell, IsSame, AgreeAt, AreAlike, RunsAlike}
use Rattle.eval_core.proofs.Evaluations.{evaluating}

-- what is read first, and what is read then
each-front : (Fact : Cell → Type 0) (xs ys : List Cell) → EachCell Fact (xs ++ ys) → EachCell Fact xs
each-front Fact [] ys h = tt
each-front Fact (c ∷ cs) ys h = (h.0, each-front Fact cs ys h.1)

each-back : (Fact : Cell → Type 0) (xs ys : List Cell) → EachCell Fact (xs ++ ys) → EachCell Fact ys
each-back Fact [] ys h = h
each-back Fact (c ∷ cs) ys h = each-back Fact cs ys h.1

-- a run is the same as another one, and of what it gives a fact holds
abbrev IsThat : {A : Type 0} → (A → Type 0) → Run A → Run A → Type 0
IsThat P run other = (other ≡ run) × IfOk run.outcome P

-- the same run, where each cell that it read is of a kind
abbrev SameWhere : (Cell → Type 0) → (A : Type 0) → (A → Type 0) → Eval A → Eval A → Type 0
SameWhere Fact A P e f = (before : ℕ) → EachCell Fact (e before).reads → IsThat P (e before) (f before)

lift-same : (Fact : Cell → Type 0) (A : Type 0) (P : A → Type 0) (outcome : Result A Fault) → IfOk outcome P → SameWhere Fact A P (lift outcome) (lift outcome)
unfolding lift
lift-same Fact A P outcome h before cells = (refl, h)

looks-same : (Fact : Cell → Type 0) (A : Type 0) (P : A → Type 0) (c : Cell) (x y : A) → (Fact c → (x ≡ y) × P x) → SameWhere Fact A P (looks c x) (looks c y)
unfolding looks
looks-same Fact A P c x y h before cells =
    let (same, fine) = h cells.0 in (ap (λ z. looks c z before) (sym same), fine)

anything : {A : Type 0} (o : Result A Fault) → IfOk o Anything
anything (Ok x) = tt
anything (Err fault) = tt

counts-same : (Fact : Cell → Type 0) (site : Site) → SameWhere Fact (Unit {0}) Anything (counts site) (counts site)
counts-same Fact site before cells = (refl, anything (counts site before).outcome)

-- what is read first is among what is read
first-cells : (Fact : Cell → Type 0) (A B : Type 0) (run : Run A) (k : A → Run B) (o : Result A Fault) → EachCell Fact (continued run k o).reads → EachCell Fact run.reads
unfolding joined ended
first-cells Fact A B run k (Ok x) h = each-front Fact run.reads (k x).reads h
first-cells Fact A B run k (Err fault) h = h

continued-same : (Fact : Cell → Type 0) (A B : Type 0) (P : A → Type 0) (Q : B → Type 0) (run : Run A) (k l : A → Run B) (o : Result A Fault)
    → IfOk o P → ((x : A) → P x → EachCell Fact (k x).reads → IsThat Q (k x) (l x)) → EachCell Fact (continued run k o).reads
    → IsThat Q (continued run k o) (continued run l o)
unfolding joined ended
continued-same Fact A B P Q run k l (Ok x) fine h cells =
    let (same, good) = h x fine (each-back Fact run.reads (k x).reads cells) in
    (ap (joined run) same, good)
continued-same Fact A B P Q run k l (Err fault) fine h cells = (refl, tt)

thens-same : (Fact : Cell → Type 0) (A B : Type 0) (P : A → Type 0) (Q : B → Type 0) (e f : Eval A) (next then_next : A → Eval B)
    → SameWhere Fact A P e f → ((x : A) → P x → SameWhere Fact B Q (next x) (then_next x)) → SameWhere Fact B Q (andthen e next) (andthen f then_next)
unfolding andthen
thens-same Fact A B P Q e f next then_next h k before cells =
    let run : Run A = e before in
    let (same, fine) = h before (first-cells Fact A B run (λ x. next x (before + run.own)) run.outcome cells) in
    let Family : Run A → Type 0 = λ other.
    IsThat Q (continued run (λ x. next x (before + run.own)) run.outcome) (continued other (λ x. then_next x (before + other.own)) other.outcome) in
    subst Family (sym same)
    (continued-same Fact A B P Q run (λ x. next x (before + run.own)) (λ x. then_next x (before + run.own)) run.outcome fine (λ x good. k x good (before + run.own)) cells)

enters-same : (Fact : Cell → Type 0) (P : Answer → Type 0) (n : NodeNo) (v : ViewNo) (e f : Eval Answer) → SameWhere Fact Answer P e f
    → SameWhere Fact Answer P (enters n v e) (enters n v f)
unfolding enters
enters-same Fact P n v e f h before cells =
    let (same, fine) = h 0 cells in
    (ap (λ (run : Run Answer). enters n v (λ _. run) before) same, fine)

-- two sights in which some nodes are the same
pub record Sides : Type 0 where
  pub viewing : Viewing
  pub same : NodeNo → Bool
  pub left : Sight
  pub right : Sight
  pub alike : AreAlike same left right

abbrev Agree : Sides → Cell → Type 0
Agree s = AgreeAt s.same s.left s.right

-- two ways to ask views that lead to the same run
abbrev AskAlike : Sides → (NodeNo → ViewNo → Eval Answer) → (NodeNo → ViewNo → Eval Answer) → Type 0
AskAlike s ask other = (n : NodeNo) (v : ViewNo) → IsSame s.same n → SameWhere (Agree s) Answer (InAnswer (IsSame s.same)) (ask n v) (other n v)

abbrev pairing : (s : Sides) (here : Site) (ask other : NodeNo → ViewNo → Eval Answer) → AskAlike s ask other → Pairing
pairing s here ask other asks = record {
  viewing = s.viewing;
  left = s.left;
  right = s.right;
  ask_left = ask;
  ask_right = other;
  here = here;
  Good = IsSame s.same;
  Rel = SameWhere (Agree s);
  beings = s.alike.beings;
  lifts = lift-same (Agree s);
  thens = thens-same (Agree s);
  counting = counts-same (Agree s) here;
  asks = asks;
  props = λ n p good. looks-same (Agree s) (Option Held) (InProp (IsSame s.same)) (Cell.Prop n p) (s.left.prop n p) (s.right.prop n p) (λ agree. agree);
  levels = λ n good. looks-same (Agree s) (List Entry) (InLevel (IsSame s.same)) (Cell.Shape n) (s.left.level n) (s.right.level n) (λ agree. agree);
  places = λ n good. looks-same (Agree s) Path Anything (Cell.Place n) (s.left.place n) (s.right.place n) (λ agree. (agree, tt));
  wholes = λ n good. looks-same (Agree s) Value Anything (Cell.Whole n) (s.left.whole n) (s.right.whole n) (λ agree. (agree, tt));
  knowns = λ m i. looks-same (Agree s) (Option NodeNo) (InFound (IsSame s.same)) (Cell.Known m i) (s.left.known m i) (s.right.known m i) (λ agree. agree);
}

abbrev Alike : Sides → Eval Answer → Eval Answer → Type 0
Alike s e f = SameWhere (Agree s) Answer (InAnswer (IsSame s.same)) e f

refused-alike : (s : Sides) (site : Site) (rule : Rule) → Alike s (refused_at site rule) (refused_at site rule)
refused-alike s site rule = lift-same (Agree s) Answer (InAnswer (IsSame s.same)) (Err (record { rule = rule; site = site })) tt

cycle-alike : (s : Sides) (q : Asked) (going : Bool) (e f : Eval Answer) → Alike s e f → Alike s (unless_cycle q going e) (unless_cycle q going f)
cycle-alike s q true e f h = refused-alike s (site_of q) Rule.Cycle
cycle-alike s q false e f h = h

dead-alike : (s : Sides) (being : Option Being) (e f : Eval Answer) → Alike s e f → Alike s (unless_dead being e) (unless_dead being f)
dead-alike s None e f h = refused-alike s Site.Frame Rule.Dead
dead-alike s (Some being) e f h = h

node-alike : (s : Sides) (n : NodeNo) (e f : Eval Answer) → IsSame s.same n → Alike s e f → Alike s (unless_dead (s.left.being n) e) (unless_dead (s.right.being n) f)
node-alike s n e f good h =
    let Family : Option Being → Type 0 = λ being. Alike s (unless_dead (s.left.being n) e) (unless_dead being f) in
    subst Family (s.alike.beings n good) (dead-alike s (s.left.being n) e f h)

-- what is bound in a body
bound-alike : (s : Sides) (n : NodeNo) → IsSame s.same n → InEnv (IsSame s.same) (bound_at s.left n)
bound-alike s n good = (good, (s.alike.root_same, tt))

body-alike : (s : Sides) (here : Site) (e : Expression) (n : NodeNo) (ask other : NodeNo → ViewNo → Eval Answer) → IsSame s.same n → AskAlike s ask other
    → Alike s (evaluated (record { viewing = s.viewing; sight = s.left; ask = ask; here = here }) e (bound_at s.left n))
    (evaluated (record { viewing = s.viewing; sight = s.right; ask = other; here = here }) e (bound_at s.right n))
body-alike s here e n ask other good asks =
    let bound : NodeNo → Env = λ root. (codes "self", node n) ∷ (codes "root", node root) ∷ [] in
    let Family : NodeNo → Type 0 = λ root.
    Alike s (evaluated (record { viewing = s.viewing; sight = s.left; ask = ask; here = here }) e (bound_at s.left n))
    (evaluated (record { viewing = s.viewing; sight = s.right; ask = other; here = here }) e (bound root)) in
    subst Family s.alike.root (evaluating (pairing s here ask other asks) e (bound_at s.left n) (bound-alike s n good))

pub asked-alike : (s : Sides) (room : ℕ) (stack : Stack) → AskAlike s (asked s.viewing s.left room stack) (asked s.viewing s.right room stack)
asked-alike s zero stack n v good =
    let q : Asked = record { node = n; view = v } in
    node-alike s n _ _ good (cycle-alike s q (in_progress q stack) _ _ (refused-alike s (site_of (first_asked stack q)) Rule.Deep))
asked-alike s (suc room) stack n v good =
    let q : Asked = record { node = n; view = v } in
    node-alike s n _ _ good
    (cycle-alike s q (in_progress q stack) _ _
    (enters-same (Agree s) (InAnswer (IsSame s.same)) n v _ _
    (body-alike s (site_of q) (s.viewing.body_of v) n _ _ good (asked-alike s room (stack ++ q ∷ [])))))

pub runs-alike : (viewing : Viewing) (same : NodeNo → Bool) (a b : Sight) → AreAlike same a b → RunsAlike viewing same a b
runs-alike viewing same a b alike =
    let s : Sides = record { viewing = viewing; same = same; left = a; right = b; alike = alike } in
    record {
      views = λ room stack n v before good cells. (asked-alike s room stack n v good before cells).0;
      expressions = λ e env before good cells.
          (evaluating (pairing s Site.Frame (view_run viewing a) (view_run viewing b) (asked-alike s most_views [])) e env good before cells).0;
    }
