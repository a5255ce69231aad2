-- Passing the middleware around an action.
use Rattle.std.proofs.Common.{◌≡◌, ℕ, List, [], ◌∷◌, Bool, true, false, ◌&&◌, Result, Ok, Err, refl, sym, ◌∙◌, ap, subst}
use Rattle.std.specs.Prelude.{is_err, IsErrAnd, if◌then◌else◌}
use Rattle.pointer_core.specs.Path.{Path}
use Rattle.snap_core.specs.declared.number.NodeNo.{NodeNo}
use Rattle.expr_syntax.specs.Syntax.{Expression}
use Rattle.live_tree.specs.Laws.{given_back}
use Rattle.tree_core.specs.State.{State as Tree}
use Rattle.view_engine.specs.declared.halt.RunError.{RunError}
use Rattle.action_core.specs.Act.{Act, all_or_nothing}
use Rattle.action_core.specs.Behaving.{Behaving}
use Rattle.action_core.specs.Calling.{guards, if_admitted}
use Rattle.action_steps.specs.Doing.{Point, point, Performs, back_at, IsRefusal}
use Rattle.pointer_core.specs.declared.refusal.Rule.TheVariants as rule
use Rattle.action_steps.proofs.Doing.{acts-then, acts-stop, acts-refuses, acts-kept, acts-taken-back}
use Rattle.action_core.specs.Calling.{around, surrounded}
use Rattle.action_core.specs.Layers.{Layer}
use Rattle.model_syntax.specs.declared.behaviour.Surrounded.{Surrounded}
use Rattle.model_syntax.specs.Shown.{ShownMiddleware, atomic, protect}
use Rattle.action_run.specs.Surrounding.{Done, left_at, Continues, Passes, Admits, guarded}

-- nothing is around what is inside
pub continues-alone : (inner : Act (Unit {0})) (a : Point) → Continues false inner inner a a
continues-alone inner a result c did = did

-- A condition that holds.

pub admitted-goes-on : (behaving : Behaving) (frame : Path) (n : NodeNo) (condition : Expression) (inner : Act (Unit {0})) (holds : Bool) (a b : Point) → holds ≡ true
    → Performs (λ (x : Bool). x) (Ok holds) (guards behaving frame n condition) a b → Continues false (guarded behaving frame n condition inner) inner a b
admitted-goes-on behaving frame n condition inner holds a b is did result c rest =
    acts-then (λ (x : Bool). x) (λ (u : Unit {0}). u) holds result (guards behaving frame n condition) (if_admitted frame inner) a b c did
    (subst (λ x. Performs {T = Unit {0}} (λ u. u) result (if_admitted frame inner x) b c) (sym is) rest)

pub not-admitted : (behaving : Behaving) (frame : Path) (n : NodeNo) (condition : Expression) (inner : Act (Unit {0})) (holds : Bool) (e : RunError) (a b : Point) → holds ≡ false
    → Performs (λ (x : Bool). x) (Ok holds) (guards behaving frame n condition) a b → IsRefusal e frame rule.Guarded
    → Performs {T = Unit {0}} (λ u. u) (Err e) (guarded behaving frame n condition inner) a b
not-admitted behaving frame n condition inner holds e a b is did refused =
    acts-then {T = Bool} {U = Unit {0}} (λ x. x) (λ u. u) holds (Err e) (guards behaving frame n condition) (if_admitted frame inner) a b b did
    (subst (λ x. Performs {T = Unit {0}} (λ u. u) (Err e) (if_admitted frame inner x) b b) (sym is) (acts-refuses {T = Unit {0}} (λ u. u) e frame rule.Guarded b refused))

pub condition-refused : (behaving : Behaving) (frame : Path) (n : NodeNo) (condition : Expression) (inner : Act (Unit {0})) (e : RunError) (a b : Point)
    → Performs {T = Bool} (λ x. x) (Err e) (guards behaving frame n condition) a b → Performs {T = Unit {0}} (λ u. u) (Err e) (guarded behaving frame n condition inner) a b
condition-refused behaving frame n condition inner e a b did =
    acts-stop {T = Bool} {U = Unit {0}} (λ x. x) (λ u. u) e (guards behaving frame n condition) (if_admitted frame inner) a b did

-- what ended one call is handed on
pub guard-handed : (behaving : Behaving) (frame : Path) (n : NodeNo) (condition : Expression) (inner : Act (Unit {0})) (e : RunError) (r : Done) (a b : Point)
    → IsErrAnd r (λ x. x ≡ e) → Performs {T = Unit {0}} (λ u. u) (Err e) (guarded behaving frame n condition inner) a b → Admits r behaving frame n condition inner a b
guard-handed behaving frame n condition inner e (Ok u) a b is did = absurd is
guard-handed behaving frame n condition inner e (Err other) a b is did =
    subst (λ h. Performs {T = Unit {0}} (λ u. u) (Err h) (guarded behaving frame n condition inner) a b) (sym is) did

-- What was passed, and then one middleware more.

-- a condition inside of what was passed
pub guard-passed : (so_far : Bool) (outer middle inner : Act (Unit {0})) (a b c : Point) → c.tree ≡ b.tree → Continues so_far outer middle a b → Continues false middle inner b c
    → Continues so_far outer inner a c
guard-passed so_far outer middle inner a b c same first next result d did =
    subst (λ (p : Point). Performs {T = Unit {0}} (λ u. u) result outer a p) (left_same so_far result) (first result d (next result d did))
  where
    left_same : (is_atomic : Bool) (r : Done) → left_at is_atomic r b d ≡ left_at is_atomic r c d
    left_same false r = refl
    left_same true (Ok u) = refl
    left_same true (Err e) = ap (λ t. point (given_back t d.tree) d.counted d.steps) (sym same)

-- an atomic middleware inside of what was passed
pub atomic-passed : (so_far : Bool) (outer inner : Act (Unit {0})) (a b : Point) → Continues so_far outer (all_or_nothing inner) a b → Continues true outer inner a b
atomic-passed so_far outer inner a b first (Ok u) d did =
    let k = first (Ok u) d (acts-kept (λ (w : Unit {0}). w) u inner b d did) in
    subst (λ (p : Point). Performs {T = Unit {0}} (λ w. w) (Ok u) outer a p) (left_ok so_far) k
  where
    left_ok : (x : Bool) → left_at x (Ok u) b d ≡ d
    left_ok false = refl
    left_ok true = refl
atomic-passed so_far outer inner a b first (Err e) d did =
    let k = first (Err e) (back_at b d) (acts-taken-back {T = Unit {0}} (λ w. w) e inner b d did) in
    subst (λ (p : Point). Performs {T = Unit {0}} (λ w. w) (Err e) outer a p) (left_err so_far) k
  where
    left_err : (x : Bool) → left_at x (Err e) b (back_at b d) ≡ back_at b d
    left_err false = refl
    left_err true = refl

-- The first of the middlewares that are left is passed.

opened : (behaving : Behaving) (frame : Path) (inner : Act (Unit {0})) (ls rest : List Layer) (l : Layer) (m : ShownMiddleware) → ls ≡ l ∷ rest → l.middleware ≡ m
    → surrounded behaving frame ls inner ≡ around behaving frame l.node m (surrounded behaving frame rest inner)
opened behaving frame inner ls rest l m first is =
    ap (λ xs. surrounded behaving frame xs inner) first ∙ ap (λ x. around behaving frame l.node x (surrounded behaving frame rest inner)) is

pub passed-atomic : (behaving : Behaving) (frame : Path) (so_far : Bool) (outer inner : Act (Unit {0})) (ls rest : List Layer) (l : Layer) (which : Surrounded) (a b : Point)
    → ls ≡ l ∷ rest → l.middleware ≡ atomic which → Continues so_far outer (surrounded behaving frame ls inner) a b → Continues true outer (surrounded behaving frame rest inner) a b
passed-atomic behaving frame so_far outer inner ls rest l which a b first is so =
    atomic-passed so_far outer (surrounded behaving frame rest inner) a b
    (subst (λ act. Continues so_far outer act a b) (opened behaving frame inner ls rest l (atomic which) first is) so)

pub passed-guard : (behaving : Behaving) (frame : Path) (so_far : Bool) (outer inner : Act (Unit {0})) (ls rest : List Layer) (l : Layer) (which : Surrounded) (condition : Expression) (a b c : Point)
    → ls ≡ l ∷ rest → l.middleware ≡ protect which condition → c.tree ≡ b.tree → Continues so_far outer (surrounded behaving frame ls inner) a b
    → Continues false (guarded behaving frame l.node condition (surrounded behaving frame rest inner)) (surrounded behaving frame rest inner) b c
    → Continues so_far outer (surrounded behaving frame rest inner) a c
passed-guard behaving frame so_far outer inner ls rest l which condition a b c first is same so next =
    guard-passed so_far outer (guarded behaving frame l.node condition (surrounded behaving frame rest inner)) (surrounded behaving frame rest inner) a b c same
    (subst (λ act. Continues so_far outer act a b) (opened behaving frame inner ls rest l (protect which condition) first is) so) next

pub passed-all : (behaving : Behaving) (frame : Path) (so_far : Bool) (outer inner : Act (Unit {0})) (ls : List Layer) (a b : Point) → ls ≡ []
    → Continues so_far outer (surrounded behaving frame ls inner) a b → Continues so_far outer inner a b
passed-all behaving frame so_far outer inner ls a b none so = subst (λ xs. Continues so_far outer (surrounded behaving frame xs inner) a b) none so

same-left : (so_far : Bool) (r : Done) (b c : Point) → c.tree ≡ b.tree → left_at so_far r b c ≡ c
same-left false r b c same = refl
same-left true (Ok u) b c same = refl
same-left true (Err e) b c same = ap (λ t. point (given_back t c.tree) c.counted c.steps) (sym same)

pub passed-refused : (behaving : Behaving) (frame : Path) (so_far : Bool) (outer inner : Act (Unit {0})) (ls rest : List Layer) (l : Layer) (which : Surrounded) (condition : Expression) (e : RunError) (a b c : Point)
    → ls ≡ l ∷ rest → l.middleware ≡ protect which condition → c.tree ≡ b.tree → Continues so_far outer (surrounded behaving frame ls inner) a b
    → Performs {T = Unit {0}} (λ u. u) (Err e) (guarded behaving frame l.node condition (surrounded behaving frame rest inner)) b c
    → Performs {T = Unit {0}} (λ u. u) (Err e) outer a c
passed-refused behaving frame so_far outer inner ls rest l which condition e a b c first is same so did =
    subst (λ (p : Point). Performs {T = Unit {0}} (λ u. u) (Err e) outer a p) (same-left so_far (Err e) b c same)
    (subst (λ act. Continues so_far outer act a b) (opened behaving frame inner ls rest l (protect which condition) first is) so (Err e) c did)

pub passes-handed : (outer inner : Act (Unit {0})) (e : RunError) (r : Result Bool RunError) (a b : Point) → IsErrAnd r (λ x. x ≡ e)
    → Performs {T = Unit {0}} (λ u. u) (Err e) outer a b → Passes r outer inner a b
passes-handed outer inner e (Ok x) a b is did = absurd is
passes-handed outer inner e (Err other) a b is did = subst (λ h. Performs {T = Unit {0}} (λ u. u) (Err h) outer a b) (sym is) did

pub and-true : (x y : Bool) → x ≡ true → y ≡ true → x && y ≡ true
and-true true y h k = k
and-true false y h k = cc

pub and-false-left : (x y : Bool) → x ≡ false → x && y ≡ false
and-false-left false y h = refl
and-false-left true y h = cc

pub and-false-right : (x y : Bool) → y ≡ false → x && y ≡ false
and-false-right true y h = h
and-false-right false y h = refl

pub continues-at : (x y : Bool) (n m counted : ℕ) (tree : Tree) (outer inner : Act (Unit {0})) (a : Point) → x ≡ y → n ≡ m
    → Continues y outer inner a (point tree counted m) → Continues x outer inner a (point tree counted n)
continues-at x y n m counted tree outer inner a is same so =
    subst (λ (k : ℕ). Continues x outer inner a (point tree counted k)) (sym same) (subst (λ z. Continues z outer inner a (point tree counted m)) (sym is) so)

-- A body within its middleware, and then the tree of before, where one of it is atomic.

pub surround-stays : (so_far : Bool) (outer inner : Act (Unit {0})) (r : Done) (a b c : Point) → so_far && is_err r ≡ false → Continues so_far outer inner a b
    → Performs (λ u. u) r inner b c → Performs (λ u. u) r outer a c
surround-stays so_far outer inner r a b c stays so did =
    subst (λ (p : Point). Performs {T = Unit {0}} (λ u. u) r outer a p) (ap (λ x. if x then back_at b c else c) stays) (so r c did)

pub surround-back : (so_far : Bool) (outer inner : Act (Unit {0})) (r : Done) (a b c d : Point) → so_far && is_err r ≡ true → d ≡ back_at b c → Continues so_far outer inner a b
    → Performs (λ u. u) r inner b c → Performs (λ u. u) r outer a d
surround-back so_far outer inner r a b c d backs is so did =
    subst (λ (p : Point). Performs {T = Unit {0}} (λ u. u) r outer a p) (ap (λ x. if x then back_at b c else c) backs ∙ sym is) (so r c did)
