-- Calls, and blocks that are tried.
use Rattle.std.proofs.Common.{◌≡◌, ℕ, zero, suc, ◌≤◌, List, [], ◌∷◌, Bool, true, false, not, Result, Ok, Err, refl, sym, ap, subst, arith}
use Rattle.std.specs.Prelude.{IsErrAnd, if◌then◌else◌}
use Rattle.snap_core.specs.declared.number.NodeNo.{NodeNo}
use Rattle.pointer_core.specs.Path.{Path}
use Rattle.pointer_core.specs.declared.refusal.Rule.TheVariants as rule
use Rattle.type_core.specs.Making.{Outcome}
use Rattle.type_core.specs.Made.{refused_as}
use Rattle.expr_syntax.specs.declared.stmt.Stmt.{Stmt}
use Rattle.expr_syntax.specs.ShownStatements.{stmt_shown}
use Rattle.expr_syntax.specs.Syntax.{Statement, Statements}
use Rattle.live_tree.specs.Laws.{CanBeTakenBack}
use Rattle.live_tree.proofs.TakenBack.{kept-same}
use Rattle.eval_core.specs.Scope.{Env}
use Rattle.view_engine.specs.declared.halt.RunError.{RunError}
use Rattle.view_engine.specs.declared.halt.RunError.TheVariants as halts
use Rattle.action_core.specs.Act.{Ran, Act, tells, looks, refuses, or_else}
use Rattle.action_core.specs.Behaving.{Acting, Behaving, Running, Callee}
use Rattle.action_core.specs.Beginning.{Begun, begun_by}
use Rattle.action_core.specs.Calling.{called, surrounded}
use Rattle.action_core.specs.Layers.{Layer, layers_of}
use Rattle.action_core.specs.Running.{ran, ran_block, is_budget, rescues}
use Rattle.action_steps.specs.Doing.{Point, Came, Performs, IsOutcome, IsRefusal}
use Rattle.action_steps.proofs.Doing.{acts-then, acts-stop, acts-tells, acts-looks, acts-refuses, acts-memory, acts-tried, acts-rescued}
use Rattle.action_steps.specs.Acting.{begun_of, Begins}
use Rattle.action_steps.specs.declared.beginning.Begun as begins
use Rattle.action_run.specs.Running.{Runs, Costs}
use Rattle.action_run.specs.Surrounding.{Done, is_rescued, running_by}

-- want of memory, handed on
pub acts-out : {T A : Type 0} (seen : T → A) (r : Result T RunError) (act : Act A) (a b : Point) → IsErrAnd r (λ x. x ≡ halts.Memory) → CanBeTakenBack a.tree b.tree → a.counted ≤ b.counted
    → Performs seen r act a b
acts-out seen (Ok x) act a b is back rises = absurd is
acts-out {T} seen (Err e) act a b is back rises = acts-memory {T = T} seen e act a b is back rises

pub acts-out-at : {T A : Type 0} (seen : T → A) (r : Result T RunError) (act : Act A) (p : Point) → IsErrAnd r (λ x. x ≡ halts.Memory) → Performs seen r act p p
acts-out-at seen r act p is = acts-out seen r act p p is (kept-same p.tree p.tree refl) (omega arith)

-- a statement by what it shows
pub as-shown : {T : Type 0} (seen : T → Env) (r : Result T RunError) (by : Acting) (st : Statement) (x : Stmt) (env : Env) (a b : Point) → stmt_shown x ≡ st
    → Performs seen r (ran by st env) a b → Performs seen r (ran by (stmt_shown x) env) a b
as-shown seen r by st x env a b is did = subst (λ s. Performs seen r (ran by s env) a b) (sym is) did

-- Blocks that are tried.

pub tried-again : (first second : Act (Unit {0})) (tried r : Done) (a b c : Point) → is_rescued tried ≡ true → Performs (λ u. u) tried first a b → Performs (λ u. u) r second b c
    → Performs (λ u. u) r (or_else (rescues second) first) a c
tried-again first second (Ok u) r a b c is did again = cc
tried-again first second (Err halts.Memory) r a b c is did again = cc
tried-again first second (Err (halts.Refused e)) r a b c is did again =
    acts-rescued {T = Unit {0}} {U = Unit {0}} (λ u. u) (λ u. u) e r (rescues second) first a b c did
    (subst (λ act. Performs {T = Unit {0}} (λ u. u) r act b c) (sym (spared (is_budget e.rule) is)) again)
  where
    spared : (by : Bool) → not by ≡ true → (if by then tells (Err (refused_as e)) else second) ≡ second
    spared true h = cc
    spared false h = refl

pub tried-once : (first second : Act (Unit {0})) (tried : Done) (a b : Point) → is_rescued tried ≡ false → Performs (λ u. u) tried first a b
    → Performs (λ u. u) tried (or_else (rescues second) first) a b
tried-once first second (Ok u) a b is did = acts-tried (λ (w : Unit {0}). w) u (rescues second) first a b did
tried-once first second (Err halts.Memory) a b is did = acts-memory {T = Unit {0}} (λ u. u) halts.Memory (or_else (rescues second) first) a b refl did.back did.rises
tried-once first second (Err (halts.Refused e)) a b is did =
    acts-rescued {T = Unit {0}} {U = Unit {0}} (λ u. u) (λ u. u) e (Err (halts.Refused e)) (rescues second) first a b b did
    (subst (λ act. Performs {T = Unit {0}} (λ u. u) (Err (halts.Refused e)) act b b) (sym (over (is_budget e.rule) is)) (acts-tells {T = Unit {0}} (λ u. u) (Err (halts.Refused e)) (Err (refused_as e)) b refl))
  where
    over : (by : Bool) → not by ≡ false → (if by then tells (Err (refused_as e)) else second) ≡ tells (Err (refused_as e))
    over true h = refl
    over false h = cc

-- Calls.

-- what an action begins with, as what is told of it
pub begins-outcome : (r : Result begins.Begun RunError) (o : Outcome Begun) → Begins r o → IsOutcome begun_of r o
begins-outcome (Ok b) o h = h
begins-outcome (Err (halts.Refused e)) o h = h
begins-outcome (Err halts.Memory) o h = h

pub call-unbegun : {T : Type 0} (seen : T → Begun) (behaving : Behaving) (room : ℕ) (running : Running) (callee : Callee) (e : RunError) (p : Point)
    → IsOutcome seen (Err e) (begun_by behaving running.frame callee p.tree.tree) → Performs {T = Unit {0}} (λ u. u) (Err e) (called behaving room running callee) p p
call-unbegun {T} seen behaving zero running callee e p is =
    acts-stop {T = T} {U = Unit {0}} seen (λ u. u) e (looks (begun_by behaving running.frame callee)) _ p p (acts-looks {T = T} seen (Err e) (begun_by behaving running.frame callee) p is)
call-unbegun {T} seen behaving (suc room) running callee e p is =
    acts-stop {T = T} {U = Unit {0}} seen (λ u. u) e (looks (begun_by behaving running.frame callee)) _ p p (acts-looks {T = T} seen (Err e) (begun_by behaving running.frame callee) p is)

pub call-crowded : {T : Type 0} (seen : T → Begun) (behaving : Behaving) (room : ℕ) (running : Running) (callee : Callee) (x : T) (e : RunError) (p : Point) → room ≡ 0
    → IsOutcome seen (Ok x) (begun_by behaving running.frame callee p.tree.tree) → IsRefusal e (seen x).frame rule.Calls
    → Performs {T = Unit {0}} (λ u. u) (Err e) (called behaving room running callee) p p
call-crowded seen behaving (suc room) running callee x e p none is refused = absurd (omega (arith, none))
call-crowded {T} seen behaving zero running callee x e p none is refused =
    acts-then {U = Unit {0}} seen (λ u. u) x (Err e) (looks (begun_by behaving running.frame callee)) (λ begun. refuses begun.frame rule.Calls) p p p
    (acts-looks seen (Ok x) (begun_by behaving running.frame callee) p is) (acts-refuses {T = Unit {0}} (λ u. u) e (seen x).frame rule.Calls p refused)

pub call-begun : {T : Type 0} (seen : T → Begun) (behaving : Behaving) (room less : ℕ) (running : Running) (callee : Callee) (x : T) (layers : List Layer) (nodes : List NodeNo) (r : Done) (p q : Point)
    → room ≡ suc less → IsOutcome seen (Ok x) (begun_by behaving running.frame callee p.tree.tree) → layers ≡ layers_of behaving callee p.tree.tree → nodes ≡ callee.node ∷ running.nodes
    → Performs (λ u. u) r (surrounded behaving (seen x).frame layers (ran_block (running_by behaving less nodes (seen x).frame) (seen x).body (seen x).env)) p q
    → Performs (λ u. u) r (called behaving room running callee) p q
call-begun {T} seen behaving room less running callee x layers nodes r p q is begun around same did =
    subst (λ n. Performs {T = Unit {0}} (λ u. u) r (called behaving n running callee) p q) (sym is)
    (acts-then {U = Unit {0}} seen (λ u. u) x r (looks (begun_by behaving running.frame callee)) _ p p q (acts-looks seen (Ok x) (begun_by behaving running.frame callee) p begun)
    (acts-then {T = List Layer} {U = Unit {0}} (λ ls. ls) (λ u. u) layers r (looks (λ root. Ok (layers_of behaving callee root))) _ p p q
    (acts-looks {T = List Layer} (λ ls. ls) (Ok layers) (λ root. Ok (layers_of behaving callee root)) p (ap Ok (sym around)))
    (subst (λ ns. Performs {T = Unit {0}} (λ u. u) r (surrounded behaving (seen x).frame layers (ran_block (running_by behaving less ns (seen x).frame) (seen x).body (seen x).env)) p q) same did)))

pub begun-as : (behaving within : Behaving) (layers : List Layer) (frame other : Path) (by inside : Acting) (body rest : Statements) (env names : Env) (r : Done) (p q : Point)
    → within ≡ behaving → other ≡ frame → inside ≡ by → rest ≡ body → names ≡ env
    → Performs (λ u. u) r (surrounded within other layers (ran_block inside rest names)) p q
    → Performs (λ u. u) r (surrounded behaving frame layers (ran_block by body env)) p q
begun-as behaving within layers frame other by inside body rest env names r p q w a i b c did =
    subst (λ (x : Behaving). Performs {T = Unit {0}} (λ u. u) r (surrounded x frame layers (ran_block by body env)) p q) w
    (subst (λ (path : Path). Performs {T = Unit {0}} (λ u. u) r (surrounded within path layers (ran_block by body env)) p q) a
    (subst (λ (x : Acting). Performs {T = Unit {0}} (λ u. u) r (surrounded within other layers (ran_block x body env)) p q) i
    (subst (λ (sts : Statements). Performs {T = Unit {0}} (λ u. u) r (surrounded within other layers (ran_block inside sts env)) p q) b
    (subst (λ (bound : Env). Performs {T = Unit {0}} (λ u. u) r (surrounded within other layers (ran_block inside rest bound)) p q) c did))))

pub no-room : (n : ℕ) → (1 ≤ n → ⊥) → n ≡ 0
no-room zero h = refl
no-room (suc n) h = absurd (h (omega arith))

-- An action that a request calls.

pub called-in : (behaving : Behaving) (room : ℕ) (frame : Path) (callee : Callee) (r : Done) (a b : Point) → frame ≡ []
    → Performs (λ u. u) r (called behaving room (record { nodes = []; frame = frame }) callee) a b → Performs (λ u. u) r (called behaving room (record { nodes = []; frame = [] }) callee) a b
called-in behaving room frame callee r a b is did =
    subst (λ (path : Path). Performs {T = Unit {0}} (λ u. u) r (called behaving room (record { nodes = []; frame = path }) callee) a b) is did

pub ran-runs : (r : Done) (ran : Ran (Unit {0})) (before : ℕ) (a b : Point) → Came (λ u. u) r ran before a b → Runs r ran b.tree
ran-runs (Ok tt) ran before a b h = (h.0, h.1.tree)
ran-runs (Err (halts.Refused e)) ran before a b h = (h.0, h.1.tree)
ran-runs (Err halts.Memory) ran before a b h = tt

pub ran-costs : (r : Done) (ran : Ran (Unit {0})) (a b : Point) → Came (λ u. u) r ran 0 a b → Costs r ran a.steps b.steps
ran-costs (Ok tt) ran a b h = let k = h.1.ticks in omega (arith, k)
ran-costs (Err (halts.Refused e)) ran a b h = let k = h.1.ticks in omega (arith, k)
ran-costs (Err halts.Memory) ran a b h = tt
