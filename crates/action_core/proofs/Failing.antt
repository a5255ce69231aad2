-- A refused action that an atomic middleware surrounds.
use Rattle.std.proofs.Common.{◌≡◌, zero, suc, List, [], ◌∷◌, Bool, true, false, ◌||◌, Ok, Err, refl, subst, ◌∙◌}
use Rattle.std.specs.Prelude.{IsErr, IsTrue}
use Rattle.snap_core.specs.declared.number.NodeNo.{NodeNo}
use Rattle.pointer_core.specs.Path.{Path}
use Rattle.pointer_core.specs.declared.refusal.Rule.{Rule}
use Rattle.pointer_core.specs.declared.refusal.Rule.TheVariants as rule
use Rattle.type_core.specs.Making.{Outcome}
use Rattle.expr_syntax.specs.Syntax.{Expression}
use Rattle.model_syntax.specs.Shown.{ShownMiddleware, atomic, protect}
use Rattle.action_core.specs.Act.{State, Ran, Act, root_of, tells, refuses, looks, continued, ◌>>=◌, back_if_refused, all_or_nothing}
use Rattle.action_core.specs.Behaving.{Behaving, evaluates}
use Rattle.action_core.specs.Layers.{Layer, layers_of}
use Rattle.action_core.specs.Beginning.{Begun, begun_by}
use Rattle.action_core.specs.Calling.{guards, if_admitted, around, surrounded, body_run, called}
use Rattle.action_core.specs.Laws.{IsAsBefore, is_atomic, HasAtomic, FailedAtomicsLeaveAll}

itself : (s : State) → IsAsBefore s s
itself s = record { snapshot = refl; kept = refl }

-- where it ends refused, the tree is as it was
abbrev FailsBack : {A : Type 0} → State → Ran A → Type 0
FailsBack s ran = IsErr ran.outcome → IsAsBefore s ran.state

abbrev IsFalsely : Bool → Type 0
IsFalsely true = ⊥
IsFalsely false = Unit {0}

not_so : false ≡ true → ⊥
not_so e = subst IsFalsely e tt

refused_back : {A : Type 0} (s now : State) (o : Outcome A) → FailsBack s (back_if_refused s.tree now o)
refused_back s now (Ok x) h = absurd (not_so h)
refused_back s now (Err e) h = record { snapshot = refl; kept = refl }

taking_back : {A : Type 0} (act : Act A) (s : State) → FailsBack s (all_or_nothing act s)
unfolding all_or_nothing
taking_back act s = refused_back s (act s).state (act s).outcome

-- a guard leaves the tree, and what it admits takes back its own writes
refusing : (path : Path) (r : Rule) (s now : State) → IsAsBefore s now → FailsBack s (refuses {A = Unit {0}} path r now)
unfolding tells
refusing path r s now h e = h

admitting : (frame : Path) (inner : Act (Unit {0})) (s now : State) → ((s : State) → FailsBack s (inner s)) → IsAsBefore s now → (b : Bool)
    → FailsBack s (if_admitted frame inner b now)
admitting frame inner s now h as_before true e =
    let inside = h now e in record { snapshot = inside.snapshot ∙ as_before.snapshot; kept = inside.kept ∙ as_before.kept }
admitting frame inner s now h as_before false e = refusing frame rule.Guarded s now as_before e

going_on : {A : Type 0} (s now : State) (next : A → Act (Unit {0})) (o : Outcome A) → IsAsBefore s now → ((x : A) → FailsBack s (next x now))
    → FailsBack s (continued now next o)
going_on s now next (Ok x) as_before h e = h x e
going_on s now next (Err r) as_before h e = as_before

guarding : (behaving : Behaving) (frame : Path) (n : NodeNo) (condition : Expression) (s : State) → IsAsBefore s (guards behaving frame n condition s).state
unfolding evaluates
guarding behaving frame n condition s = record { snapshot = refl; kept = refl }

guarded : (behaving : Behaving) (frame : Path) (n : NodeNo) (condition : Expression) (inner : Act (Unit {0})) → ((s : State) → FailsBack s (inner s))
    → (s : State) → FailsBack s ((guards behaving frame n condition >>= if_admitted frame inner) s)
unfolding ◌>>=◌
guarded behaving frame n condition inner h s =
    let run = guards behaving frame n condition s in
    going_on s run.state (if_admitted frame inner) run.outcome (guarding behaving frame n condition s)
    (admitting frame inner s run.state h (guarding behaving frame n condition s))

layered : (behaving : Behaving) (frame : Path) (n : NodeNo) (m : ShownMiddleware) (inner : Act (Unit {0})) → ((s : State) → FailsBack s (inner s))
    → (s : State) → FailsBack s (around behaving frame n m inner s)
layered behaving frame n (atomic which) inner h s = taking_back inner s
layered behaving frame n (protect which condition) inner h s = guarded behaving frame n condition inner h s

-- the outermost middleware that is atomic, or one below a guard
by_first : (behaving : Behaving) (frame : Path) (n : NodeNo) (m : ShownMiddleware) (inner : Act (Unit {0})) (later : Bool)
    → (IsTrue later → (s : State) → FailsBack s (inner s)) → IsTrue (is_atomic m || later) → (s : State) → FailsBack s (around behaving frame n m inner s)
by_first behaving frame n (atomic which) inner later h has s = taking_back inner s
by_first behaving frame n (protect which condition) inner later h has s = layered behaving frame n (protect which condition) inner (h has) s

surrounding : (behaving : Behaving) (frame : Path) (layers : List Layer) (body : Act (Unit {0})) → HasAtomic layers → (s : State)
    → FailsBack s (surrounded behaving frame layers body s)
surrounding behaving frame [] body has s = absurd (not_so has)
surrounding behaving frame (layer ∷ layers) body has s =
    by_first behaving frame layer.node layer.middleware (surrounded behaving frame layers body) _ (surrounding behaving frame layers body) has s

beginning : (s : State) (o : Outcome Begun) (next : Begun → Act (Unit {0})) → ((begun : Begun) → FailsBack s (next begun s)) → FailsBack s (continued s next o)
beginning s (Ok begun) next h e = h begun e
beginning s (Err r) next h e = itself s

pub failed-atomics : FailedAtomicsLeaveAll
unfolding ◌>>=◌ looks
failed-atomics behaving zero running callee s has =
    beginning s (begun_by behaving running.frame callee (root_of s)) (λ begun. refuses begun.frame rule.Calls) (λ begun. refusing begun.frame rule.Calls s s (itself s))
failed-atomics behaving (suc room) running callee s has =
    let body : Begun → Act (Unit {0}) = body_run behaving (called behaving room) running callee.node in
    let next : Begun → Act (Unit {0}) = λ begun. looks (λ root. Ok (layers_of behaving callee root)) >>= (λ layers. surrounded behaving begun.frame layers (body begun)) in
    beginning s (begun_by behaving running.frame callee (root_of s)) next
    (λ begun. surrounding behaving begun.frame (layers_of behaving callee (root_of s)) (body begun) has s)
