-- A statement that writes: its parts, its node, and what is done there.
use Rattle.std.proofs.Common.{◌≡◌, ℕ, List, [], ◌∷◌, Result, Ok, Err, refl, sym, ◌∙◌, ap, subst}
use Rattle.std.specs.Prelude.{IsErrAnd, unwrap_or}
use Rattle.snap_core.specs.declared.number.NodeNo.{NodeNo}
use Rattle.pointer_core.specs.Path.{Path}
use Rattle.type_table.specs.Table.{Catalog}
use Rattle.type_core.specs.Making.{Outcome}
use Rattle.edit_core.specs.Labelled.{Labelled}
use Rattle.tree_core.specs.declared.place.Place.{Place}
use Rattle.tree_core.specs.Reading.{size_at}
use Rattle.tree_core.specs.Recorded.{tree_in}
use Rattle.tree_core.specs.Writing as whole
use Rattle.tree_core.specs.State.{State as Tree}
use Rattle.eval_core.specs.Answer.{Answer}
use Rattle.eval_core.specs.Scope.{Env}
use Rattle.answer_writing.specs.Giving.{Giving}
use Rattle.answer_writing.specs.Written.{GivesPlain}
use Rattle.view_engine.specs.declared.halt.RunError.{RunError}
use Rattle.view_engine.specs.declared.halt.RunError.TheVariants as halts
use Rattle.action_core.specs.Act.{Act, ◌>>=◌, gives, looks}
use Rattle.action_core.specs.Behaving.{Acting, in_frame, writes, on_node}
use Rattle.action_core.specs.Running.{keeping, removes_all}
use Rattle.action_core.specs.Statements as core
use Rattle.action_core.specs.Statements.{removals, place_removed}
use Rattle.action_steps.specs.Doing.{Point, point, Performs, IsNodeIn, IsOutcome}
use Rattle.action_steps.specs.Writes.{RefusesIn, Writes}
use Rattle.action_steps.proofs.Doing.{acts-then, acts-stop, acts-handed, acts-tells, acts-looks, acts-memory, acts-node, acts-no-node}

abbrev Done : Type 0
Done = Unit {0}

-- names stay as they are
kept : (env : Env) (r : Result Done RunError) (act : Act Done) (a b : Point) → Performs (λ x. x) r act a b → Performs (λ x. env) r (keeping env act) a b
kept env (Ok x) act a b h = acts-then (λ y. y) (λ y. env) x (Ok x) act (λ one. gives env) a b b h (acts-tells (λ (y : Done). env) (Ok x) (Ok env) b refl)
kept env (Err e) act a b h = acts-stop {T = Done} {U = Done} (λ y. y) (λ y. env) e act (λ one. gives env) a b h

-- what is done at a node that is one of the parts
abbrev pub at_node : {A : Type 0} → Path → (A → Answer) → (A → NodeNo → Act Done) → A → Act Done
at_node frame on done xs = on_node frame (on xs) (done xs)

abbrev pub statement : {A : Type 0} → Env → Act A → (A → Act Done) → Act Env
statement env parts next = keeping env (parts >>= next)

-- the parts end refused
pub statement-unmet : {T A : Type 0} (seen : T → A) (env : Env) (parts : Act A) (next : A → Act Done) (e : RunError) (r : Result Done RunError) (a b : Point) → IsErrAnd r (λ x. x ≡ e)
    → Performs {T = T} seen (Err e) parts a b → Performs (λ x. env) r (statement env parts next) a b
statement-unmet {T} seen env parts next e r a b is h =
    acts-handed {T = Done} (λ x. env) e r (statement env parts next) a b is
    (kept env (Err e) (parts >>= next) a b (acts-stop {T = T} {U = Done} seen (λ x. x) e parts next a b h))

-- or something is done with what they gave
pub statement-next : {T A : Type 0} (seen : T → A) (env : Env) (parts : Act A) (next : A → Act Done) (x : T) (r : Result Done RunError) (a b c : Point)
    → Performs seen (Ok x) parts a b → Performs (λ y. y) r (next (seen x)) b c → Performs (λ y. env) r (statement env parts next) a c
statement-next seen env parts next x r a b c first last = kept env r (parts >>= next) a c (acts-then seen (λ y. y) x r parts next a b c first last)

-- there is no node
pub statement-no-node : {T A : Type 0} (seen : T → A) (env : Env) (frame : Path) (parts : Act A) (on : A → Answer) (done : A → NodeNo → Act Done) (x : T) (e : RunError)
    (r : Result Done RunError) (a b : Point) → IsErrAnd r (λ y. y ≡ e)
    → Performs seen (Ok x) parts a b → IsNodeIn (Err e) (on (seen x)) frame → Performs (λ y. env) r (statement env parts (at_node frame on done)) a b
statement-no-node seen env frame parts on done x e r a b is first none =
    acts-handed {T = Done} (λ y. env) e r (statement env parts (at_node frame on done)) a b is
    (statement-next seen env parts (at_node frame on done) x (Err e) a b b first (acts-no-node {T = Done} (λ y. y) e frame (on (seen x)) (done (seen x)) b none))

-- memory runs out
pub statement-lost : {T A : Type 0} (seen : T → A) (env : Env) (parts : Act A) (next : A → Act Done) (x : T) (r : Result Done RunError) (a b : Point) → IsErrAnd r (λ y. y ≡ halts.Memory)
    → Performs seen (Ok x) parts a b → Performs (λ y. env) r (statement env parts next) a b
statement-lost seen env parts next x r a b is first =
    acts-handed {T = Done} (λ y. env) halts.Memory r (statement env parts next) a b is
    (acts-memory {T = Done} (λ y. env) halts.Memory (statement env parts next) a b refl first.back first.rises)

-- what the statement does at its node
pub statement-done : {T A : Type 0} (seen : T → A) (env : Env) (frame : Path) (parts : Act A) (on : A → Answer) (done : A → NodeNo → Act Done) (x : T) (n : NodeNo)
    (r : Result Done RunError) (a b c : Point)
    → Performs seen (Ok x) parts a b → IsNodeIn (Ok n) (on (seen x)) frame → Performs (λ y. y) r (done (seen x) n) b c
    → Performs (λ y. env) r (statement env parts (at_node frame on done)) a c
statement-done seen env frame parts on done x n r a b c first node last =
    statement-next seen env parts (at_node frame on done) x r a b c first (acts-node (λ y. y) r frame (on (seen x)) n (done (seen x)) b c node last)

-- what is given is plain
pub gives-plain : (given giving : Giving) → given ≡ giving → GivesPlain giving → GivesPlain given
gives-plain given giving is plain = subst GivesPlain (sym is) plain

-- Clearing.

refused-looks : (frame : Path) (e : RunError) (o : Outcome (List Place)) → RefusesIn frame e o → IsOutcome {T = List Place} (λ x. x) (Err e) (in_frame frame o)
refused-looks frame halts.Memory o h = tt
refused-looks frame (halts.Refused r) o h = h

-- the places of a node, and each of them taken out
abbrev pub cleared_at : Acting → NodeNo → Act Done
cleared_at a n = looks (λ root. in_frame a.running.frame (removals n root)) >>= removes_all a

pub clear-unmet : (a : Acting) (n : NodeNo) (e : RunError) (p : Point) → RefusesIn a.running.frame e (removals n p.tree.tree) → Performs {T = Done} (λ x. x) (Err e) (cleared_at a n) p p
clear-unmet a n e p h =
    let said : Labelled → Outcome (List Place) = λ root. in_frame a.running.frame (removals n root) in
    acts-stop {T = List Place} {U = Done} (λ x. x) (λ x. x) e (looks said) (removes_all a) p p
    (acts-looks {T = List Place} (λ x. x) (Err e) said p (refused-looks a.running.frame e (removals n p.tree.tree) h))

pub clear-done : (a : Acting) (n : NodeNo) (places : List Place) (r : Result Done RunError) (p q : Point) → removals n p.tree.tree ≡ Ok places
    → Performs (λ x. x) r (removes_all a places) p q → Performs (λ x. x) r (cleared_at a n) p q
clear-done a n places r p q is next =
    let said : Labelled → Outcome (List Place) = λ root. in_frame a.running.frame (removals n root) in
    acts-then (λ (x : List Place). x) (λ x. x) places r (looks said) (removes_all a) p p q
    (acts-looks (λ (x : List Place). x) (Ok places) said p (ap (in_frame a.running.frame) is)) next

-- one place more is taken out
pub removes-on : (a : Acting) (at : Place) (more : List Place) (r : Result Done RunError) (one : Done) (p q u : Point)
    → Performs (λ x. x) (Ok one) (writes a.running.frame (place_removed a.behaving.types a.running.nodes at)) p q
    → Performs (λ x. x) r (removes_all a more) q u → Performs (λ x. x) r (removes_all a (at ∷ more)) p u
removes-on a at more r one p q u first rest =
    acts-then (λ (x : Done). x) (λ x. x) one r (writes a.running.frame (place_removed a.behaving.types a.running.nodes at)) (λ done. removes_all a more) p q u first rest

pub removes-stop : (a : Acting) (at : Place) (more : List Place) (e : RunError) (p q : Point)
    → Performs {T = Done} (λ x. x) (Err e) (writes a.running.frame (place_removed a.behaving.types a.running.nodes at)) p q
    → Performs {T = Done} (λ x. x) (Err e) (removes_all a (at ∷ more)) p q
removes-stop a at more e p q first =
    acts-stop {T = Done} {U = Done} (λ x. x) (λ x. x) e (writes a.running.frame (place_removed a.behaving.types a.running.nodes at)) (λ done. removes_all a more) p q first

-- What is left of the places does the rest.
abbrev pub Removes : Acting → List Place → List Place → (Tree × Tree) → Type 0
Removes a left all trees =
    (r : Result Done RunError) (after : Tree) (counted steps : ℕ) → Performs (λ x. x) r (removes_all a left) (point trees.1 counted steps) (point after counted steps)
    → Performs (λ x. x) r (removes_all a all) (point trees.0 counted steps) (point after counted steps)

pub removes-next : (a : Acting) (at : Place) (more all : List Place) (one : Done) (first before after : Tree)
    → Writes (Ok one) a.running.frame (place_removed a.behaving.types a.running.nodes at (tree_in before)) before after
    → Removes a (at ∷ more) all (first, before) → Removes a more all (first, after)
removes-next a at more all one first before after wrote left r last counted steps rest =
    left r last counted steps
    (removes-on a at more r one (point before counted steps) (point after counted steps) (point last counted steps)
    (wrote (place_removed a.behaving.types a.running.nodes at) counted steps refl) rest)

pub removes-ended : (a : Acting) (at : Place) (more all : List Place) (e : RunError) (first before after : Tree)
    → Writes (Err e) a.running.frame (place_removed a.behaving.types a.running.nodes at (tree_in before)) before after
    → Removes a (at ∷ more) all (first, before) → (counted steps : ℕ) → Performs {T = Done} (λ x. x) (Err e) (removes_all a all) (point first counted steps) (point after counted steps)
removes-ended a at more all e first before after wrote left counted steps =
    left (Err e) after counted steps (removes-stop a at more e (point before counted steps) (point after counted steps) (wrote (place_removed a.behaving.types a.running.nodes at) counted steps refl))

pub removes-nothing : (a : Acting) (left all : List Place) (first now : Tree) → left ≡ [] → Removes a left all (first, now)
    → (counted steps : ℕ) → Performs (λ x. x) (Ok tt) (removes_all a all) (point first counted steps) (point now counted steps)
removes-nothing a left all first now none leaves counted steps =
    leaves (Ok tt) now counted steps
    (subst (λ (xs : List Place). Performs {T = Done} (λ x. x) (Ok tt) (removes_all a xs) (point now counted steps) (point now counted steps)) (sym none)
    (acts-tells (λ (x : Done). x) (Ok tt) (Ok tt) (point now counted steps) refl))

-- a push, as a write at the end of the array
pub pushed-as : (types : Catalog) (running : List NodeNo) (n : NodeNo) (x : Answer) (w : core.Naming) (t : whole.Tree) (size : ℕ) → w ≡ core.item_pushed n x size
    → size ≡ unwrap_or (size_at n.0 t.root) 0 → core.pushed types running n x t ≡ core.named_written types running w t
pushed-as types running n x w t size named is =
    ap (λ k. core.named_written types running (core.item_pushed n x k) t) (sym is) ∙ ap (λ (v : core.Naming). core.named_written types running v t) (sym named)
