-- Where the keys of a file are in order, what is read of its views, actions and middleware has plain constants.
use Rattle.std.proofs.Common.{◌≡◌, ℕ, ◌+◌, List, Bool, Option, codes, All, if◌then◌else◌, refl}
use Rattle.std.specs.Str.{bytes_eq}
use Rattle.std.proofs.lemmas.List.Elements.{All-nil, All-cons}
use Rattle.snap_core.specs.Value.{Value, null, boolean, integer, text, list, dict, no_parts, part, no_members, member, IsOrdered, AreOrdered, AreOrderedMembers, Items, Fields}
use Rattle.pointer_core.specs.declared.schema_rule.SchemaRule.TheVariants.{Shape}
use Rattle.plain_answers.specs.Plainness.{HasPlainConstants}
use Rattle.plain_answers.specs.EachExpression.{HoldsInBlock}
use Rattle.model_syntax.specs.Shown.{ShownView, ShownMiddleware, atomic}
use Rattle.expr_form.specs.Outcome.{Outcome, wrong, astray, reads, here, under, at, both, made}
use Rattle.expr_form.specs.Texts.{pair_in, items_in, fields_in}
use Rattle.expr_form.specs.Models.{Lookup}
use Rattle.expr_form.specs.Scope.{always_bound}
use Rattle.expr_form.specs.Expressions.{Names, expression_read}
use Rattle.plain_bodies.proofs.Outcomes.{IfReads, Anything, anyhow, made-fine, both-fine, under-fine, at-fine, of_parts-fine, weaken}
use Rattle.plain_bodies.proofs.PlainReading.{BothOrdered, pair-ordered, items-ordered, fields-ordered, expressions-plain}
use Rattle.plain_bodies.proofs.PlainStatements.{bodies-plain}
use Rattle.behaviour_form.specs.Fields.{fields_read}
use Rattle.behaviour_form.specs.Named.{is_here, key_read, named}
use Rattle.behaviour_form.specs.Views.{view_read, views_read}
use Rattle.behaviour_form.specs.Actions.{names_bound, action_body_read}
use Rattle.behaviour_form.specs.Middleware as of_middleware
use Rattle.behaviour_form.specs.Middleware.{surrounded_read, protect_read, one_read, all_read, middleware_read}
use Rattle.schema_form.specs.Modelled.{read_or}
use Rattle.schema_form.proofs.Growing.{by-if-one}
use Rattle.expr_core.specs.Plain.{HasPlainCondition}

-- what is read, where something is, has a fact that holds of whatever may be read
reads-fine : {A : Type 0} (P : A → Type 0) (o : Outcome A) → ((a : A) → o ≡ reads a → P a) → IfReads o P
reads-fine P (wrong f) h = tt
reads-fine P (astray path) h = tt
reads-fine P (reads a) h = h a refl

-- and so has what stands in its place otherwise
pub read_or-fine : {A : Type 0} (P : A → Type 0) (other : A) (o : Outcome A) → IfReads o P → P other → P (read_or other o)
read_or-fine P other (wrong f) fine before = before
read_or-fine P other (astray path) fine before = before
read_or-fine P other (reads a) fine before = fine

-- what is read under a name
named-fine : {A B : Type 0} (P : B → Type 0) (key : Outcome A) (value : Outcome B) → IfReads value P → IfReads (named key value) (λ q. P q.1)
unfolding named
named-fine {A} {B} P key (wrong f) fine =
    let Q : Outcome (A × B) → Type 0 = λ o. IfReads o (λ q. P q.1) in
    by-if-one Q (is_here f.path) (wrong f) (both key (wrong f)) (λ e. tt)
    (λ e. weaken (λ q. Anything q.0 × P q.1) (λ q. P q.1) (both key (wrong f)) (λ q both_fine. both_fine.1) (both-fine Anything P key (wrong f) (anyhow key) tt))
named-fine P key (astray path) fine =
    weaken (λ q. Anything q.0 × P q.1) (λ q. P q.1) (both key (astray path)) (λ q both_fine. both_fine.1) (both-fine Anything P key (astray path) (anyhow key) tt)
named-fine P key (reads b) fine =
    weaken (λ q. Anything q.0 × P q.1) (λ q. P q.1) (both key (reads b)) (λ q both_fine. both_fine.1) (both-fine Anything P key (reads b) (anyhow key) fine)

expression-fine : (lookup : Lookup) (names : Names) (v : Value) → IsOrdered v → IfReads (expression_read lookup names v) HasPlainConstants
expression-fine lookup names v ordered =
    reads-fine HasPlainConstants (expression_read lookup names v) (λ e is. expressions-plain lookup names v e ordered is)

-- views
abbrev pub HasPlainView : ShownView → Type 0
HasPlainView view = HasPlainConstants view.body

view-fine : (lookup : Lookup) (taken : List ℕ → Bool) (names : Names) (k : List ℕ) (v : Value) → IsOrdered v → IfReads (view_read lookup taken names (k, v)) HasPlainView
view-fine lookup taken names k v ordered =
    made-fine (λ q. HasPlainConstants q.1) HasPlainView _ _ (λ q fine. fine)
    (named-fine HasPlainConstants (key_read taken k) (expression_read lookup names v) (expression-fine lookup names v ordered))

fields-fine : {A : Type 0} (P : A → Type 0) (read : List ℕ × Value → Outcome A) → ((k : List ℕ) (v : Value) → IsOrdered v → IfReads (read (k, v)) P)
    → (ms : Fields) → AreOrderedMembers ms → IfReads (fields_read read ms) (All P)
fields-fine P read each no_members ordered = All-nil P
fields-fine P read each (member k v ms) ordered =
    made-fine (λ q. P q.0 × All P q.1) (All P) _ _ (λ q fine. All-cons P q.0 q.1 fine.0 fine.1)
    (both-fine P (All P) _ _ (under-fine P k _ (each k v ordered.0)) (fields-fine P read each ms ordered.2))

pub views-fine : (lookup : Lookup) (taken : List ℕ → Bool) (v : Value) → IsOrdered v → IfReads (views_read lookup taken v) (All HasPlainView)
views-fine lookup taken v ordered =
    of_parts-fine AreOrderedMembers (All HasPlainView) (fields_in v) _ (fields-ordered v ordered)
    (λ ms all. fields-fine HasPlainView (view_read lookup taken always_bound) (view-fine lookup taken always_bound) ms all)

-- bodies of actions
pub body-fine : (lookup : Lookup) (params : Option Value) (v : Value) → IsOrdered v → IfReads (action_body_read lookup params v) (HoldsInBlock HasPlainConstants)
body-fine lookup params v ordered =
    reads-fine (HoldsInBlock HasPlainConstants) (action_body_read lookup params v) (λ body is. bodies-plain lookup (names_bound params) v body ordered is)

-- middleware
protect-fine : (lookup : Lookup) (names : Names) (v : Value) → IsOrdered v → IfReads (protect_read lookup names v) HasPlainCondition
protect-fine lookup names v ordered =
    of_parts-fine BothOrdered HasPlainCondition (pair_in v) _ (pair-ordered v ordered) (λ p all.
    made-fine (λ q. Anything q.0 × HasPlainConstants q.1) HasPlainCondition _ _ (λ q fine. fine.1)
    (both-fine Anything HasPlainConstants _ _ (anyhow (at 0 (surrounded_read p.0))) (at-fine HasPlainConstants 1 _ (expression-fine lookup names p.1 all.1))))

keyed-fine : (lookup : Lookup) (names : Names) (k : List ℕ) (v : Value) → IsOrdered v → IfReads (of_middleware.keyed_read lookup names k v) HasPlainCondition
keyed-fine lookup names k v ordered =
    let P : Outcome ShownMiddleware → Type 0 = λ o. IfReads o HasPlainCondition in
    let guarded : Outcome ShownMiddleware = under k (protect_read lookup names v) in
    let rest : Outcome ShownMiddleware = if bytes_eq k (codes "protect") then guarded else here Shape in
    by-if-one P (bytes_eq k (codes "atomic")) (under k (made atomic (surrounded_read v))) rest
    (λ e. under-fine HasPlainCondition k _ (made-fine Anything HasPlainCondition atomic _ (λ around any. tt) (anyhow (surrounded_read v))))
    (λ e. by-if-one P (bytes_eq k (codes "protect")) guarded (here Shape) (λ d. under-fine HasPlainCondition k _ (protect-fine lookup names v ordered)) (λ d. tt))

one-fine : (lookup : Lookup) (names : Names) (v : Value) → IsOrdered v → IfReads (one_read lookup names v) HasPlainCondition
one-fine lookup names (dict a (member k v no_members)) ordered = keyed-fine lookup names k v ordered.0
one-fine lookup names (dict a no_members) ordered = tt
one-fine lookup names (dict a (member k v (member l w ms))) ordered = tt
one-fine lookup names (list a ps) ordered = tt
one-fine lookup names (integer z) ordered = tt
one-fine lookup names null ordered = tt
one-fine lookup names (boolean b) ordered = tt
one-fine lookup names (text s) ordered = tt

all-fine : (lookup : Lookup) (names : Names) (i : ℕ) (ps : Items) → AreOrdered ps → IfReads (all_read lookup names i ps) (All HasPlainCondition)
all-fine lookup names i no_parts ordered = All-nil HasPlainCondition
all-fine lookup names i (part v ps) ordered =
    made-fine (λ q. HasPlainCondition q.0 × All HasPlainCondition q.1) (All HasPlainCondition) _ _ (λ q fine. All-cons HasPlainCondition q.0 q.1 fine.0 fine.1)
    (both-fine HasPlainCondition (All HasPlainCondition) _ _ (at-fine HasPlainCondition i _ (one-fine lookup names v ordered.0)) (all-fine lookup names (i + 1) ps ordered.1))

pub middleware-fine : (lookup : Lookup) (v : Value) → IsOrdered v → IfReads (middleware_read lookup v) (All HasPlainCondition)
middleware-fine lookup v ordered =
    of_parts-fine AreOrdered (All HasPlainCondition) (items_in v) _ (items-ordered v ordered) (λ ps all. all-fine lookup always_bound 0 ps all)
