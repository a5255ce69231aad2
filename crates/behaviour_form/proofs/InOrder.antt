-- What is read of the fields of an object stands in the order of their keys; so the names of views ascend.
use Rattle.std.proofs.Common.{◌≡◌, ℕ, List, [], ◌∷◌, Bool, true, false, not, if◌then◌else◌, map, refl, sym, ◌∙◌, ap, subst}
use Rattle.snap_core.specs.Name.{is_name}
use Rattle.snap_core.specs.Value.{Value, null, boolean, integer, text, list, dict, no_members, member, keys_of, IsOrdered, AreAscending, Fields}
use Rattle.snap_core.proofs.Keys.{AreKeyed-ordered}
use Rattle.pointer_core.specs.declared.schema_rule.SchemaRule.TheVariants.{Name, Twice}
use Rattle.expr_form.specs.Models.{Lookup}
use Rattle.expr_form.specs.Outcome.{Outcome, wrong, astray, reads, here, if_so, under, both, made, of_parts}
use Rattle.expr_form.specs.Expressions.{Names, expression_read}
use Rattle.expr_form.specs.Scope.{always_bound}
use Rattle.expr_syntax.specs.Syntax.{Expression}
use Rattle.model_syntax.specs.Shown.{ShownView}
use Rattle.behaviour_form.specs.Fields.{fields_read}
use Rattle.behaviour_form.specs.Named.{is_here, key_read, named}
use Rattle.behaviour_form.specs.Views.{view_read, views_read}

-- what is read was made of parts that are read
pub made-reads : {A B : Type 0} (f : A → B) (o : Outcome A) (b : B) → made f o ≡ reads b → (a : A) × (o ≡ reads a) × (b ≡ f a)
unfolding made
made-reads f (wrong x) b h = absurd cc
made-reads f (astray p) b h = absurd cc
made-reads f (reads a) b h = let same : b ≡ f a = cc in (a, refl, same)

pub both-reads : {A B : Type 0} (o : Outcome A) (p : Outcome B) (q : A × B) → both o p ≡ reads q → (o ≡ reads q.0) × (p ≡ reads q.1)
unfolding both
both-reads (wrong f) p q h = absurd cc
both-reads (astray x) (wrong f) q h = absurd cc
both-reads (astray x) (astray y) q h = absurd cc
both-reads (astray x) (reads b) q h = absurd cc
both-reads (reads a) (wrong f) q h = absurd cc
both-reads (reads a) (astray y) q h = absurd cc
both-reads {A} {B} (reads a) (reads b) q h =
    let same : q ≡ (a, b) = cc in
    (ap (λ (x : A × B). reads x.0) (sym same), ap (λ (x : A × B). reads x.1) (sym same))

pub under-reads : {A : Type 0} (token : List ℕ) (o : Outcome A) (a : A) → under token o ≡ reads a → o ≡ reads a
unfolding under
under-reads token (wrong f) a h = absurd cc
under-reads token (astray p) a h = absurd cc
under-reads token (reads b) a h = h

pub named-reads : {A B : Type 0} (key : Outcome A) (value : Outcome B) (q : A × B) → named key value ≡ reads q → key ≡ reads q.0
unfolding named
named-reads key (wrong f) q h =
    elim (is_here f.path) as (λ b. (if b then wrong f else both key (wrong f)) ≡ reads q → key ≡ reads q.0) [
      | true ↦ λ e. absurd cc
      | false ↦ λ e. (both-reads key (wrong f) q e).0
    ] h
named-reads key (astray p) q h = (both-reads key (astray p) q h).0
named-reads key (reads b) q h = (both-reads key (reads b) q h).0

-- a key that is read as a name is that name
pub key-reads : (taken : List ℕ → Bool) (k name : List ℕ) → key_read taken k ≡ reads name → name ≡ k
key-reads taken k name h =
    elim (is_name k) as (λ b. (if b then if_so (not (taken k)) Twice k else here Name) ≡ reads name → name ≡ k) [
      | true ↦ λ e. elim (taken k) as (λ b. if_so (not b) Twice k ≡ reads name → name ≡ k) [
        | true ↦ λ d. absurd cc
        | false ↦ λ d. cc
      ] e
      | false ↦ λ e. absurd cc
    ] h

-- where each is named by its key, all have the keys for names
module _ {A : Type 0} (read : List ℕ × Value → Outcome A) (name_of : A → List ℕ) (each : (k : List ℕ) (v : Value) (a : A) → read (k, v) ≡ reads a → name_of a ≡ k) where
  pub fields-named : (ms : Fields) (all : List A) → fields_read read ms ≡ reads all → map name_of all ≡ keys_of ms
  fields-named no_members all h = let none : all ≡ [] = cc in ap (map name_of) none
  fields-named (member k v ms) all h =
      let first_of_all : A × List A → List A = λ q. q.0 ∷ q.1 in
      let parts = made-reads first_of_all (both (under k (read (k, v))) (fields_read read ms)) all h in
      let told = both-reads (under k (read (k, v))) (fields_read read ms) parts.0 parts.1 in
      let first : name_of parts.0.0 ≡ k = each k v parts.0.0 (under-reads k (read (k, v)) parts.0.0 told.0) in
      let rest : map name_of parts.0.1 ≡ keys_of ms = fields-named ms parts.0.1 told.1 in
      ap (map name_of) parts.2 ∙ ap (λ name. name ∷ map name_of parts.0.1) first ∙ ap (λ names. k ∷ names) rest

  pub fields-in_order : (ms : Fields) (all : List A) → fields_read read ms ≡ reads all → IsOrdered (dict tt ms) → AreAscending (map name_of all)
  fields-in_order ms all h ordered = subst AreAscending (sym (fields-named ms all h)) (AreKeyed-ordered ms ordered)

-- a view is named by its key
pub view-named : (lookup : Lookup) (taken : List ℕ → Bool) (names : Names) (k : List ℕ) (v : Value) (view : ShownView) → view_read lookup taken names (k, v) ≡ reads view → view.name ≡ k
view-named lookup taken names k v view h =
    let view_of : List ℕ × Expression → ShownView = λ q. record { name = q.0; body = q.1 } in
    let body = expression_read lookup names v in
    let parts = made-reads view_of (named (key_read taken k) body) view h in
    ap (λ (w : ShownView). w.name) parts.2 ∙ key-reads taken k parts.0.0 (named-reads (key_read taken k) body parts.0 parts.1)

-- the names of the views of an ordered value ascend
pub views-in_order : (lookup : Lookup) (taken : List ℕ → Bool) (v : Value) (views : List ShownView) → views_read lookup taken v ≡ reads views → IsOrdered v → AreAscending (map (λ view. view.name) views)
unfolding of_parts
views-in_order lookup taken null views h ordered = absurd cc
views-in_order lookup taken (boolean b) views h ordered = absurd cc
views-in_order lookup taken (integer z) views h ordered = absurd cc
views-in_order lookup taken (text s) views h ordered = absurd cc
views-in_order lookup taken (list a ps) views h ordered = absurd cc
views-in_order lookup taken (dict a ms) views h ordered =
    fields-in_order (view_read lookup taken always_bound) (λ (view : ShownView). view.name) (view-named lookup taken always_bound) ms views h ordered
