-- What is one at most: the form of a file, the pointer of an expression, and the first fault of a table.
use Rattle.std.proofs.Common.{◌≡◌, inl, inr, ℕ, zero, suc, ◌<◌, List, ◌++◌, map, slice_get, Some, refl, sym, ◌∙◌, ap, subst, arith}
use Rattle.std.specs.Prelude.{pos}
use Rattle.std.proofs.lemmas.Bool.{cases_lt}
use Rattle.std.proofs.lemmas.Option.{same_Some}
use Rattle.snap_core.specs.Value.{Value}
use Rattle.snap_core.specs.declared.number.TypeNo.{TypeNo}
use Rattle.snap_core.specs.declared.number.ModelNo.{ModelNo}
use Rattle.pointer_core.specs.Path.{Path}
use Rattle.pointer_core.specs.declared.schema_rule.SchemaRule.{SchemaRule}
use Rattle.pointer_core.specs.declared.schema_rule.SchemaRule.TheVariants as rule
use Rattle.type_table.specs.declared.shape.Property.{Property}
use Rattle.type_table.specs.Table.{Table}
use Rattle.type_draft.specs.Faults.{HasFault, name, identifier, target, union, «default», pass_of, order_of, Precedes, IsFirstFault}
use Rattle.schema_form.specs.declared.form.SchemaForm.{SchemaForm}
use Rattle.schema_form.specs.declared.form.Entry.{Entry}
use Rattle.schema_form.specs.declared.form.EntryNo.{EntryNo}
use Rattle.schema_form.specs.declared.form.ModelForm.{ModelForm}
use Rattle.schema_form.specs.declared.form.Place.{Place}
use Rattle.schema_form.specs.declared.form.Place.TheVariants as place
use Rattle.schema_form.specs.Gathering.{Gathering, form_shown}
use Rattle.model_syntax.specs.declared.behaviour.Behaviour.{Behaviour}
use Rattle.model_syntax.specs.Shown.{behaviour_shown}
use Rattle.schema_form.specs.Pointers.{IsPointer, entry, property, param, part, entry_path, step_path, property_path, param_path}
use Rattle.schema_form.specs.Form.{IsForm}

-- a form with other expressions and statements, which stand for what they show
abbrev pub with_behaviours : SchemaForm → List Behaviour → SchemaForm
with_behaviours form behaviours = record form { behaviours = behaviours }

abbrev made_of : Gathering → List Behaviour → EntryNo → ℕ → SchemaForm
made_of g behaviours root history = record {
  entries = g.entries;
  expressions = g.expressions;
  models = g.models;
  behaviours = behaviours;
  astray = g.astray;
  root = root;
  history = history;
}

same_length : (m n : ℕ) → pos m ≡ pos n → m ≡ n
same_length m n e = cc

-- a file has one form, but for the inside of its expressions and statements
pub one_form : (file : Value) (f g : SchemaForm) → IsForm file f → IsForm file g → f ≡ with_behaviours g f.behaviours
one_form file f g x y =
    let same : form_shown f ≡ form_shown g = sym x.types ∙ y.types in
    let roots : f.root ≡ g.root = same_Some f.root g.root (sym x.root ∙ y.root) in
    let histories : f.history ≡ g.history = same_length f.history g.history (sym x.history ∙ y.history) in
    ap (λ (a : Gathering). made_of a f.behaviours f.root f.history) same
    ∙ ap (λ r. made_of (form_shown g) f.behaviours r f.history) roots
    ∙ ap (λ n. made_of (form_shown g) f.behaviours g.root n) histories

-- and they show the same
pub one_behaviour : (file : Value) (f g : SchemaForm) → IsForm file f → IsForm file g → map behaviour_shown f.behaviours ≡ map behaviour_shown g.behaviours
one_behaviour file f g x y = ap (λ (a : Gathering). a.behaviours) (sym x.types ∙ y.types)

module _ (entries : List Entry) (models : List ModelForm) (places : List Place) where
  one_place : (t u : ℕ) → t ≡ u → (p q : Place) → slice_get places t ≡ Some p → slice_get places u ≡ Some q → p ≡ q
  one_place t u e p q at there = same_Some p q (sym at ∙ subst (λ n. slice_get places n ≡ Some q) (sym e) there)

  -- an expression has one pointer
  pub one_pointer : (t u : ℕ) (p q : Path) → t ≡ u → IsPointer entries models places t p → IsPointer entries models places u q → p ≡ q
  one_pointer _ _ _ _ e (entry t x one at is) (entry u y other there was) =
      let same : place.Entry x ≡ place.Entry y = one_place t u e (place.Entry x) (place.Entry y) at there in
      let numbers : x ≡ y = cc in
      let ones : one ≡ other = same_Some one other (sym is ∙ subst (λ (n : EntryNo). slice_get entries n.0 ≡ Some other) (sym numbers) was) in
      ap (λ (o : Entry). entry_path o.name) ones
  one_pointer _ _ _ _ e (entry t x one at is) (property u n j model p there was stands) =
      let same : place.Entry x ≡ place.Property n j = one_place t u e (place.Entry x) (place.Property n j) at there in cc
  one_pointer _ _ _ _ e (entry t x one at is) (param u n j k model action there was stands) =
      let same : place.Entry x ≡ place.Param n j k = one_place t u e (place.Entry x) (place.Param n j k) at there in cc
  one_pointer _ _ _ _ e (entry t x one at is) (part u w step path there on) =
      let same : place.Entry x ≡ place.Part w step = one_place t u e (place.Entry x) (place.Part w step) at there in cc
  one_pointer _ _ _ _ e (property t m i model p at is stands) (entry u y other there was) =
      let same : place.Property m i ≡ place.Entry y = one_place t u e (place.Property m i) (place.Entry y) at there in cc
  one_pointer _ _ _ _ e (property t m i model p at is stands) (property u n j other q there was lies) =
      let same : place.Property m i ≡ place.Property n j = one_place t u e (place.Property m i) (place.Property n j) at there in
      let numbers : m ≡ n = cc in
      let indices : i ≡ j = cc in
      let ones : model ≡ other = same_Some model other (sym is ∙ subst (λ (k : ModelNo). slice_get models k.0 ≡ Some other) (sym numbers) was) in
      let theirs : slice_get model.properties i ≡ Some q = subst (λ k. slice_get model.properties k ≡ Some q) (sym indices)
      (subst (λ (o : ModelForm). slice_get o.properties j ≡ Some q) (sym ones) lies) in
      let properties : p ≡ q = same_Some p q (sym stands ∙ theirs) in
      ap (λ (o : ModelForm). entry_path o.name ++ property_path p.name) ones ∙ ap (λ (r : Property). entry_path other.name ++ property_path r.name) properties
  one_pointer _ _ _ _ e (property t m i model p at is stands) (param u n j k other action there was lies) =
      let same : place.Property m i ≡ place.Param n j k = one_place t u e (place.Property m i) (place.Param n j k) at there in cc
  one_pointer _ _ _ _ e (param t m i d model action at is stands) (entry u y other there was) =
      let same : place.Param m i d ≡ place.Entry y = one_place t u e (place.Param m i d) (place.Entry y) at there in cc
  one_pointer _ _ _ _ e (param t m i d model action at is stands) (property u n j other q there was lies) =
      let same : place.Param m i d ≡ place.Property n j = one_place t u e (place.Param m i d) (place.Property n j) at there in cc
  one_pointer _ _ _ _ e (param t m i d model action at is stands) (param u n j k other named there was lies) =
      let same : place.Param m i d ≡ place.Param n j k = one_place t u e (place.Param m i d) (place.Param n j k) at there in
      let numbers : m ≡ n = cc in
      let indices : i ≡ j = cc in
      let others : d ≡ k = cc in
      let ones : model ≡ other = same_Some model other (sym is ∙ subst (λ (x : ModelNo). slice_get models x.0 ≡ Some other) (sym numbers) was) in
      let theirs : slice_get model.actions i ≡ Some named = subst (λ x. slice_get model.actions x ≡ Some named) (sym indices)
      (subst (λ (o : ModelForm). slice_get o.actions j ≡ Some named) (sym ones) lies) in
      let names : action ≡ named = same_Some action named (sym stands ∙ theirs) in
      ap (λ (o : ModelForm). entry_path o.name ++ param_path action d) ones ∙ ap (λ x. entry_path other.name ++ param_path x d) names
      ∙ ap (λ x. entry_path other.name ++ param_path named x) others
  one_pointer _ _ _ _ e (param t m i d model action at is stands) (part u w step way there on) =
      let same : place.Param m i d ≡ place.Part w step = one_place t u e (place.Param m i d) (place.Part w step) at there in cc
  one_pointer _ _ _ _ e (property t m i model p at is stands) (part u w step way there on) =
      let same : place.Property m i ≡ place.Part w step = one_place t u e (place.Property m i) (place.Part w step) at there in cc
  one_pointer _ _ _ _ e (part t v step path at up) (entry u y other there was) =
      let same : place.Part v step ≡ place.Entry y = one_place t u e (place.Part v step) (place.Entry y) at there in cc
  one_pointer _ _ _ _ e (part t v step path at up) (property u n j model p there was stands) =
      let same : place.Part v step ≡ place.Property n j = one_place t u e (place.Part v step) (place.Property n j) at there in cc
  one_pointer _ _ _ _ e (part t v step path at up) (param u n j k model action there was stands) =
      let same : place.Part v step ≡ place.Param n j k = one_place t u e (place.Part v step) (place.Param n j k) at there in cc
  one_pointer _ _ _ _ e (part t v step path at up) (part u w other way there on) =
      let same : place.Part v step ≡ place.Part w other = one_place t u e (place.Part v step) (place.Part w other) at there in
      let wholes : v ≡ w = cc in
      let steps : step ≡ other = cc in
      let paths : path ≡ way = one_pointer v.0 w.0 path way (ap (λ (n : TypeNo). n.0) wholes) up on in
      ap (λ p. p ++ step_path step) paths ∙ ap (λ s. way ++ step_path s) steps

-- numbers of which neither is less are the same
level : (a b : ℕ) → (a < b → ⊥) → (b < a → ⊥) → a ≡ b
level a b less more = elim (cases_lt a b) [
  | inl low ↦ absurd (less low)
  | inr high ↦ elim (cases_lt b a) [
    | inl low ↦ absurd (more low)
    | inr past ↦ omega arith
  ]
]

-- the rule of a fault is known by its order
abbrev rule_of : ℕ → SchemaRule
rule_of zero = rule.Name
rule_of (suc zero) = rule.Identifier
rule_of (suc (suc zero)) = rule.Target
rule_of (suc (suc (suc zero))) = rule.Union
rule_of (suc (suc (suc (suc n)))) = rule.Default

rule_of-order : (table : Table) (t : ℕ) (r : SchemaRule) → HasFault table t r → rule_of (order_of r) ≡ r
rule_of-order table _ _ (name t back) = refl
rule_of-order table _ _ (identifier t misplaced) = refl
rule_of-order table _ _ (target t misled) = refl
rule_of-order table _ _ (union t ms is apart) = refl
rule_of-order table _ _ («default» t u d is none) = refl

-- a table has one first fault
pub one_fault : (table : Table) (t u : ℕ) (r s : SchemaRule) → IsFirstFault table t r → IsFirstFault table u s → (t ≡ u) × (r ≡ s)
one_fault table t u r s one other =
    let later : Precedes (u, s) (t, r) → ⊥ = λ p. one.first u s p other.fault in
    let sooner : Precedes (t, r) (u, s) → ⊥ = λ p. other.first t r p one.fault in
    let passes : pass_of r ≡ pass_of s = level (pass_of r) (pass_of s) (λ h. sooner (inl h)) (λ h. later (inl h)) in
    let types : t ≡ u = level t u (λ h. sooner (inr (inl (passes, h)))) (λ h. later (inr (inl (sym passes, h)))) in
    let orders : order_of r ≡ order_of s = level (order_of r) (order_of s) (λ h. sooner (inr (inr (passes, types, h)))) (λ h. later (inr (inr (sym passes, sym types, h)))) in
    (types, sym (rule_of-order table t r one.fault) ∙ ap rule_of orders ∙ rule_of-order table u s other.fault)
