-- Where the first fault of the types doesn't come before an expression that goes astray, no fault does.
use Rattle.std.proofs.Common.{◌≡◌, ℕ, ◌<◌, length, slice_get, Bool, true, false, Option, Some, None, inl, inr, refl, sym, ◌∙◌, subst, arith}
use Rattle.std.specs.Prelude.{nat_lt, ◌⊎◌}
use Rattle.std.proofs.lemmas.Bool.{cases_lt}
use Rattle.std.proofs.lemmas.Bool.Decides.{Decides-ltb}
use Rattle.pointer_core.specs.declared.schema_rule.SchemaRule.{SchemaRule}
use Rattle.pointer_core.specs.declared.schema_rule.SchemaRule.TheVariants.{Shape, Name, Twice, Arguments, Depth, History, Identifier, Target, Union, Default}
use Rattle.type_table.specs.Table.{Table}
use Rattle.type_draft.specs.Faults.{HasFault, pass_of, IsFirstFault}
use Rattle.schema_form.specs.declared.form.Astray.{Astray}
use Rattle.schema_form.specs.declared.form.SchemaForm.{SchemaForm}
use Rattle.schema_form.specs.declared.form.ModelForm.{ModelForm}
use Rattle.schema_form.specs.Pointers.{IsPointer, places_of}
use Rattle.schema_form.proofs.Pointing.{some-at}
use Rattle.expr_form.specs.declared.fault.Fault.{Fault}
use Rattle.snap_core.specs.declared.number.ModelNo.{ModelNo}
use Rattle.schema_read.specs.Types.{table_of, root_of}
use Rattle.schema_read.specs.Schema.{IsFirstOf, at_type, at_astray}
use Rattle.schema_read.specs.Astray.{astray_path, stands_before, is_before}

less : (m n : ℕ) → nat_lt m n ≡ true → m < n
less m n h = (Decides-ltb m n).0 h

not-less : (m n : ℕ) → nat_lt m n ≡ false → m < n → ⊥
not-less m n h is = let no : true ≡ false = sym ((Decides-ltb m n).1 is) ∙ h in cc

-- what comes before it is found in the first of the two passes over types
pub before-is : (t : ℕ) (rule : SchemaRule) (a : Astray) → stands_before t rule a ≡ true → (pass_of rule ≡ 0) × (t < a.before.0)
before-is t Default a h = absurd cc
before-is t Shape a h = (refl, less t a.before.0 h)
before-is t Name a h = (refl, less t a.before.0 h)
before-is t Twice a h = (refl, less t a.before.0 h)
before-is t Arguments a h = (refl, less t a.before.0 h)
before-is t Depth a h = (refl, less t a.before.0 h)
before-is t History a h = (refl, less t a.before.0 h)
before-is t Identifier a h = (refl, less t a.before.0 h)
before-is t Target a h = (refl, less t a.before.0 h)
before-is t Union a h = (refl, less t a.before.0 h)

-- and what doesn't is found in the second, or behind it
abbrev IsLate : ℕ → SchemaRule → Astray → Type 0
IsLate t rule a = (pass_of rule ≡ 1) ⊎ ((pass_of rule ≡ 0) × (t < a.before.0 → ⊥))

late-is : (t : ℕ) (rule : SchemaRule) (a : Astray) → stands_before t rule a ≡ false → IsLate t rule a
late-is t Default a h = inl refl
late-is t Shape a h = inr (refl, not-less t a.before.0 h)
late-is t Name a h = inr (refl, not-less t a.before.0 h)
late-is t Twice a h = inr (refl, not-less t a.before.0 h)
late-is t Arguments a h = inr (refl, not-less t a.before.0 h)
late-is t Depth a h = inr (refl, not-less t a.before.0 h)
late-is t History a h = inr (refl, not-less t a.before.0 h)
late-is t Identifier a h = inr (refl, not-less t a.before.0 h)
late-is t Target a h = inr (refl, not-less t a.before.0 h)
late-is t Union a h = inr (refl, not-less t a.before.0 h)

not-true : (b : Bool) → (b ≡ true → ⊥) → b ≡ false
not-true true h = absurd (h refl)
not-true false h = refl

pub none-before : (table : Table) (t : ℕ) (rule : SchemaRule) (a : Astray) → IsFirstFault table t rule → stands_before t rule a ≡ false
    → (u : ℕ) (other : SchemaRule) → HasFault table u other → stands_before u other a ≡ false
none-before table t rule a fault late u other wrong = not-true (stands_before u other a) (λ before.
    let sooner = before-is u other a before in
    elim (late-is t rule a late) [
      | inl second ↦ fault.first u other (inl (omega (arith, sooner.0, second))) wrong
      | inr behind ↦ elim (cases_lt u t) [
        | inl less ↦ fault.first u other (inr (inl (sooner.0 ∙ sym behind.0, less))) wrong
        | inr past ↦ behind.1 (omega (arith, past, sooner.1))
      ]
    ])

pub none-at-all : (table : Table) (a : Astray) → ((u : ℕ) (other : SchemaRule) → ¬ (HasFault table u other)) → (u : ℕ) (other : SchemaRule) → HasFault table u other → stands_before u other a ≡ false
none-at-all table a none u other wrong = absurd (none u other wrong)

-- an expression that goes astray where the types have no fault before it
pub strays : (form : SchemaForm) (root : ModelNo) (a : Astray) (fault : Fault) → root_of form ≡ Some root → form.astray ≡ Some a → a.model.0 < length form.models
    → ((u : ℕ) (other : SchemaRule) → HasFault (table_of form) u other → stands_before u other a ≡ false)
    → ((model : ModelForm) → slice_get form.models a.model.0 ≡ Some model → fault ≡ record { path = astray_path model.name a.path; rule = Target }) → IsFirstOf form fault
strays form root a fault is astray within later led =
    let model = some-at form.models a.model.0 within in
    let P : Fault → Type 0 = IsFirstOf form in
    subst P (sym (led model.0 model.1)) (at_astray root a model.0 is astray later model.1)

not-before : (t : ℕ) (rule : SchemaRule) (o : Option Astray) → is_before t rule o ≡ false → (a : Astray) × (o ≡ Some a) × (stands_before t rule a ≡ false)
not-before t rule (Some a) h = (a, refl, h)
not-before t rule None h = absurd cc

-- the first of a fault of the types and of an expression that goes astray
pub judged : (form : SchemaForm) (root : ModelNo) (t : ℕ) (rule : SchemaRule) (fault : Fault) → ((a : Astray) → form.astray ≡ Some a → a.model.0 < length form.models)
    → root_of form ≡ Some root → IsFirstFault (table_of form) t rule
    → (is_before t rule form.astray ≡ true → IsPointer form.entries form.models (places_of form.expressions) t fault.path × (fault.rule ≡ rule))
    → ((a : Astray) (model : ModelForm) → form.astray ≡ Some a → stands_before t rule a ≡ false → slice_get form.models a.model.0 ≡ Some model
    → fault ≡ record { path = astray_path model.name a.path; rule = Target }) → IsFirstOf form fault
judged form root t rule fault known is first at led = by (is_before t rule form.astray) refl where
  by : (b : Bool) → is_before t rule form.astray ≡ b → IsFirstOf form fault
  by true before =
      let here = at before in
      let P : SchemaRule → Type 0 = λ r. IsFirstOf form (record { path = fault.path; rule = r }) in
      subst P (sym here.1) (at_type root t fault.path rule is first before here.0)
  by false late =
      let stray = not-before t rule form.astray late in
      let a : Astray = stray.0 in
      strays form root a fault is stray.1 (known a stray.1) (none-before (table_of form) t rule a first stray.2) (λ model there. led a model stray.1 stray.2 there)
