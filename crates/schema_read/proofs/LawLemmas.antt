-- A schema has no fault, and bytes have one first fault and are one schema at most.
use Rattle.std.proofs.Common.{◌≡◌, ℕ, List, [], map, true, false, slice_get, Option, Some, None, refl, sym, ◌∙◌, ap, subst}
use Rattle.std.specs.Prelude.{IsSomeAnd}
use Rattle.std.proofs.lemmas.Option.{same_Some}
use Rattle.snap_core.specs.Value.{Value}
use Rattle.pointer_core.specs.Path.{Path}
use Rattle.pointer_core.specs.declared.schema_rule.SchemaRule.{SchemaRule}
use Rattle.snap_json.specs.Loose.{loosely}
use Rattle.type_core.specs.Sound.{TypesAreOne}
use Rattle.type_draft.specs.Faults.{HasFault, IsFirstFault}
use Rattle.schema_form.specs.declared.form.SchemaForm.{SchemaForm}
use Rattle.expr_form.specs.declared.fault.Fault.{Fault}
use Rattle.schema_form.specs.Faults.{file_faults, first}
use Rattle.schema_form.specs.Form.{IsForm}
use Rattle.schema_form.specs.Pointers.{places_of}
use Rattle.schema_form.specs.declared.form.Astray.{Astray}
use Rattle.schema_form.specs.declared.form.ModelForm.{ModelForm}
use Rattle.model_syntax.specs.declared.behaviour.Behaviour.{Behaviour}
use Rattle.model_syntax.specs.Shown.{behaviour_shown}
use Rattle.pointer_core.specs.declared.schema_rule.SchemaRule.TheVariants.{Target}
use Rattle.expr_core.specs.Schema.{Schema}
use Rattle.schema_read.specs.Types.{table_of}
use Rattle.schema_read.specs.Astray.{astray_path, stands_before, is_before}
use Rattle.schema_read.specs.Schema.{Means, IsFirstOf, at_root, at_type, at_astray, IsSchema, IsFirst, in_file, in_form}
use Rattle.schema_read.specs.Laws.{SchemaHasNoFault, FirstFaultIsOne, AreOne, FileIsOneSchema}
use Rattle.schema_read.proofs.Single.{with_behaviours, one_form, one_behaviour, one_pointer, one_fault}

-- a form that means a schema has no fault
no_fault : (form : SchemaForm) (schema : Schema) (fault : Fault) → Means form schema → IsFirstOf form fault → ⊥
no_fault form schema _ means (at_root none) = let some : Some schema.types.root ≡ None = sym means.root ∙ none in cc
no_fault form schema _ means (at_type root t path rule is fault before pointer) =
    means.faultless t rule (subst (λ table. HasFault table t rule) (sym means.types) fault.fault)
no_fault form schema _ means (at_astray root a model is astray later there) = let some : None ≡ Some a = sym means.straight ∙ astray in cc

-- a type at fault before an expression that goes astray, and that expression behind it
clash : (form : SchemaForm) (t : ℕ) (rule : SchemaRule) (a : Astray) → IsFirstFault (table_of form) t rule → is_before t rule form.astray ≡ true → form.astray ≡ Some a
    → ((u : ℕ) (other : SchemaRule) → HasFault (table_of form) u other → stands_before u other a ≡ false) → ⊥
clash form t rule a fault before astray later =
    let here : stands_before t rule a ≡ true = ap (is_before t rule) (sym astray) ∙ before in
    let no : true ≡ false = sym here ∙ later t rule fault.fault in cc

-- a form has one first fault
one_of_form : (form : SchemaForm) (f g : Fault) → IsFirstOf form f → IsFirstOf form g → f ≡ g
one_of_form form _ _ (at_root none) (at_root nothing) = refl
one_of_form form _ _ (at_root none) (at_type root t path rule is fault before pointer) = let some : Some root ≡ None = sym is ∙ none in cc
one_of_form form _ _ (at_root none) (at_astray root a model is astray later there) = let some : Some root ≡ None = sym is ∙ none in cc
one_of_form form _ _ (at_type root t path rule is fault before pointer) (at_root none) = let some : Some root ≡ None = sym is ∙ none in cc
one_of_form form _ _ (at_astray root a model is astray later there) (at_root none) = let some : Some root ≡ None = sym is ∙ none in cc
one_of_form form _ _ (at_type root t path rule is fault before pointer) (at_type base u way other was wrong sooner there) =
    let once = one_fault (table_of form) t u rule other fault wrong in
    let paths : path ≡ way = one_pointer form.entries form.models (places_of form.expressions) t u path way once.0 pointer there in
    ap (λ (p : Path). record { path = p; rule = rule }) paths ∙ ap (λ (r : SchemaRule). record { path = way; rule = r }) once.1
one_of_form form _ _ (at_type root t path rule is fault before pointer) (at_astray base a model was astray later there) = absurd (clash form t rule a fault before astray later)
one_of_form form _ _ (at_astray base a model was astray later there) (at_type root t path rule is fault before pointer) = absurd (clash form t rule a fault before astray later)
one_of_form form _ _ (at_astray root a model is astray later there) (at_astray base b other was stray after lies) =
    let same : a ≡ b = same_Some a b (sym astray ∙ stray) in
    let models : model ≡ other = same_Some model other (sym there ∙ subst (λ (x : Astray). slice_get form.models x.model.0 ≡ Some other) (sym same) lies) in
    ap (λ (m : ModelForm). record { path = astray_path m.name a.path; rule = Target }) models ∙ ap (λ (x : Astray). record { path = astray_path other.name x.path; rule = Target }) same

-- what holds of a form doesn't go by the inside of its expressions and statements
first_with : (form : SchemaForm) (bs : List Behaviour) (f : Fault) → IsFirstOf (with_behaviours form bs) f → IsFirstOf form f
first_with form bs _ (at_root none) = at_root none
first_with form bs _ (at_type root t path rule is fault before pointer) = at_type root t path rule is fault before pointer
first_with form bs _ (at_astray root a model is astray later there) = at_astray root a model is astray later there

means_with : (form : SchemaForm) (bs : List Behaviour) (schema : Schema) → map behaviour_shown bs ≡ map behaviour_shown form.behaviours → Means (with_behaviours form bs) schema → Means form schema
means_with form bs schema same means = record {
  root = means.root;
  types = means.types;
  faultless = means.faultless;
  sound = means.sound;
  history = means.history;
  straight = means.straight;
  behaviours = means.behaviours ∙ same;
}

-- so it holds of all forms of a file
first_too : (file : Value) (form other : SchemaForm) (f : Fault) → IsForm file form → IsForm file other → IsFirstOf form f → IsFirstOf other f
first_too file form other f is was first =
    first_with other form.behaviours f (subst (λ (a : SchemaForm). IsFirstOf a f) (one_form file form other is was) first)

means_too : (file : Value) (form other : SchemaForm) (schema : Schema) → IsForm file form → IsForm file other → Means form schema → Means other schema
means_too file form other schema is was means =
    means_with other form.behaviours schema (one_behaviour file form other is was) (subst (λ (a : SchemaForm). Means a schema) (one_form file form other is was) means)

-- a file without a fault has no first one
none_first : (file : Value) (fault : Fault) → file_faults file ≡ [] → first (file_faults file) ≡ Some fault → ⊥
none_first file fault none is = let some : None ≡ Some fault = sym (ap first none) ∙ is in cc

no_fault_in : (file : Value) (schema : Schema) (fault : Fault) → IsSchema file schema → IsFirst file fault → ⊥
no_fault_in file schema fault is (in_file _ e) = none_first file fault is.formed e
no_fault_in file schema fault is (in_form form _ none read wrong) =
    no_fault form schema fault (means_too file is.form form schema is.is read is.means) wrong

one_in_file : (file : Value) (f g : Fault) → IsFirst file f → IsFirst file g → f ≡ g
one_in_file file f g (in_file _ e) (in_file _ d) = same_Some f g (sym e ∙ d)
one_in_file file f g (in_file _ e) (in_form form _ none read wrong) = absurd (none_first file f none e)
one_in_file file f g (in_form form _ none read wrong) (in_file _ d) = absurd (none_first file g none d)
one_in_file file f g (in_form form _ none read wrong) (in_form other _ nothing was fault) =
    one_of_form other f g (first_too file form other f read was wrong) fault

-- a form means one schema, as types are known by their table and their root
one_schema : TypesAreOne → (form : SchemaForm) (one other : Schema) → Means form one → Means form other → AreOne one other
one_schema law form one other x y =
    let tables : one.types.table ≡ other.types.table = x.types ∙ sym y.types in
    let roots : one.types.root ≡ other.types.root = same_Some one.types.root other.types.root (sym x.root ∙ y.root) in record {
      types = law one.types other.types x.sound y.sound tables roots;
      history = x.history ∙ sym y.history;
      behaviours = x.behaviours ∙ sym y.behaviours;
    }

one_schema_in : TypesAreOne → (file : Value) (one other : Schema) → IsSchema file one → IsSchema file other → AreOne one other
one_schema_in law file one other x y = one_schema law y.form one other (means_too file x.form y.form one x.is y.is x.means) y.means

pub schema_has_no_fault : SchemaHasNoFault
schema_has_no_fault bytes schema fault = by_reading (loosely bytes)
  where
    by_reading : (o : Option Value) → IsSomeAnd o (λ v. IsSchema v schema) → IsSomeAnd o (λ v. IsFirst v fault) → ⊥
    by_reading None x y = x
    by_reading (Some v) x y = no_fault_in v schema fault x y

pub first_fault_is_one : FirstFaultIsOne
first_fault_is_one bytes one other = by_reading (loosely bytes)
  where
    by_reading : (o : Option Value) → IsSomeAnd o (λ v. IsFirst v one) → IsSomeAnd o (λ v. IsFirst v other) → one ≡ other
    by_reading None x y = absurd x
    by_reading (Some v) x y = one_in_file v one other x y

pub file_is_one_schema : TypesAreOne → FileIsOneSchema
file_is_one_schema law bytes one other = by_reading (loosely bytes)
  where
    by_reading : (o : Option Value) → IsSomeAnd o (λ v. IsSchema v one) → IsSomeAnd o (λ v. IsSchema v other) → AreOne one other
    by_reading None x y = absurd x
    by_reading (Some v) x y = one_schema_in law v one other x y
