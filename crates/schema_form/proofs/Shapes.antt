-- Lists and records that have the length that a form wants, and those that haven't.
use Rattle.std.proofs.Common.{◌≡◌, ◌≤◌, ℕ, ◌==◌, ◌<◌, ◌++◌, get_or, Bool, false, is_some, Some, None, if◌then◌else◌, sym, List, [], ◌∷◌, length, refl, subst, arith, codes}
use Rattle.std.specs.Str.{bytes_eq}
use Rattle.snap_core.specs.Value.{Value, list, dict, Fields}
use Rattle.snap_core.specs.declared.snap.Snap.{Snap}
use Rattle.snap_core.specs.declared.snap.Field.{Field}
use Rattle.snap_core.specs.View.{view, items_view, fields_view}
use Rattle.snap_core.proofs.Views.{entry-fields}
use Rattle.pointer_core.specs.declared.schema_rule.SchemaRule.TheVariants.{Shape}
use Rattle.schema_form.specs.declared.words.Form.TheVariants as form
use Rattle.schema_form.specs.Faults.{here, under, texts_faults, enumeration_faults, number_faults, base_faults, base_in, conditions_faults, refinement_faults, numbered, parts_faults, type_faults, inside_faults, field_faults, is_expression}
use Rattle.schema_form.specs.Entries.{model_in}
use Rattle.schema_form.specs.Words.{form_of}
use Rattle.schema_form.specs.Names.{keyed_base}
use Rattle.schema_form.specs.declared.bases.Base.TheVariants.{Barred}

pub enumeration-some : (vs : List Snap) → (length vs == 0) ≡ false → enumeration_faults (list tt (items_view vs)) ≡ texts_faults [] 0 (items_view vs)
enumeration-some [] some = cc
enumeration-some (v ∷ vs) some = refl

pub refinement-other : (types : Fields) (vs : List Snap) → (length vs ≡ 2 → ⊥) → refinement_faults types (list tt (items_view vs)) ≡ here Shape
refinement-other types [] other = refl
refinement-other types (v ∷ []) other = refl
refinement-other types (v ∷ w ∷ []) other = absurd (other refl)
refinement-other types (v ∷ w ∷ x ∷ vs) other = refl

pub refinement-first : (types : Fields) (vs : List Snap) (t d : Snap) → length vs ≡ 2 → t ≡ get_or vs 0 t
    → refinement_faults types (list tt (items_view vs)) ≡ under (codes "0") (base_faults types (view t)) ++ under (codes "1") (conditions_faults (base_in types (view t)) (view (get_or vs 1 d)))
refinement-first types [] t d two first = absurd (omega (arith, two))
refinement-first types (x ∷ []) t d two first = absurd (omega (arith, two))
refinement-first types (x ∷ y ∷ []) t d two first = rw (first) refl
refinement-first types (x ∷ y ∷ z ∷ vs) t d two first = absurd (omega (arith, two))

pub optional-other : (types : Fields) (vs : List Snap) → (length vs ≡ 2 → ⊥) → inside_faults types form.Optional (list tt (items_view vs)) ≡ here Shape
optional-other types [] other = refl
optional-other types (v ∷ []) other = refl
optional-other types (v ∷ w ∷ []) other = absurd (other refl)
optional-other types (v ∷ w ∷ x ∷ vs) other = refl

pub optional-pair : (types : Fields) (vs : List Snap) (t d : Snap) → length vs ≡ 2 → t ≡ get_or vs 0 t → d ≡ get_or vs 1 d
    → inside_faults types form.Optional (list tt (items_view vs)) ≡ under (codes "0") (type_faults types (view t)) ++ under (codes "1") (number_faults (view d))
optional-pair types [] t d two first second = absurd (omega (arith, two))
optional-pair types (x ∷ []) t d two first second = absurd (omega (arith, two))
optional-pair types (x ∷ y ∷ []) t d two first second = rw (first, second) refl
optional-pair types (x ∷ y ∷ z ∷ vs) t d two first second = absurd (omega (arith, two))

pub union-few : (types : Fields) (vs : List Snap) → length vs < 2 → inside_faults types form.Union (list tt (items_view vs)) ≡ here Shape
union-few types [] few = refl
union-few types (v ∷ []) few = refl
union-few types (v ∷ w ∷ vs) few = absurd (omega arith)

pub union-some : (types : Fields) (vs : List Snap) → 2 ≤ length vs → inside_faults types form.Union (list tt (items_view vs)) ≡ numbered 0 (parts_faults types (items_view vs))
union-some types [] some = absurd (omega arith)
union-some types (v ∷ []) some = absurd (omega arith)
union-some types (v ∷ w ∷ vs) some = refl

pub object-other : (types : Fields) (fs : List Field) → (length fs ≡ 1 → ⊥) → type_faults types (dict tt (fields_view fs)) ≡ here Shape
object-other types [] other = refl
object-other types (f ∷ []) other = absurd (other refl)
object-other types (f ∷ g ∷ fs) other = refl

pub object-one : (types : Fields) (fs : List Field) (f : Field) → length fs ≡ 1 → f ≡ get_or fs 0 f
    → type_faults types (dict tt (fields_view fs)) ≡ field_faults types f.key (view f.value)
object-one types [] f one here = absurd (omega (arith, one))
object-one types (g ∷ []) f one here = rw (here) (rw (entry-fields g) refl)
object-one types (g ∷ h ∷ fs) f one here = absurd (omega (arith, one))

pub expression-other : (fs : List Field) → (length fs ≡ 1 → ⊥) → is_expression (dict tt (fields_view fs)) ≡ false
expression-other [] other = refl
expression-other (f ∷ []) other = absurd (other refl)
expression-other (f ∷ g ∷ fs) other = refl

pub expression-one : (fs : List Field) (f : Field) → length fs ≡ 1 → f ≡ get_or fs 0 f → is_expression (dict tt (fields_view fs)) ≡ is_some (form_of f.key)
expression-one [] f one here = absurd (omega (arith, one))
expression-one (g ∷ []) f one here = rw (here) (rw (entry-fields g) refl)
expression-one (g ∷ h ∷ fs) f one here = absurd (omega (arith, one))

pub model-other : (fs : List Field) → (length fs ≡ 1 → ⊥) → model_in (dict tt (fields_view fs)) ≡ None
model-other [] other = refl
model-other (f ∷ []) other = absurd (other refl)
model-other (f ∷ g ∷ fs) other = refl

pub model-one : (fs : List Field) (f : Field) (b : Bool) → length fs ≡ 1 → f ≡ get_or fs 0 f → bytes_eq f.key (codes "model") ≡ b
    → model_in (dict tt (fields_view fs)) ≡ (if b then Some (view f.value) else None)
model-one [] f b one here test = absurd (omega arith)
model-one (g ∷ []) f b one here test =
    let P : List ℕ × Value → Type 0 = λ e. (if bytes_eq e.0 (codes "model") then Some e.1 else None) ≡ (if b then Some (view f.value) else None) in
    subst P (sym (entry-fields g)) (rw (← here, test))
model-one (g ∷ h ∷ fs) f b one here test = absurd (omega arith)

pub keyed_base-other : (fs : List Field) → (length fs ≡ 1 → ⊥) → keyed_base (dict tt (fields_view fs)) ≡ None
keyed_base-other [] other = refl
keyed_base-other (f ∷ []) other = absurd (other refl)
keyed_base-other (f ∷ g ∷ fs) other = refl

pub keyed_base-one : (fs : List Field) (f : Field) (b : Bool) → length fs ≡ 1 → f ≡ get_or fs 0 f → bytes_eq f.key (codes "safeReference") ≡ b
    → keyed_base (dict tt (fields_view fs)) ≡ (if b then Some Barred else None)
keyed_base-one [] f b one here test = absurd (omega arith)
keyed_base-one (g ∷ []) f b one here test =
    let P : List ℕ × Value → Type 0 = λ e. (if bytes_eq e.0 (codes "safeReference") then Some Barred else None) ≡ (if b then Some Barred else None) in
    subst P (sym (entry-fields g)) (rw (← here, test))
keyed_base-one (g ∷ h ∷ fs) f b one here test = absurd (omega arith)
