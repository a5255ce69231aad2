-- The parts of values that are lists.
use Rattle.std.proofs.Common.{◌≡◌, List, [], ◌∷◌, length, get_or, Some, None, refl, arith}
use Rattle.snap_core.specs.Value.{list, dict}
use Rattle.snap_core.specs.View.{view, items_view, fields_view}
use Rattle.snap_core.specs.declared.snap.Snap.{Snap}
use Rattle.snap_core.specs.declared.snap.Field.{Field}
use Rattle.snap_core.proofs.Views.{entry-fields}
use Rattle.pointer_core.specs.declared.schema_rule.SchemaRule.TheVariants.{Shape}
use Rattle.expr_form.specs.Outcome.{here}
use Rattle.expr_form.specs.Keys.{key_of}
use Rattle.expr_form.specs.Expressions.{own_form, known}
use Rattle.expr_form.specs.Texts.{pair_in, triple_in}

pub pair-other : (items : List Snap) → (length items ≡ 2 → ⊥) → pair_in (list tt (items_view items)) ≡ None
pair-other [] other = refl
pair-other (u ∷ []) other = refl
pair-other (u ∷ v ∷ []) other = absurd (other refl)
pair-other (u ∷ v ∷ w ∷ items) other = refl

pub triple-other : (items : List Snap) → (length items ≡ 3 → ⊥) → triple_in (list tt (items_view items)) ≡ None
triple-other [] other = refl
triple-other (u ∷ []) other = refl
triple-other (u ∷ v ∷ []) other = refl
triple-other (u ∷ v ∷ w ∷ []) other = absurd (other refl)
triple-other (u ∷ v ∷ w ∷ x ∷ items) other = refl

pub pair-same : (vs : List Snap) (t d : Snap) → length vs ≡ 2 → t ≡ get_or vs 0 t → d ≡ get_or vs 1 d → pair_in (list tt (items_view vs)) ≡ Some (view t, view d)
pair-same [] t d two first second = absurd (omega (arith, two))
pair-same (x ∷ []) t d two first second = absurd (omega (arith, two))
pair-same (x ∷ y ∷ []) t d two first second = rw (first, second) refl
pair-same (x ∷ y ∷ z ∷ vs) t d two first second = absurd (omega (arith, two))

pub triple-same : (vs : List Snap) (t d e : Snap) → length vs ≡ 3 → t ≡ get_or vs 0 t → d ≡ get_or vs 1 d → e ≡ get_or vs 2 e → triple_in (list tt (items_view vs)) ≡ Some (view t, view d, view e)
triple-same [] t d e three first second third = absurd (omega (arith, three))
triple-same (x ∷ []) t d e three first second third = absurd (omega (arith, three))
triple-same (x ∷ y ∷ []) t d e three first second third = absurd (omega (arith, three))
triple-same (x ∷ y ∷ z ∷ []) t d e three first second third = rw (first, second, third) refl
triple-same (x ∷ y ∷ z ∷ w ∷ vs) t d e three first second third = absurd (omega (arith, three))

-- objects with one key
pub form-other : (fs : List Field) → (length fs ≡ 1 → ⊥) → own_form (dict tt (fields_view fs)) ≡ here Shape
form-other [] other = refl
form-other (f ∷ []) other = absurd (other refl)
form-other (f ∷ g ∷ fs) other = refl

pub form-one : (fs : List Field) (f : Field) → length fs ≡ 1 → f ≡ get_or fs 0 f → own_form (dict tt (fields_view fs)) ≡ known f.key (view f.value) (key_of f.key)
form-one [] f one here = absurd (omega (arith, one))
form-one (g ∷ []) f one here = rw (here) (rw (entry-fields g) refl)
form-one (g ∷ h ∷ fs) f one here = absurd (omega (arith, one))
