-- Only the types of expressions can be at fault: a model's own type leads nowhere, and is no identifier, no reference, no union and not optional.
use Rattle.std.proofs.Common.{◌≡◌, ℕ, zero, suc, ◌+◌, ◌-◌, ◌<◌, ◌≤◌, List, [], ◌∷◌, ◌++◌, length, map, slice_get, true, false, Option, Some, None, sym, subst, refl, inl, inr, arith, ◌∙◌}
use Rattle.std.specs.Prelude.{◌⊎◌, Contains}
use Rattle.std.proofs.lemmas.Bool.{cases_lt}
use Rattle.std.proofs.lemmas.List.{length-map}
use Rattle.snap_core.specs.declared.number.TypeNo.{TypeNo}
use Rattle.snap_core.specs.declared.number.ModelNo.{ModelNo}
use Rattle.pointer_core.specs.declared.schema_rule.SchemaRule.{SchemaRule}
use Rattle.type_table.specs.declared.shape.Shape.{Shape}
use Rattle.type_table.specs.declared.shape.Shape.TheVariants as shape
use Rattle.type_table.specs.Table.{Table, shape_at, leads_of}
use Rattle.type_table.specs.Names.{LeadsTo}
use Rattle.type_table.specs.Identifiers.{is_misplaced, misleads}
use Rattle.type_draft.specs.Faults.{HasFault, name, identifier, target, union, «default»}
use Rattle.schema_form.specs.declared.form.SchemaForm.{SchemaForm}
use Rattle.schema_form.specs.declared.form.Expression.{Expression}
use Rattle.schema_form.specs.declared.form.ModelForm.{ModelForm}
use Rattle.schema_form.specs.Pointers.{places_of}
use Rattle.schema_read.specs.Types.{kind_shape, own_shapes, kinds_of, table_of}

-- a shape that is a model's own, if it is one
abbrev IsOwn : Option Shape → Type 0
IsOwn None = Unit {0}
IsOwn (Some (shape.Model m)) = Unit {0}
IsOwn _ = ⊥

-- what stands among the models' own types is a model
own_shape : (m : ℕ) (models : List ModelForm) (i : ℕ) → IsOwn (slice_get (own_shapes m models) i)
own_shape m [] i = tt
own_shape m (model ∷ models) zero = tt
own_shape m (model ∷ models) (suc i) = own_shape (m + 1) models i

-- what stands past the first list stands in the second
slice_get-past : {X : Type 0} (xs ys : List X) (i : ℕ) → length xs ≤ i → slice_get (xs ++ ys) i ≡ slice_get ys (i - length xs)
slice_get-past [] ys i past = let e : i - 0 ≡ i = omega arith in rw e refl
slice_get-past (y ∷ xs) ys zero past = absurd (omega arith)
slice_get-past (y ∷ xs) ys (suc i) past =
    let e : suc i - suc (length xs) ≡ i - length xs = omega arith in
    rw e (slice_get-past xs ys i (omega arith))

-- a model's own type leads nowhere
no_lead : (table : Table) (t : ℕ) (s : Shape) (u : TypeNo) → IsOwn (shape_at table t) → shape_at table t ≡ Some s → Contains (leads_of s) u → ⊥
no_lead table t s u own is leads = by_shape s (subst IsOwn is own) leads where
  by_shape : (s : Shape) → IsOwn (Some s) → Contains (leads_of s) u → ⊥
  by_shape (shape.Model m) own leads = omega (arith, leads.1)
  by_shape _ own leads = own

-- nor is it an identifier or a reference
own_cases : (o : Option Shape) → IsOwn o → (o ≡ None) ⊎ ((m : ModelNo) × (o ≡ Some (shape.Model m)))
own_cases None own = inl refl
own_cases (Some (shape.Model m)) own = inr (m, refl)
own_cases (Some _) own = absurd own

own_placed : (table : Table) (t : ℕ) → IsOwn (shape_at table t) → is_misplaced table t ≡ true → ⊥
own_placed table t own h = elim (own_cases (shape_at table t) own) [
  | inl e ↦ let placed : is_misplaced table t ≡ false = rw e refl in cc
  | inr model ↦ let placed : is_misplaced table t ≡ false = rw model.1 refl in cc
]

own_led : (table : Table) (t : ℕ) → IsOwn (shape_at table t) → misleads table t ≡ true → ⊥
own_led table t own h = elim (own_cases (shape_at table t) own) [
  | inl e ↦ let led : misleads table t ≡ false = rw e refl in cc
  | inr model ↦ let led : misleads table t ≡ false = rw model.1 refl in cc
]

not_own : (table : Table) (t : ℕ) (rule : SchemaRule) → HasFault table t rule → IsOwn (shape_at table t) → ⊥
not_own table _ _ (name t (LeadsTo.at_once _ s u is leads)) own = no_lead table t s u own is leads
not_own table _ _ (name t (LeadsTo.by_way _ s u w is leads on)) own = no_lead table t s u own is leads
not_own table _ _ (identifier t misplaced) own = own_placed table t own misplaced
not_own table _ _ (target t misled) own = own_led table t own misled
not_own table _ _ (union t ms is apart) own = subst IsOwn is own
not_own table _ _ («default» t u d is none) own = subst IsOwn is own

-- a type at fault is that of an expression
pub HasFault-expression : (form : SchemaForm) (t : ℕ) (rule : SchemaRule) → HasFault (table_of form) t rule → t < length (places_of form.expressions)
HasFault-expression form t rule fault =
    let shapes : List Shape = map (kind_shape form.entries) (kinds_of form.expressions) in
    let count : length shapes ≡ length (places_of form.expressions) =
    length-map (kinds_of form.expressions) (kind_shape form.entries) ∙ length-map form.expressions (λ (e : Expression). e.kind)
    ∙ sym (length-map form.expressions (λ (e : Expression). e.place)) in
    elim (cases_lt t (length shapes)) [
      | inl below ↦ omega (arith, below, count)
      | inr past ↦
          let own = subst IsOwn (sym (slice_get-past shapes (own_shapes 0 form.models) t past)) (own_shape 0 form.models (t - length shapes)) in
          absurd (not_own (table_of form) t rule fault own)
    ]
