-- In sound types each reference leads to a model with an identifier.
use Rattle.std.proofs.Common.{◌≡◌, ℕ, ◌<◌, length, Bool, true, false, ◌||◌, Option, Some, None, IfSome, IsSome, refl, subst}
use Rattle.std.specs.Prelude.{IfNone, is_none}
use Rattle.std.proofs.lemmas.Option.{slice_get_within, get_or_from_slice_get}
use Rattle.snap_core.specs.declared.number.TypeNo.{TypeNo}
use Rattle.snap_core.specs.declared.number.ModelNo.{ModelNo}
use Rattle.type_table.specs.declared.shape.Shape.{Shape}
use Rattle.type_table.specs.declared.shape.Shape.TheVariants.{Model, Reference, Safe}
use Rattle.type_table.specs.declared.shape.Property.{Property}
use Rattle.type_table.specs.Table.{Catalog, shape_at, plan_of, IsShapeOf}
use Rattle.type_table.specs.Identifiers.{identifier_of, identifier_in, is_reference}
use Rattle.type_table.specs.Unions.{model_of_shape}
use Rattle.type_table.specs.Targets.{target_of}
use Rattle.type_core.specs.Sound.{IsSound}
use Rattle.type_core.proofs.Sound.{IsShapeOf-shape}

-- what a reference leads to is a model of the schema with an identifier
abbrev IsGood : Catalog → Option ModelNo → Type 0
IsGood types o = (m : ModelNo) × (o ≡ Some m) × (m.0 < length types.table.models) × IsSome (identifier_of types.table m.0)

module _ (types : Catalog) (sound : IsSound types) where
  model-known : (u : ℕ) (m : ModelNo) → shape_at types.table u ≡ Some (Model m) → m.0 < length types.table.models
  model-known u m e =
      let shape : Shape = Model m in
      let within = slice_get_within types.table.shapes u shape e in
      let P : Shape → Type 0 = IsShapeOf (plan_of types.table) in
      let of : IsShapeOf (plan_of types.table) shape = subst P (get_or_from_slice_get types.table.shapes u shape shape e) (IsShapeOf-shape types u shape sound within) in
      of.model

  -- the type that it leads to, where that has an identifier
  led-to : (u : TypeNo) → is_none (identifier_in types.table (shape_at types.table u.0)) ≡ false → IsGood types (model_of_shape (shape_at types.table u.0))
  led-to u some = by_shape (shape_at types.table u.0) refl some
    where
      by_shape : (o : Option Shape) → shape_at types.table u.0 ≡ o → is_none (identifier_in types.table o) ≡ false → IsGood types (model_of_shape o)
      by_shape (Some (Model m)) e h = (m, refl, model-known u.0 m e, by_property (identifier_of types.table m.0) h)
        where
          by_property : (p : Option Property) → is_none p ≡ false → IsSome p
          by_property (Some p) g = refl
          by_property None g = cc
      by_shape _ e h = cc

  or-false : (a b : Bool) → (a || b) ≡ false → a ≡ false
  or-false true b h = cc
  or-false false b h = refl

  good : (t : ℕ) (o : Option Shape) → shape_at types.table t ≡ o → is_reference o ≡ true → IsGood types (target_of types.table o)
  good t (Some (Reference u)) e is = led-to u (let led = sound.led t in rw e at led)
  good t (Some (Safe u)) e is = led-to u (or-false _ _ (let led = sound.led t in rw e at led))
  good t _ e is = cc

  other : (o : Option Shape) → is_reference o ≡ false → target_of types.table o ≡ None
  other (Some (Reference u)) is = cc
  other (Some (Safe u)) is = cc
  other _ is = refl

  target-cases : (t : ℕ) (o : Option Shape) → shape_at types.table t ≡ o → (b : Bool) → is_reference o ≡ b
      → IfSome (target_of types.table o) (λ m. m.0 < length types.table.models)
      × IfSome (target_of types.table o) (λ m. IsSome (identifier_of types.table m.0))
      × IfNone (target_of types.table o) (is_reference o ≡ false)
  target-cases t o e true is = let g = good t o e is in rw g.1 (g.2, g.3, tt)
  target-cases t o e false is = rw (other o is) (tt, tt, is)

  module _ (t : ℕ) where
    pub target-known : IfSome (target_of types.table (shape_at types.table t)) (λ m. m.0 < length types.table.models)
    target-known = (target-cases t (shape_at types.table t) refl (is_reference (shape_at types.table t)) refl).0

    pub target-identified : IfSome (target_of types.table (shape_at types.table t)) (λ m. IsSome (identifier_of types.table m.0))
    target-identified = (target-cases t (shape_at types.table t) refl (is_reference (shape_at types.table t)) refl).1

    pub target-none : IfNone (target_of types.table (shape_at types.table t)) (is_reference (shape_at types.table t) ≡ false)
    target-none = (target-cases t (shape_at types.table t) refl (is_reference (shape_at types.table t)) refl).2
