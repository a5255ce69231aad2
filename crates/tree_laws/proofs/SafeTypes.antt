-- The identifier of a model is no safe reference.
use Rattle.std.proofs.Common.{◌≡◌, ℕ, List, true, option_map, Option, Some, None, refl, ap, subst, ◌∙◌, if◌then◌else◌}
use Rattle.snap_core.specs.declared.number.ModelNo.{ModelNo}
use Rattle.type_table.specs.declared.shape.Shape.{Shape}
use Rattle.type_table.specs.declared.shape.Shape.TheVariants as shape
use Rattle.type_table.specs.declared.shape.Property.{Property}
use Rattle.type_table.specs.Table.{Table, Catalog, shape_at, properties_of}
use Rattle.type_table.specs.Identifiers.{is_identifier, identifies, identifier_of, is_safe}
use Rattle.type_table.specs.Targets.{target_of}
use Rattle.type_table.specs.Unions.{property_at}
use Rattle.type_core.specs.Sound.{IsSound}
use Rattle.type_core.proofs.Sound.{AreNamed-properties_of}
use Rattle.edit_core.specs.declared.kind.Kind.TheVariants as kind
use Rattle.tree_core.specs.Settling.{safe_target}
use Rattle.reconcile_core.specs.RealTypes.{type_or_none}
use Rattle.tree_core.specs.TypesTyping.{typing_of, type_under}
use Rattle.tree_laws.proofs.Named.{IsFound, is-found}

unsafe : (table : Table) (s : Option Shape) → is_identifier s ≡ true → (if is_safe s then target_of table s else None) ≡ None
unsafe table None h = absurd (cc)
unsafe table (Some shape.Identifier) h = refl
unsafe table (Some shape.IdentifierNumber) h = refl
unsafe table s h = absurd (cc)

-- the type under the name of an identifier
named-type : (table : Table) (m : ModelNo) (p : Property) → property_at p.name (properties_of table m.0) ≡ Some p → type_under table (kind.Model m) p.name ≡ p.of.0
named-type table m p h = ap (type_or_none table) h

pub identifier-unsafe : (types : Catalog) → IsSound types → (m : ModelNo) (name : List ℕ) → (typing_of types.table).identifier_of m ≡ Some name
    → safe_target types.table (type_under types.table (kind.Model m) name) ≡ None
identifier-unsafe types sound m name h = by (identifier_of types.table m.0) refl where
  of_property : (p : Property) → identifier_of types.table m.0 ≡ Some p → p.name ≡ name → safe_target types.table (type_under types.table (kind.Model m) name) ≡ None
  of_property p e same =
      let found : IsFound (identifies types.table) (properties_of types.table m.0) p = is-found (identifies types.table) (properties_of types.table m.0) p (AreNamed-properties_of types m.0 sound) e in
      let P : List ℕ → Type 0 = λ k. safe_target types.table (type_under types.table (kind.Model m) k) ≡ None in
      subst P same (ap (safe_target types.table) (named-type types.table m p found.named) ∙ unsafe types.table (shape_at types.table p.of.0) found.passes)

  by : (o : Option Property) → identifier_of types.table m.0 ≡ o → safe_target types.table (type_under types.table (kind.Model m) name) ≡ None
  by None e =
      let none : (typing_of types.table).identifier_of m ≡ None = ap (option_map (λ (p : Property). p.name)) e in
      absurd (cc)
  by (Some p) e =
      let some : (typing_of types.table).identifier_of m ≡ Some p.name = ap (option_map (λ (p : Property). p.name)) e in
      of_property p e (cc)
