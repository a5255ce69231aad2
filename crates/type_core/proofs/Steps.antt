-- Values of records by their keys, and what making comes to at them.
use Rattle.std.proofs.Common.{◌≡◌, ℕ, List, [], ◌∷◌, Bool, true, false, Option, Some, None, if◌then◌else◌, refl, subst, ◌<◌, length, get_or, zero, suc, arith}
use Rattle.std.specs.Option.{option_map}
use Rattle.std.specs.Str.{bytes_eq}
use Rattle.snap_core.specs.Value.{Value, no_members, member, IsPlain, ArePlainMembers, ArePlain, Fields}
use Rattle.snap_core.specs.declared.snap.Field.{Field}
use Rattle.snap_core.specs.declared.snap.Snap.{Snap}
use Rattle.snap_core.specs.View.{view, fields_view, items_view}
use Rattle.type_table.specs.declared.shape.Property.{Property}
use Rattle.type_table.specs.Table.{Table}
use Rattle.type_core.specs.Making.{Maker, maker_of, fields_of, field_at, property_made}
use Rattle.snap_core.specs.Value.{value_at}
use Rattle.snap_core.proofs.Views.{entry-fields}

-- what stands under a key is what making the value under it comes to
pub field_at-fields_of : (table : Table) (defaults : List (Option Snap)) (key : List ℕ) (ms : Fields)
    → field_at key (fields_of table defaults ms) ≡ option_map (maker_of table defaults) (value_at key ms)
field_at-fields_of table defaults key no_members = refl
field_at-fields_of table defaults key (member k v ms) =
    let P : Bool → Type 0 = λ b. ◌≡◌ {A = Option Maker} (if b then Some (maker_of table defaults v) else field_at key (fields_of table defaults ms)) (option_map (maker_of table defaults) (if b then Some v else value_at key ms)) in
    elim (bytes_eq key k) as P [ true ↦ refl | false ↦ field_at-fields_of table defaults key ms ]

-- the value of each field is plain where the record is
pub plain_value : (fields : List Field) (at : ℕ) (field : Field) → ArePlainMembers (fields_view fields) → at < length fields → IsPlain (view (get_or fields at field).value)
plain_value [] at field plain within = absurd (omega arith)
plain_value (f ∷ fs) zero field plain within = let P : List ℕ × Value → Type 0 = λ e. IsPlain e.1 in subst P (entry-fields f) plain.0
plain_value (f ∷ fs) (suc at) field plain within = plain_value fs at field plain.2 (omega arith)

-- each item is plain where the list is
pub plain_item : (items : List Snap) (at : ℕ) (item : Snap) → ArePlain (items_view items) → at < length items → IsPlain (view (get_or items at item))
plain_item [] at item plain within = absurd (omega arith)
plain_item (s ∷ ss) zero item plain within = plain.0
plain_item (s ∷ ss) (suc at) item plain within = plain_item ss at item plain.1 (omega arith)

-- what a property comes to where the record has a field of its name, and where it has none
module _ (table : Table) (defaults : List (Option Snap)) (absent : Maker) (p : Property) (ms : Fields) where
  pub property_made-present : (v : Value) → value_at p.name ms ≡ Some v
      → property_made absent p (field_at p.name (fields_of table defaults ms)) ≡ maker_of table defaults v p.of.0
  property_made-present v h = rw (field_at-fields_of table defaults p.name ms, h)

  pub property_made-absent : value_at p.name ms ≡ None
      → property_made absent p (field_at p.name (fields_of table defaults ms)) ≡ absent p.of.0
  property_made-absent h = rw (field_at-fields_of table defaults p.name ms, h)
