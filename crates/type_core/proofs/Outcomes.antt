-- What an outcome that is made comes from.
use Rattle.std.proofs.Common.{◌≡◌, ℕ, List, Bool, true, false, Option, Some, None, Ok, Err, if◌then◌else◌, option_map, refl, ◌∙◌, ap}
use Rattle.std.specs.Str.{bytes_eq}
use Rattle.snap_core.specs.Value.{Value, list, dict, part, no_members, member, Items, Fields}
use Rattle.snap_core.specs.declared.snap.Snap.{Snap}
use Rattle.type_table.specs.declared.shape.Property.{Property}
use Rattle.type_table.specs.Table.{Table}
use Rattle.snap_core.specs.Value.{value_at}
use Rattle.pointer_core.specs.declared.refusal.Rule.TheVariants.{Key}
use Rattle.snap_core.specs.declared.ident.Ident.{Ident}
use Rattle.type_table.specs.Identifiers.{is_keyed}
use Rattle.type_core.specs.Making.{Outcome, refused, keyed, under, Maker, default_made, absent, part_made, entry_made, field_at, property_made, list_of, record_of, maker_of, fields_of, made_by}

-- what an item or an entry in front that is made comes from
pub part_made-Ok : (o : Outcome Value) (rest : Outcome Items) (token : List ℕ) (ps : Items)
    → part_made (under token o) rest ≡ Ok ps → (v : Value) × (vs : Items) × (o ≡ Ok v) × (rest ≡ Ok vs) × (ps ≡ part v vs)
part_made-Ok (Err e) rest token ps h = cc
part_made-Ok (Ok v) (Err e) token ps h = cc
part_made-Ok (Ok v) (Ok vs) token ps h = (v, vs, refl, refl, cc)

pub entry_made-Ok : (key : List ℕ) (o : Outcome Value) (rest : Outcome Fields) (ms : Fields)
    → entry_made key (under key o) rest ≡ Ok ms → (v : Value) × (vs : Fields) × (o ≡ Ok v) × (rest ≡ Ok vs) × (ms ≡ member key v vs)
entry_made-Ok key (Err e) rest ms h = cc
entry_made-Ok key (Ok v) (Err e) ms h = cc
entry_made-Ok key (Ok v) (Ok vs) ms h = (v, vs, refl, refl, cc)

pub list_of-Ok : (o : Outcome Items) (s : Value) → list_of o ≡ Ok s → (ps : Items) × (o ≡ Ok ps) × (s ≡ list tt ps)
list_of-Ok (Err e) s h = cc
list_of-Ok (Ok ps) s h = (ps, refl, cc)

pub record_of-Ok : (o : Outcome Fields) (s : Value) → record_of o ≡ Ok s → (ms : Fields) × (o ≡ Ok ms) × (s ≡ dict tt ms)
record_of-Ok (Err e) s h = cc
record_of-Ok (Ok ms) s h = (ms, refl, cc)

-- what making the value under a key comes to
pub maker-under : (table : Table) (defaults : List (Option Snap)) (key : List ℕ) (ms : Fields)
    → field_at key (fields_of table defaults ms) ≡ option_map (maker_of table defaults) (value_at key ms)
maker-under table defaults key no_members = refl
maker-under table defaults key (member k v ms) =
    let P : Bool → Type 0 = λ b.
    ◌≡◌ {A = Option Maker} (if b then Some (maker_of table defaults v) else field_at key (fields_of table defaults ms))
    (option_map (maker_of table defaults) (if b then Some v else value_at key ms)) in
    elim (bytes_eq key k) as P [ true ↦ refl | false ↦ maker-under table defaults key ms ]

pub property_made-made_by : (table : Table) (defaults : List (Option Snap)) (p : Property) (ms : Fields)
    → property_made (absent table defaults) p (field_at p.name (fields_of table defaults ms)) ≡ made_by table defaults p.of.0 (value_at p.name ms)
property_made-made_by table defaults p ms = ap (property_made (absent table defaults) p) (maker-under table defaults p.name ms) ∙ by_value (value_at p.name ms)
  where
    by_value : (x : Option Value) → property_made (absent table defaults) p (option_map (maker_of table defaults) x) ≡ made_by table defaults p.of.0 x
    by_value None = refl
    by_value (Some v) = refl

-- a value that is made under its key stands under its identifier
pub keyed-Ok : (key : List ℕ) (i : Option Ident) (o : Outcome Value) (v : Value) → keyed key i o ≡ Ok v → (o ≡ Ok v) × (is_keyed key i ≡ true)
keyed-Ok key i (Err e) v h = cc
keyed-Ok key i (Ok w) v h = by_test (is_keyed key i) refl h
  where
    by_test : (b : Bool) → is_keyed key i ≡ b → (if b then Ok w else refused Key) ≡ Ok v → (◌≡◌ {A = Outcome Value} (Ok w) (Ok v)) × (is_keyed key i ≡ true)
    by_test true e g = (g, e)
    by_test false e g = cc

-- a default that is made is known
pub default_made-Ok : (o : Option Value) (s : Value) → default_made o ≡ Ok s → o ≡ Some s
default_made-Ok None s h = cc
default_made-Ok (Some v) s h = let same : v ≡ s = cc in ap Some same
