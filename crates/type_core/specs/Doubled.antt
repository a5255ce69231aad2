-- The models with identifiers in a value, and the first of them whose identifier stood earlier.
use Rattle.std.specs.Prelude.{ℕ, ◌+◌, eqb, List, [], ◌∷◌, ◌++◌, map, Bool, false, ◌&&◌, Option, Some, None, decimal, if◌then◌else◌}
use Rattle.std.specs.List.{list_any}
use Rattle.std.specs.Ordering.{int_eq}
use Rattle.std.specs.Str.{bytes_eq}
use Rattle.pointer_core.specs.Path.{Path}
use Rattle.snap_core.specs.Value.{Value, null, boolean, integer, text, list, dict, no_parts, part, no_members, member, Items, Fields}
use Rattle.snap_core.specs.declared.number.ModelNo.{ModelNo}
use Rattle.snap_core.specs.declared.ident.Ident.{Ident}
use Rattle.snap_core.specs.declared.ident.Ident.TheVariants as ident
use Rattle.type_table.specs.declared.shape.Shape.{Shape}
use Rattle.type_table.specs.declared.shape.Shape.TheVariants.{Array, Map, Model}
use Rattle.type_table.specs.declared.shape.Property.{Property}
use Rattle.type_table.specs.Table.{Table, Catalog, properties_of}
use Rattle.type_table.specs.Identifiers.{identifier_of, ident_under}
use Rattle.type_core.specs.Judging.{judged_by}

-- a model with an identifier, and where it stands
pub record Identified : Type 0 where
  pub model : ModelNo
  pub identifier : Ident
  pub path : Path

-- each of them one step further down
abbrev pub lowered : List ℕ → List Identified → List Identified
lowered token ids = map (λ (i : Identified). record i { path = token ∷ i.path }) ids

-- the models with identifiers in a value at each type, by number
abbrev pub Finder : Type 0
Finder = ℕ → List Identified

-- those in the items from this index on
abbrev pub found_in_items : ℕ → ℕ → List Finder → List Identified
found_in_items i t [] = []
found_in_items i t (f ∷ fs) = lowered (decimal i) (f t) ++ found_in_items (i + 1) t fs

-- those in the values of a map
abbrev pub found_in_values : ℕ → List (List ℕ × Finder) → List Identified
found_in_values t [] = []
found_in_values t (f ∷ fs) = lowered f.0 (f.1 t) ++ found_in_values t fs

-- those in the field under a property's name
abbrev pub found_under : Property → List (List ℕ × Finder) → List Identified
found_under p [] = []
found_under p (f ∷ fs) = if bytes_eq p.name f.0 then lowered p.name (f.1 p.of.0) else found_under p fs

abbrev pub found_in_properties : List Property → List (List ℕ × Finder) → List Identified
found_in_properties [] fs = []
found_in_properties (p ∷ ps) fs = found_under p fs ++ found_in_properties ps fs

-- a record's model itself, where it has an identifier
abbrev pub found_itself : ModelNo → Option Ident → List Identified
found_itself m (Some i) = record { model = m; identifier = i; path = [] } ∷ []
found_itself m None = []

-- a record's model, and then those in its properties
abbrev pub found_in_model : Table → ModelNo → Fields → List (List ℕ × Finder) → List Identified
found_in_model table m ms fs =
    found_itself m (ident_under (identifier_of table m.0) ms) ++ found_in_properties (properties_of table m.0) fs

-- those in a list or in a record, by the shape that judges it. What is frozen isn't entered
abbrev pub found_in_list : List Finder → Option Shape → List Identified
found_in_list fs (Some (Array u)) = found_in_items 0 u.0 fs
found_in_list fs _ = []

abbrev pub found_in_record : Table → Fields → List (List ℕ × Finder) → Option Shape → List Identified
found_in_record table ms fs (Some (Map u)) = found_in_values u.0 fs
found_in_record table ms fs (Some (Model m)) = found_in_model table m ms fs
found_in_record table ms fs _ = []

abbrev mutual
  pub finder_of : Table → Value → Finder
  finder_of table null t = []
  finder_of table (boolean b) t = []
  finder_of table (integer z) t = []
  finder_of table (text s) t = []
  finder_of table (list a ps) t = found_in_list (finders_of table ps) (judged_by table (list a ps) t)
  finder_of table (dict a ms) t = found_in_record table ms (keyed_finders_of table ms) (judged_by table (dict a ms) t)

  pub finders_of : Table → Items → List Finder
  finders_of table no_parts = []
  finders_of table (part v ps) = finder_of table v ∷ finders_of table ps

  pub keyed_finders_of : Table → Fields → List (List ℕ × Finder)
  keyed_finders_of table no_members = []
  keyed_finders_of table (member k v ms) = (k, finder_of table v) ∷ keyed_finders_of table ms

-- The models with identifiers in a value of the root's model, in document order.
abbrev pub identifiers_of : Catalog → Value → List Identified
identifiers_of types (dict a ms) = found_in_model types.table types.root ms (keyed_finders_of types.table ms)
identifiers_of types _ = []

-- a model and an identifier
abbrev pub Key : Type 0
Key = ModelNo × Ident

abbrev pub key_of : Identified → Key
key_of i = (i.model, i.identifier)

-- A text and a number are never the same identifier.
abbrev pub same_ident : Ident → Ident → Bool
same_ident (ident.Text s) (ident.Text u) = bytes_eq s u
same_ident (ident.Number y) (ident.Number z) = int_eq y z
same_ident _ _ = false

-- the same identifier of the same model
abbrev pub same_key : Key → Key → Bool
same_key k l = eqb k.0.0 l.0.0 && same_ident k.1 l.1

-- the path of the first whose model and identifier stood earlier, or are among those seen
abbrev pub doubled_after : List Key → List Identified → Option Path
doubled_after seen [] = None
doubled_after seen (i ∷ is) =
    if list_any (same_key (key_of i)) seen then Some i.path else doubled_after (seen ++ key_of i ∷ []) is

abbrev pub doubled_of : List Identified → Option Path
doubled_of ids = doubled_after [] ids
