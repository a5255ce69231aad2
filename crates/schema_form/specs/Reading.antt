-- Which value of a schema file each type expression of its form is read from, one form of expression a row.
use Rattle.std.specs.Prelude.{◌≡◌, ℕ, List, [], ◌∷◌, map, codes, slice_get, Option, Some, None}
use Rattle.std.specs.Option.{option_map}
use Rattle.snap_core.specs.Value.{Value, integer, text, list, dict, no_parts, part, no_members, member, value_at, Items, Fields}
use Rattle.snap_core.specs.View.{view}
use Rattle.snap_core.specs.declared.snap.Snap.{Snap}
use Rattle.snap_core.specs.declared.number.TypeNo.{TypeNo}
use Rattle.snap_core.specs.declared.number.ModelNo.{ModelNo}
use Rattle.type_table.specs.declared.shape.Condition.{Condition}
use Rattle.type_table.specs.declared.shape.Condition.TheVariants.{Min, Max, MinLength, MaxLength, StartsWith}
use Rattle.type_table.specs.declared.shape.Property.{Property}
use Rattle.schema_form.specs.declared.form.SchemaForm.{SchemaForm}
use Rattle.schema_form.specs.declared.form.Entry.{Entry}
use Rattle.schema_form.specs.declared.form.EntryNo.{EntryNo}
use Rattle.schema_form.specs.declared.form.ModelForm.{ModelForm}
use Rattle.schema_form.specs.declared.form.Expression.{Expression}
use Rattle.schema_form.specs.declared.form.Holder.{Holder}
use Rattle.schema_form.specs.declared.form.Word.{Word}
use Rattle.schema_form.specs.declared.form.Word.TheVariants.{Plain, Named}
use Rattle.schema_form.specs.declared.form.Kind.{Kind}
use Rattle.schema_form.specs.declared.form.Kind.TheVariants as kind
use Rattle.schema_form.specs.Words.{plain_of}
use Rattle.schema_form.specs.Pointers.{holder_key}

-- what the type expression of a number says
abbrev pub kind_at : SchemaForm → ℕ → Option Kind
kind_at form t = option_map (λ (e : Expression). e.kind) (slice_get form.expressions t)

-- the names of the entries, in order
abbrev pub entry_names : SchemaForm → List (List ℕ)
entry_names form = map (λ (e : Entry). e.name) form.entries

-- the name of the entry of a number
abbrev pub name_at : SchemaForm → EntryNo → Option (List ℕ)
name_at form e = slice_get (entry_names form) e.0

-- a text is the word for a plain type, or otherwise the name of the entry
abbrev pub IsWord : SchemaForm → Word → List ℕ → Type 0
IsWord form (Plain plain) s = plain_of s ≡ Some plain
IsWord form (Named e) s = (plain_of s ≡ None) × (name_at form e ≡ Some s)

-- a record with one field, and a list of two items
abbrev pub keyed : List ℕ → Value → Value
keyed key v = dict tt (member key v no_members)

abbrev pub pair : Value → Value → Value
pair v w = list tt (part v (part w no_parts))

-- the items that texts are
abbrev pub text_items : List (List ℕ) → Items
text_items [] = no_parts
text_items (s ∷ texts) = part (text s) (text_items texts)

-- the key and the value of a condition, and the fields that conditions are
abbrev pub condition_key : Condition → List ℕ
condition_key (Min z) = codes "min"
condition_key (Max z) = codes "max"
condition_key (MinLength z) = codes "minLength"
condition_key (MaxLength z) = codes "maxLength"
condition_key (StartsWith s) = codes "startsWith"

abbrev pub condition_value : Condition → Value
condition_value (Min z) = integer z
condition_value (Max z) = integer z
condition_value (MinLength z) = integer z
condition_value (MaxLength z) = integer z
condition_value (StartsWith s) = text s

abbrev pub condition_fields : List Condition → Fields
condition_fields [] = no_members
condition_fields (c ∷ conditions) = member (condition_key c) (condition_value c) (condition_fields conditions)

mutual
  -- Type expression t of a form is read from a value.
  pub data IsReadFrom (form : SchemaForm) : ℕ → Value → Type 0 where
    -- a text
    word : (t : ℕ) (w : Word) (s : List ℕ) → kind_at form t ≡ Some (kind.Word w) → IsWord form w s
        → IsReadFrom form t (text s)
    -- a record with one field, whose key says the form
    literal : (t : ℕ) (l : Snap) → kind_at form t ≡ Some (kind.Literal l)
        → IsReadFrom form t (keyed (codes "literal") (view l))
    enumeration : (t : ℕ) (texts : List (List ℕ)) → kind_at form t ≡ Some (kind.Enumeration texts)
        → IsReadFrom form t (keyed (codes "enumeration") (list tt (text_items texts)))
    optional : (t : ℕ) (u : TypeNo) (default : Snap) (v : Value) → kind_at form t ≡ Some (kind.Optional u default)
        → IsReadFrom form u.0 v → IsReadFrom form t (keyed (codes "optional") (pair v (view default)))
    holder : (t : ℕ) (h : Holder) (u : TypeNo) (v : Value) → kind_at form t ≡ Some (kind.Holder h u)
        → IsReadFrom form u.0 v → IsReadFrom form t (keyed (holder_key h) v)
    union : (t : ℕ) (members : List TypeNo) (vs : Items) → kind_at form t ≡ Some (kind.Union members)
        → AreReadFrom form members vs → IsReadFrom form t (keyed (codes "union") (list tt vs))
    refinement : (t : ℕ) (u : TypeNo) (conditions : List Condition) (v : Value)
        → kind_at form t ≡ Some (kind.Refinement u conditions) → IsReadFrom form u.0 v
        → IsReadFrom form t (keyed (codes "refinement") (pair v (dict tt (condition_fields conditions))))
    reference : (t : ℕ) (e : EntryNo) (s : List ℕ) → kind_at form t ≡ Some (kind.Reference e)
        → name_at form e ≡ Some s → IsReadFrom form t (keyed (codes "reference") (text s))
    safe_reference : (t : ℕ) (e : EntryNo) (s : List ℕ) → kind_at form t ≡ Some (kind.SafeReference e)
        → name_at form e ≡ Some s → IsReadFrom form t (keyed (codes "safeReference") (text s))
    -- a model, with a field for each property; other parts may stand beside them
    model : (t : ℕ) (m : ModelNo) (its : ModelForm) (parts fields : Fields) → kind_at form t ≡ Some (kind.Model m)
        → slice_get form.models m.0 ≡ Some its → value_at (codes "properties") parts ≡ Some (dict tt fields)
        → AreReadUnder form its.properties fields → IsReadFrom form t (keyed (codes "model") (dict tt parts))

  -- the type expressions of a union's members are read from these items
  pub data AreReadFrom (form : SchemaForm) : List TypeNo → Items → Type 0 where
    no_more : AreReadFrom form [] no_parts
    one_more : (u : TypeNo) (us : List TypeNo) (v : Value) (vs : Items) → IsReadFrom form u.0 v
        → AreReadFrom form us vs → AreReadFrom form (u ∷ us) (part v vs)

  -- the type expressions of properties are read from the values under their names
  pub data AreReadUnder (form : SchemaForm) : List Property → Fields → Type 0 where
    no_property : AreReadUnder form [] no_members
    one_property : (p : Property) (ps : List Property) (v : Value) (fields : Fields) → IsReadFrom form p.of.0 v
        → AreReadUnder form ps fields → AreReadUnder form (p ∷ ps) (member p.name v fields)
