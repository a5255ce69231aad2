-- The parts of nodes, as the tree's words see them.
use Rattle.std.proofs.Common.{◌≡◌, ℕ, ◌<◌, ◌≤◌, List, [], ◌∷◌, length, get_or, Bool, true, false, Option, Some, None, refl, sym, ◌∙◌, ap}
use Rattle.std.specs.Prelude.{slice_get, if◌then◌else◌}
use Rattle.std.specs.Option.{option_map}
use Rattle.std.specs.Str.{bytes_eq}
use Rattle.std.proofs.lemmas.Option.{slice_get-map, slice_get-get_or, slice_get_past}
use Rattle.snap_core.specs.Value.{value_at}
use Rattle.snap_core.specs.declared.number.NodeNo.{NodeNo}
use Rattle.edit_core.specs.declared.kind.Kind.TheVariants as kind
use Rattle.edit_core.specs.Labelled.{Entry, entries, entries_in, bare, bare_fields}
use Rattle.edit_core.specs.Template.{entry_at}
use Rattle.edit_core.proofs.Logged.{items-in, entries-in}
use Rattle.node_core.specs.declared.labelled.Label.{Label}
use Rattle.node_core.specs.declared.labelled.Labelled.{Labelled}
use Rattle.node_core.specs.declared.labelled.Labelled
use Rattle.node_core.specs.declared.labelled.LabelledField.{LabelledField}
use Rattle.node_core.specs.View.{labelled, field, items, fields}
use Rattle.node_core.proofs.Views.{labelled-Array, labelled-Record, field-is}
use Rattle.snap_core.specs.declared.number.TypeNo.{TypeNo}
use Rattle.tree_core.specs.declared.place.Place.TheVariants.{Prop, Item, Key}
use Rattle.tree_core.specs.Reading.{part_of, property_in, value_in, key_of_map}

-- the keys of a map

pub key-there : (fs : List LabelledField) (i : ℕ) (f : LabelledField) → f ≡ get_or fs i f → i < length fs
    → Some f.key ≡ option_map (λ e. e.0) (slice_get (fields fs) i)
key-there fs i f is inside =
    ap (λ e. Some e.0) (sym (field-is f))
    ∙ ap (option_map (λ e. e.0)) (ap (λ g. Some (field g)) is ∙ ap (option_map field) (sym (slice_get-get_or fs i f inside)) ∙ sym (slice_get-map field fs i))

pub key-not-there : (fs : List LabelledField) (i : ℕ) → length fs ≤ i → None ≡ option_map (λ e. e.0) (slice_get (fields fs) i)
key-not-there fs i out = sym (ap (option_map (λ e. e.0)) (slice_get-map field fs i ∙ ap (option_map field) (slice_get_past fs i out)))

pub key-of-map : (l : Label) (fs : List LabelledField) (i : ℕ) (t : TypeNo) → l.kind ≡ kind.Map t
    → option_map (λ e. e.0) (slice_get (fields fs) i) ≡ key_of_map i (labelled (Labelled.Record l fs))
key-of-map l fs i t is = rw (labelled-Record l fs, is, entries-in (fields fs)) refl

-- the parts at places

pub property-part : (n : NodeNo) (name : List ℕ) (l : Label) (fs : List LabelledField)
    → property_in name l.kind (fields fs) ≡ part_of (Prop n name) (labelled (Labelled.Record l fs))
property-part n name l fs = rw (labelled-Record l fs, entries-in (fields fs)) refl

pub value-part : (n : NodeNo) (key : List ℕ) (l : Label) (fs : List LabelledField)
    → value_in key l.kind (fields fs) ≡ part_of (Key n key) (labelled (Labelled.Record l fs))
value-part n key l fs = rw (labelled-Record l fs, entries-in (fields fs)) refl

pub item-part : (n : NodeNo) (i : ℕ) (l : Label) (xs : List Labelled)
    → option_map labelled (slice_get xs i) ≡ part_of (Item n i) (labelled (Labelled.Array l xs))
item-part n i l xs = rw (labelled-Array l xs, items-in (items xs)) (sym (slice_get-map labelled xs i))

-- the value of an entry

plain-first : (b : Bool) (e : Entry) (value : Option Rattle.snap_core.specs.Value.Value) (part : Option Rattle.edit_core.specs.Labelled.Labelled)
    → value ≡ option_map bare part → (if b then Some (bare e.1) else value) ≡ option_map bare (if b then Some e.1 else part)
plain-first true e value part same = refl
plain-first false e value part same = same

pub value-of-entry : (key : List ℕ) (es : List Entry) → value_at key (bare_fields (entries es)) ≡ option_map bare (entry_at key es)
value-of-entry key [] = refl
value-of-entry key (e ∷ es) = plain-first (bytes_eq key e.0) e (value_at key (bare_fields (entries es))) (entry_at key es) (value-of-entry key es)
