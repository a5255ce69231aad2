-- What the view of each variant and of a field is; the view of a value's `Snap` is the value again, and the `Snap` of a view the same `Snap`.
use Rattle.std.proofs.Common.{◌≡◌, ℕ, ℤ, Bool, List, [], ◌∷◌, map, refl, sym, ◌∙◌, ap, subst}
use Rattle.snap_core.specs.declared.snap.Snap.{Snap}
use Rattle.snap_core.specs.declared.snap.Snap
use Rattle.snap_core.specs.declared.snap.Snap.TheFolds.{fold-roll-Snap, fold_out-Field, ind-Snap}
use Rattle.snap_core.specs.declared.snap.Snap.TheOpen.{Snap-F, Field-F}
use Rattle.snap_core.specs.declared.snap.Snap.TheVariants.{rolls-Null, rolls-Bool, rolls-Int, rolls-Text, rolls-List, rolls-Dict}
use Rattle.snap_core.specs.declared.snap.Field.{Field}
use Rattle.snap_core.specs.Value.{Value, null, boolean, integer, text, list, dict, no_parts, part, no_members, member, Items, Fields}
use Rattle.snap_core.specs.View.{view, view_step, entry_step, entry, items_view, fields_view}
use Rattle.snap_core.specs.Unview.{snap_of, items_of, entries_of}

-- an entry is the field's key and the view of its value
pub entry-fields : (f : Field) → entry f ≡ (f.key, view f.value)
entry-fields f = fold_out-Field Value (List ℕ × Value) view_step entry_step f

-- the view of each variant
pub view-Null : view Snap.Null ≡ null
view-Null = ap view (sym rolls-Null) ∙ fold-roll-Snap Value (List ℕ × Value) view_step entry_step Snap-F.Null

pub view-Bool : (b : Bool) → view (Snap.Bool b) ≡ boolean b
view-Bool b = ap view (sym (rolls-Bool b)) ∙ fold-roll-Snap Value (List ℕ × Value) view_step entry_step (Snap-F.Bool b)

pub view-Int : (z : ℤ) → view (Snap.Int z) ≡ integer z
view-Int z = ap view (sym (rolls-Int z)) ∙ fold-roll-Snap Value (List ℕ × Value) view_step entry_step (Snap-F.Int z)

pub view-Text : (s : List ℕ) → view (Snap.Text s) ≡ text s
view-Text s = ap view (sym (rolls-Text s)) ∙ fold-roll-Snap Value (List ℕ × Value) view_step entry_step (Snap-F.Text s)

pub view-List : (vs : List Snap) → view (Snap.List vs) ≡ list tt (items_view vs)
view-List vs = ap view (sym (rolls-List vs)) ∙ fold-roll-Snap Value (List ℕ × Value) view_step entry_step (Snap-F.List vs)

pub view-Dict : (fs : List Field) → view (Snap.Dict fs) ≡ dict tt (fields_view fs)
view-Dict fs = ap view (sym (rolls-Dict fs)) ∙ fold-roll-Snap Value (List ℕ × Value) view_step entry_step (Snap-F.Dict fs)

mutual
  pub view-snap_of : (v : Value) → view (snap_of v) ≡ v
  view-snap_of null = view-Null
  view-snap_of (boolean b) = view-Bool b
  view-snap_of (integer z) = view-Int z
  view-snap_of (text s) = view-Text s
  view-snap_of (list a ps) = view-List (items_of ps) ∙ ap (list tt) (items_view-items_of ps)
  view-snap_of (dict a ms) = view-Dict (entries_of ms) ∙ ap (dict tt) (fields_view-entries_of ms)

  pub items_view-items_of : (ps : Items) → items_view (items_of ps) ≡ ps
  items_view-items_of no_parts = refl
  items_view-items_of (part v ps) = rw (view-snap_of v, items_view-items_of ps)

  pub fields_view-entries_of : (ms : Fields) → fields_view (entries_of ms) ≡ ms
  fields_view-entries_of no_members = refl
  fields_view-entries_of (member k v ms) = rw (entry-fields (record { key = k; value = snap_of v }), view-snap_of v, fields_view-entries_of ms)

abbrev Returns : Snap → Type 0
Returns s = snap_of (view s) ≡ s

-- the field of an entry
abbrev field_of : List ℕ × Value → Field
field_of e = record { key = e.0; value = snap_of e.1 }

abbrev FieldReturns : Field → Type 0
FieldReturns f = field_of (entry f) ≡ f

abbrev SnapSuch : Type 0
SnapSuch = (s : Snap) × Returns s

abbrev FieldSuch : Type 0
FieldSuch = (f : Field) × FieldReturns f

items_return : (vs : List SnapSuch) → items_of (items_view (map (λ e. e.0) vs)) ≡ map (λ e. e.0) vs
items_return [] = refl
items_return (v ∷ vs) = rw (v.1, items_return vs)

entries_return : (fs : List FieldSuch) → entries_of (fields_view (map (λ e. e.0) fs)) ≡ map (λ e. e.0) fs
entries_return [] = refl
entries_return (f ∷ fs) = rw (f.1, entries_return fs)

level : (y : Snap-F SnapSuch FieldSuch) → Returns (Snap.roll-Snap (Snap.map-Snap SnapSuch FieldSuch Snap Field (λ e. e.0) (λ e. e.0) y))
level Snap-F.Null = subst Returns (sym rolls-Null) (ap snap_of view-Null)
level (Snap-F.Bool b) = subst Returns (sym (rolls-Bool b)) (ap snap_of (view-Bool b))
level (Snap-F.Int z) = subst Returns (sym (rolls-Int z)) (ap snap_of (view-Int z))
level (Snap-F.Text s) = subst Returns (sym (rolls-Text s)) (ap snap_of (view-Text s))
level (Snap-F.List vs) = let zs : List Snap = map (λ (e : SnapSuch). e.0) vs in subst Returns (sym (rolls-List zs)) (ap snap_of (view-List zs) ∙ ap Snap.List (items_return vs))
level (Snap-F.Dict fs) = let zs : List Field = map (λ (e : FieldSuch). e.0) fs in subst Returns (sym (rolls-Dict zs)) (ap snap_of (view-Dict zs) ∙ ap Snap.Dict (entries_return fs))

field_level : (y : Field-F SnapSuch FieldSuch) → FieldReturns (Snap.TheViews.roll-Field (Snap.TheFolds.map-Field SnapSuch FieldSuch Snap Field (λ e. e.0) (λ e. e.0) y))
field_level y =
    let with_value : Snap → Field = λ v. record { key = y.key; value = v } in
    ap field_of (entry-fields (Snap.TheViews.roll-Field (Snap.TheFolds.map-Field SnapSuch FieldSuch Snap Field (λ e. e.0) (λ e. e.0) y))) ∙ ap with_value y.value.1

pub snap_of-view : (s : Snap) → snap_of (view s) ≡ s
snap_of-view s = ind-Snap Returns FieldReturns
    (λ x y e. let P : Snap-F Snap Field → Type 0 = λ z. Returns (Snap.roll-Snap z) in subst P e (level y))
    (λ x y e. let P : Field-F Snap Field → Type 0 = λ z. FieldReturns (Snap.TheViews.roll-Field z) in subst P e (field_level y)) s
