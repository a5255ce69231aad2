-- Plain values, and what stands under a key of them.
use Rattle.std.proofs.Common.{◌≡◌, ℕ, zero, suc, ◌+◌, ◌*◌, ◌≤◌, ◌<◌, List, [], ◌∷◌, length, get_or, Bool, true, false, Option, Some, if◌then◌else◌, refl, sym, subst, arith}
use Rattle.std.specs.Str.{bytes_eq}
use Rattle.std.specs.Option.{option_map}
use Rattle.snap_core.specs.Value.{Value, IsPlain, ArePlain, ArePlainMembers, AreKeyed, value_at, weight_of, parts_weight, members_weight}
use Rattle.snap_core.specs.View.{view, items_view, fields_view}
use Rattle.snap_core.specs.declared.snap.Snap.{Snap}
use Rattle.snap_core.specs.declared.snap.Snap
use Rattle.snap_core.specs.declared.snap.Field.{Field}
use Rattle.snap_core.proofs.Views.{view-List, view-Dict, entry-fields}
use Rattle.snap_core.proofs.Keys.{AreKeyed-ascending}
use Rattle.edit_core.specs.Labelled as edits
use Rattle.edit_core.specs.Labelled.{Entry, entries, bare, bare_fields}
use Rattle.edit_core.specs.Typing.{both_equal, equal_under}
use Rattle.edit_core.specs.Template.{entry_at}
use Rattle.node_core.specs.declared.labelled.Label.{Label}
use Rattle.node_core.specs.declared.labelled.Labelled.{Labelled}
use Rattle.node_core.specs.declared.labelled.Labelled
use Rattle.node_core.specs.declared.labelled.LabelledField.{LabelledField}
use Rattle.node_core.specs.View.{fields, plain}
use Rattle.node_core.proofs.Views.{labelled-Record}

pub plain-item : (vs : List Snap) (i : ℕ) (v : Snap) → ArePlain (items_view vs) → v ≡ get_or vs i v → i < length vs → IsPlain (view v)
plain-item [] i v are is inside = absurd (omega arith)
plain-item (w ∷ ws) zero v are is inside = let P : Snap → Type 0 = λ x. IsPlain (view x) in subst P (sym is) are.0
plain-item (w ∷ ws) (suc i) v are is inside = plain-item ws i v are.1 is (omega arith)

pub plain-field : (fs : List Field) (i : ℕ) (f : Field) → ArePlainMembers (fields_view fs) → f ≡ get_or fs i f → i < length fs → IsPlain (view f.value)
plain-field [] i f are is inside = absurd (omega arith)
plain-field (g ∷ gs) zero f are is inside =
    let E : List ℕ × Value → Type 0 = λ e. IsPlain e.1 in
    let P : Field → Type 0 = λ x. IsPlain (view x.value) in
    subst P (sym is) (subst E (entry-fields g) are.0)
plain-field (g ∷ gs) (suc i) f are is inside = plain-field gs i f are.2 is (omega arith)

pub plain-list : (vs : List Snap) → IsPlain (view (Snap.List vs)) → ArePlain (items_view vs)
plain-list vs h = let P : Value → Type 0 = IsPlain in subst P (view-List vs) h

pub plain-dict : (fs : List Field) → IsPlain (view (Snap.Dict fs)) → ArePlainMembers (fields_view fs)
plain-dict fs h = let P : Value → Type 0 = IsPlain in subst P (view-Dict fs) h

pub keyed-dict : (fs : List Field) → IsPlain (view (Snap.Dict fs)) → AreKeyed (fields_view fs)
keyed-dict fs h = AreKeyed-ascending (fields_view fs) (plain-dict fs h)

value-bare : (key : List ℕ) (es : List Entry) → value_at key (bare_fields (entries es)) ≡ option_map bare (entry_at key es)
value-bare key [] = refl
value-bare key (e ∷ es) = go (bytes_eq key e.0) (value-bare key es) where
  go : (b : Bool) → value_at key (bare_fields (entries es)) ≡ option_map bare (entry_at key es)
      → (if b then Some (bare e.1) else value_at key (bare_fields (entries es))) ≡ option_map bare (if b then Some e.1 else entry_at key es)
  go true rest = refl
  go false rest = rest

pub equal-records : (l : Label) (olds : List LabelledField) (news : List Field) (name : List ℕ) (o : Option edits.Labelled) (n : Option Value) → o ≡ entry_at name (fields olds) → n ≡ value_at name (fields_view news)
    → both_equal (option_map bare o) n ≡ equal_under (Some name) (plain (Labelled.Record l olds)) (view (Snap.Dict news))
equal-records l olds news name o n e f = rw (labelled-Record l olds, view-Dict news, value-bare name (fields olds), e, f) refl

-- parts weigh less

pub list-weighs : (new : Snap) (news slice : List Snap) → new ≡ Snap.List news → slice ≡ news → 2 * parts_weight (items_view slice) + 1 < 2 * weight_of (view new)
list-weighs new news slice is same = rw (is, same, view-List news) (omega arith)

pub dict-weighs : (new : Snap) (news slice : List Field) → new ≡ Snap.Dict news → slice ≡ news → 2 * members_weight (fields_view slice) + 1 < 2 * weight_of (view new)
dict-weighs new news slice is same = rw (is, same, view-Dict news) (omega arith)

pub item-weighs : (vs : List Snap) (i : ℕ) (v : Snap) → v ≡ get_or vs i v → i < length vs → weight_of (view v) ≤ parts_weight (items_view vs)
item-weighs [] i v is inside = absurd (omega arith)
item-weighs (w ∷ ws) zero v is inside = rw (← is) (omega arith)
item-weighs (w ∷ ws) (suc i) v is inside = let below = item-weighs ws i v is (omega arith) in omega (arith, below)

pub field-weighs : (fs : List Field) (i : ℕ) (f : Field) → f ≡ get_or fs i f → i < length fs → weight_of (view f.value) ≤ members_weight (fields_view fs)
field-weighs [] i f is inside = absurd (omega arith)
field-weighs (g ∷ gs) zero f is inside = rw (← is, entry-fields f) (omega arith)
field-weighs (g ∷ gs) (suc i) f is inside = let below = field-weighs gs i f is (omega arith) in omega (arith, below)
