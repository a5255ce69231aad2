-- What was read loosely so far, before what is left, and what its order is.
use Rattle.std.proofs.Common.{◌≡◌, ℕ, List, [], ◌∷◌, ◌++◌, Bool, true, false, cond, Some, None, option_map, map, refl, sym, ap, ◌∙◌, subst}
use Rattle.std.specs.Str.{IsUtf8, is_utf8}
use Rattle.std.proofs.lemmas.List.{map-append}
use Rattle.std.proofs.lemmas.Str.{IsUtf8-from_is_utf8, is_utf8-from_IsUtf8}
use Rattle.serde_json.specs.Data as json
use Rattle.serde_json.specs.Data.{Data, Items}
use Rattle.serde_json.specs.Read.{read}
use Rattle.snap_core.specs.Value.{Value, part, member, IsOrdered, AreOrdered, AreOrderedMembers, ComesBefore, keys_of}
use Rattle.snap_core.specs.declared.snap.Snap.{Snap}
use Rattle.snap_core.specs.declared.snap.Field.{Field}
use Rattle.snap_core.specs.View.{view, entry}
use Rattle.snap_json.specs.Loose.{loose_value, loose_items, loose_members, loosely}
use Rattle.snap_json.proofs.Steps.{items_before, members_before, items_before-part, members_before-member}
use Rattle.snap_json.proofs.Ordered.{AllAbove, IsOrdered as OrderedData, AreOrdered as OrderedItems, Ascends, ordered-read}

-- one item more was read
pub loose_item : (done new : List Snap) (x : Snap) (d : Data) (ds : Items) → new ≡ done ++ x ∷ [] → view x ≡ loose_value d
    → items_before (map view done) (loose_items (json.item d ds)) ≡ items_before (map view new) (loose_items ds)
loose_item done new x d ds longer is =
    ap (λ v. items_before (map view done) (part v (loose_items ds))) (sym is)
    ∙ items_before-part (map view done) (view x) (loose_items ds)
    ∙ ap (λ vs. items_before vs (loose_items ds)) (sym (ap (map view) longer ∙ map-append view done (x ∷ [])))

-- one member more was read
pub loose_member : (done new : List Field) (f : Field) (k : List ℕ) (v : Value) (d : Data) (ms : json.Members) → new ≡ done ++ f ∷ [] → entry f ≡ (k, v) → v ≡ loose_value d
    → members_before (map entry done) (loose_members (json.member k d ms)) ≡ members_before (map entry new) (loose_members ms)
loose_member done new f k v d ms longer seen is =
    ap (λ w. members_before (map entry done) (member k w (loose_members ms))) (sym is)
    ∙ members_before-member (map entry done) (k, v) (loose_members ms)
    ∙ ap (λ es. members_before es (loose_members ms)) (sym (ap (map entry) longer ∙ map-append entry done (f ∷ []) ∙ ap (λ e. map entry done ++ e ∷ []) seen))

-- a key before all members comes before them as they are read
before_loose : (k : List ℕ) (ms : json.Members) → AllAbove k ms → ComesBefore k (keys_of (loose_members ms))
before_loose k json.no_members above = tt
before_loose k (json.member l d ms) above = above.0

mutual
  ordered_loose : (d : Data) → OrderedData d → IsOrdered (loose_value d)
  ordered_loose json.null h = tt
  ordered_loose (json.boolean b) h = tt
  ordered_loose (json.number n) h = tt
  ordered_loose (json.string s) h = tt
  ordered_loose (json.array ds) h = ordered_loose_items ds h
  ordered_loose (json.object ms) h = ordered_loose_members ms h

  ordered_loose_items : (ds : Items) → OrderedItems ds → AreOrdered (loose_items ds)
  ordered_loose_items json.no_items h = tt
  ordered_loose_items (json.item d ds) h = (ordered_loose d h.0, ordered_loose_items ds h.1)

  ordered_loose_members : (ms : json.Members) → Ascends ms → AreOrderedMembers (loose_members ms)
  ordered_loose_members json.no_members h = tt
  ordered_loose_members (json.member k d ms) h = (ordered_loose d h.0, before_loose k ms h.1, ordered_loose_members ms h.2)

-- the loose reading of bytes, from what was read
pub loosely-utf8 : (bytes : List ℕ) (d : Data) → IsUtf8 bytes → read bytes ≡ Some d → loosely bytes ≡ Some (loose_value d)
loosely-utf8 bytes d utf8 is = rw (is_utf8-from_IsUtf8 bytes utf8, is) refl

loosely_refused_at : (bytes : List ℕ) (b : Bool) → is_utf8 bytes ≡ b → (IsUtf8 bytes → read bytes ≡ None) → cond b (option_map loose_value (read bytes)) None ≡ None
loosely_refused_at bytes true is none = ap (option_map loose_value) (none (IsUtf8-from_is_utf8 bytes is))
loosely_refused_at bytes false is none = refl

pub loosely-refused : (bytes : List ℕ) → (IsUtf8 bytes → read bytes ≡ None) → loosely bytes ≡ None
loosely-refused bytes none = loosely_refused_at bytes _ refl none

pub loosely-ordered : (bytes : List ℕ) (d : Data) (v : Value) → read bytes ≡ Some d → v ≡ loose_value d → IsOrdered v
loosely-ordered bytes d v is same = subst IsOrdered (sym same) (ordered_loose d (ordered-read bytes d is))
