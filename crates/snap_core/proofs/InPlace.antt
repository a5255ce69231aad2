-- What an edit of a list of values, or of fields, makes of its view.
use Rattle.std.proofs.Common.{◌≡◌, ℕ, zero, suc, ◌≤◌, List, [], ◌∷◌, length, get_or, true, false, Some, slice_get, refl, sym, ◌∙◌, ap, subst, arith}
use Rattle.std.specs.Prelude.{insert, remove, slice_set}
use Rattle.std.specs.Option.{option_map}
use Rattle.std.specs.declared.cmp.Ordering.TheVariants.{Less}
use Rattle.std.specs.Str.{bytes_eq}
use Rattle.std.proofs.lemmas.Slice.Eq.{bytes_eq-Decides}
use Rattle.std.proofs.lemmas.Option.{slice_get_within, get_or_from_slice_get}
use Rattle.snap_core.specs.Value.{Value, part, member, AreKeyed, ComesBefore, keys_of}
use Rattle.snap_core.specs.Level.{count_of, item_at, set_item, insert_item, remove_item, set_field, remove_field}
use Rattle.snap_core.specs.declared.snap.Snap.{Snap}
use Rattle.snap_core.specs.declared.snap.Field.{Field}
use Rattle.snap_core.specs.View.{view, entry, items_view, fields_view}
use Rattle.snap_core.proofs.Views.{entry-fields}
use Rattle.snap_core.proofs.Finding.{key_cmp, below_all, bytes_eq-Less}

-- items

pub count_of-items_view : (vs : List Snap) → count_of (items_view vs) ≡ length vs
count_of-items_view [] = refl
count_of-items_view (v ∷ vs) = ap suc (count_of-items_view vs)

pub item_at-items_view : (i : ℕ) (vs : List Snap) → item_at i (items_view vs) ≡ option_map view (slice_get vs i)
item_at-items_view i [] = refl
item_at-items_view zero (v ∷ vs) = refl
item_at-items_view (suc i) (v ∷ vs) = item_at-items_view i vs

pub items_view-set : (i : ℕ) (x : Snap) (vs : List Snap) → items_view (slice_set vs i x) ≡ set_item i (view x) (items_view vs)
items_view-set i x [] = refl
items_view-set zero x (v ∷ vs) = refl
items_view-set (suc i) x (v ∷ vs) = ap (part (view v)) (items_view-set i x vs)

pub items_view-insert : (i : ℕ) (x : Snap) (vs : List Snap) → i ≤ length vs → items_view (insert vs i x) ≡ insert_item i (view x) (items_view vs)
items_view-insert zero x vs within = refl
items_view-insert (suc i) x [] within = absurd (omega arith)
items_view-insert (suc i) x (v ∷ vs) within = ap (part (view v)) (items_view-insert i x vs (omega arith))

pub items_view-remove : (i : ℕ) (vs : List Snap) → items_view (remove vs i) ≡ remove_item i (items_view vs)
items_view-remove zero [] = refl
items_view-remove (suc i) [] = refl
items_view-remove zero (v ∷ vs) = refl
items_view-remove (suc i) (v ∷ vs) = ap (part (view v)) (items_view-remove i vs)

-- fields

-- the first field of a record isn't the one behind it
apart_from_later : (key : List ℕ) (g : Field) (gs : List Field) (at : ℕ) (f : Field) → AreKeyed (fields_view (g ∷ gs)) → slice_get gs at ≡ Some f → f.key ≡ key → bytes_eq key (entry g).0 ≡ false
apart_from_later key g gs at f keyed here has =
    let Q : List ℕ × Value → Type 0 = λ e. ComesBefore e.0 (keys_of (fields_view gs)) in
    let before : key_cmp g.key (get_or gs at f).key ≡ Less = below_all g.key gs at f (subst Q (entry-fields g) keyed.0) keyed.1 (slice_get_within gs at f here) in
    let R : Field → Type 0 = λ x. key_cmp g.key x.key ≡ Less in
    let S : List ℕ → Type 0 = λ k. key_cmp g.key k ≡ Less in
    let less : key_cmp g.key key ≡ Less = subst S has (subst R (get_or_from_slice_get gs at f f here) before) in
    let P : List ℕ × Value → Type 0 = λ e. bytes_eq key e.0 ≡ false in
    subst P (sym (entry-fields g)) (bytes_eq-Less key g.key less)

-- the field that has the key
same_entry : (key : List ℕ) (g : Field) → g.key ≡ key → bytes_eq key (entry g).0 ≡ true
same_entry key g has =
    let P : List ℕ × Value → Type 0 = λ e. bytes_eq key e.0 ≡ true in
    subst P (sym (entry-fields g)) ((bytes_eq-Decides key g.key).1 (sym has))

pub fields_view-set : (key : List ℕ) (x : Snap) (fs : List Field) (at : ℕ) (f : Field) → AreKeyed (fields_view fs) → slice_get fs at ≡ Some f → f.key ≡ key
    → fields_view (slice_set fs at (record f { value = x })) ≡ set_field key (view x) (fields_view fs)
fields_view-set key x [] at f keyed here has = cc
fields_view-set key x (g ∷ gs) zero f keyed here has =
    let same : g ≡ f = cc in
    let at_key : bytes_eq key (entry g).0 ≡ true = same_entry key g (ap (λ (h : Field). h.key) same ∙ has) in
    let new : entry (record f { value = x }) ≡ (f.key, view x) = entry-fields (record f { value = x }) in
    rw at_key (ap (λ e. member e.0 e.1 (fields_view gs)) new ∙ ap (λ k. member k (view x) (fields_view gs)) (ap (λ (h : Field). h.key) (sym same) ∙ ap (λ e. e.0) (sym (entry-fields g))))
fields_view-set key x (g ∷ gs) (suc at) f keyed here has =
    rw (apart_from_later key g gs at f keyed here has) (ap (member (entry g).0 (entry g).1) (fields_view-set key x gs at f keyed.1 here has))

pub fields_view-remove : (key : List ℕ) (fs : List Field) (at : ℕ) (f : Field) → AreKeyed (fields_view fs) → slice_get fs at ≡ Some f → f.key ≡ key
    → fields_view (remove fs at) ≡ remove_field key (fields_view fs)
fields_view-remove key [] at f keyed here has = cc
fields_view-remove key (g ∷ gs) zero f keyed here has =
    let same : g ≡ f = cc in
    rw (same_entry key g (ap (λ (h : Field). h.key) same ∙ has)) refl
fields_view-remove key (g ∷ gs) (suc at) f keyed here has =
    rw (apart_from_later key g gs at f keyed here has) (ap (member (entry g).0 (entry g).1) (fields_view-remove key gs at f keyed.1 here has))
