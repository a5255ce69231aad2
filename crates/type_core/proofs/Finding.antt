-- Looking for a doubled identifier part by part.
use Rattle.std.proofs.Common.{◌≡◌, ℕ, ◌<◌, ◌≤◌, ◌+◌, List, [], ◌∷◌, ◌++◌, append_assoc, map, length, get_or, drop, drop-cons, add-one, decimal, true, false, Option, Some, None, if◌then◌else◌, refl, sym, ap, ◌∙◌, subst}
use Rattle.std.specs.List.{list_any}
use Rattle.std.specs.Str.{bytes_eq}
use Rattle.std.proofs.lemmas.List.{drop_all}
use Rattle.pointer_core.specs.Path.{Path}
use Rattle.snap_core.specs.Value.{Value, no_members, member, value_at, Fields}
use Rattle.snap_core.specs.View.{view, items_view, fields_view}
use Rattle.snap_core.specs.declared.snap.Snap.{Snap}
use Rattle.snap_core.specs.declared.snap.Field.{Field}
use Rattle.snap_core.proofs.Views.{entry-fields}
use Rattle.type_table.specs.declared.shape.Property.{Property}
use Rattle.type_table.specs.Table.{Table}
use Rattle.type_core.specs.Doubled.{Identified, Key, key_of, same_key, doubled_after, lowered, Finder, finder_of, finders_of, keyed_finders_of, found_in_items, found_in_values, found_under, found_in_properties}
use Rattle.type_core.specs.Finding.{Finds}

-- nothing to look at
pub Finds-nothing : (seen : List Key) → Finds None seen seen []
Finds-nothing seen = (refl, sym (append_none seen))
  where
    append_none : (ks : List Key) → ks ++ [] ≡ ks
    append_none [] = refl
    append_none (k ∷ ks) = ap (λ ls. k ∷ ls) (append_none ks)

-- what stands in front decides where one of it is doubled
doubled-front : (seen : List Key) (xs ys : List Identified) (path : Path) → doubled_after seen xs ≡ Some path → doubled_after seen (xs ++ ys) ≡ Some path
doubled-front seen [] ys path h = cc
doubled-front seen (x ∷ xs) ys path h =
    elim (list_any (same_key (key_of x)) seen) as (λ b. (if b then Some x.path else doubled_after (seen ++ key_of x ∷ []) xs) ≡ Some path
    → (if b then Some x.path else doubled_after (seen ++ key_of x ∷ []) (xs ++ ys)) ≡ Some path) [
      | true ↦ λ e. e
      | false ↦ λ e. doubled-front (seen ++ key_of x ∷ []) xs ys path e
    ] h

-- and otherwise what comes behind, with those in front seen
doubled-behind : (seen : List Key) (xs ys : List Identified) → doubled_after seen xs ≡ None → doubled_after seen (xs ++ ys) ≡ doubled_after (seen ++ map key_of xs) ys
doubled-behind seen [] ys h = ap (λ ks. doubled_after ks ys) (append_none seen)
  where
    append_none : (ks : List Key) → ks ≡ ks ++ []
    append_none [] = refl
    append_none (k ∷ ks) = ap (λ ls. k ∷ ls) (append_none ks)
doubled-behind seen (x ∷ xs) ys h =
    elim (list_any (same_key (key_of x)) seen) as (λ b. (if b then Some x.path else doubled_after (seen ++ key_of x ∷ []) xs) ≡ None
    → (if b then Some x.path else doubled_after (seen ++ key_of x ∷ []) (xs ++ ys)) ≡ doubled_after (seen ++ key_of x ∷ map key_of xs) ys) [
      | true ↦ λ e. cc
      | false ↦ λ e. doubled-behind (seen ++ key_of x ∷ []) xs ys e ∙ ap (λ ks. doubled_after ks ys) (append_assoc seen (key_of x ∷ []) (map key_of xs))
    ] h

map-append : (xs ys : List Identified) → map key_of (xs ++ ys) ≡ map key_of xs ++ map key_of ys
map-append [] ys = refl
map-append (x ∷ xs) ys = ap (λ ks. key_of x ∷ ks) (map-append xs ys)

Finds-front : (old middle new : List Key) (xs ys : List Identified) (path : Path) → Finds (Some path) old middle xs → Finds (Some path) old new (xs ++ ys)
Finds-front old middle new xs ys path h = doubled-front old xs ys path h

Finds-behind : (found : Option Path) (old middle new : List Key) (xs ys : List Identified) → Finds None old middle xs → Finds found middle new ys
    → Finds found old new (xs ++ ys)
Finds-behind (Some path) old middle new xs ys first h =
    let P : List Key → Type 0 = λ ks. doubled_after ks ys ≡ Some path in
    doubled-behind old xs ys first.0 ∙ subst P first.1 h
Finds-behind None old middle new xs ys first h =
    let P : List Key → Type 0 = λ ks. doubled_after ks ys ≡ None in
    let Q : List Key → Type 0 = λ ks. new ≡ ks ++ map key_of ys in (
      doubled-behind old xs ys first.0 ∙ subst P first.1 h.0,
      subst Q first.1 h.1 ∙ append_assoc old (map key_of xs) (map key_of ys) ∙ ap (λ ks. old ++ ks) (sym (map-append xs ys)),
    )

-- the same one step further down
keys-lowered : (token : List ℕ) (ids : List Identified) → map key_of (lowered token ids) ≡ map key_of ids
keys-lowered token [] = refl
keys-lowered token (i ∷ ids) = ap (λ ks. key_of i ∷ ks) (keys-lowered token ids)

abbrev lower : List ℕ → Option Path → Option Path
lower token (Some path) = Some (token ∷ path)
lower token None = None

doubled-lowered : (token : List ℕ) (seen : List Key) (ids : List Identified) → doubled_after seen (lowered token ids) ≡ lower token (doubled_after seen ids)
doubled-lowered token seen [] = refl
doubled-lowered token seen (i ∷ ids) =
    elim (list_any (same_key (key_of i)) seen) as (λ b. (if b then Some (token ∷ i.path) else doubled_after (seen ++ key_of i ∷ []) (lowered token ids))
    ≡ lower token (if b then Some i.path else doubled_after (seen ++ key_of i ∷ []) ids)) [
      | true ↦ refl
      | false ↦ doubled-lowered token (seen ++ key_of i ∷ []) ids
    ]

Finds-lowered : (token : List ℕ) (old new : List Key) (ids : List Identified) (path : Path) → Finds (Some path) old new ids
    → Finds (Some (token ∷ path)) old new (lowered token ids)
Finds-lowered token old new ids path h = doubled-lowered token old ids ∙ ap (lower token) h

Finds-lowered_none : (token : List ℕ) (old new : List Key) (ids : List Identified) → Finds None old new ids → Finds None old new (lowered token ids)
Finds-lowered_none token old new ids h =
    (doubled-lowered token old ids ∙ ap (lower token) h.0, h.1 ∙ ap (λ ks. old ++ ks) (sym (keys-lowered token ids)))

-- What is found in the rest, behind what was looked at, is found in all.
abbrev pub GoesOn : List Key → List Key → List Identified → List Identified → Type 0
GoesOn old seen rest whole = (found : Option Path) (new : List Key) → Finds found seen new rest → Finds found old new whole

pub GoesOn-begin : (seen : List Key) (ids : List Identified) → GoesOn seen seen ids ids
GoesOn-begin seen ids found new h = h

-- one part that finds nothing, in front of the rest
GoesOn-next : (old seen next : List Key) (xs rest whole : List Identified) → GoesOn old seen (xs ++ rest) whole → Finds None seen next xs → GoesOn old next rest whole
GoesOn-next old seen next xs rest whole on h found new later = on found new (Finds-behind found seen next new xs rest h later)

-- one part that finds something
GoesOn-found : (old seen new : List Key) (xs rest whole : List Identified) (path : Path) → GoesOn old seen (xs ++ rest) whole → Finds (Some path) seen new xs
    → Finds (Some path) old new whole
GoesOn-found old seen new xs rest whole path on h = on (Some path) new (Finds-front seen new new xs rest path h)

-- no part is left
GoesOn-end : (old seen : List Key) (whole : List Identified) → GoesOn old seen [] whole → Finds None old seen whole
GoesOn-end old seen whole on = on None seen (Finds-nothing seen)

-- the items from an index on begin with the one there
items-left : (table : Table) (t : ℕ) (items : List Snap) (i : ℕ) (item : Snap) → i < length items → item ≡ get_or items i item
    → found_in_items i t (finders_of table (items_view (drop i items)))
    ≡ lowered (decimal i) (finder_of table (view item) t) ++ found_in_items (i + 1) t (finders_of table (items_view (drop (i + 1) items)))
items-left table t items i item within here =
    let left : drop i items ≡ item ∷ drop (i + 1) items = rw (add-one, drop-cons items i item, ← here) in
    ap (λ (ss : List Snap). found_in_items i t (finders_of table (items_view ss))) left

items-none : (table : Table) (t : ℕ) (items : List Snap) (i : ℕ) → length items ≤ i → found_in_items i t (finders_of table (items_view (drop i items))) ≡ []
items-none table t items i past = ap (λ (ss : List Snap). found_in_items i t (finders_of table (items_view ss))) (drop_all i items past)

values-left : (table : Table) (t : ℕ) (fs : List Field) (i : ℕ) (f : Field) → i < length fs → f ≡ get_or fs i f
    → found_in_values t (keyed_finders_of table (fields_view (drop i fs)))
    ≡ lowered f.key (finder_of table (view f.value) t) ++ found_in_values t (keyed_finders_of table (fields_view (drop (i + 1) fs)))
values-left table t fs i f within here =
    let left : drop i fs ≡ f ∷ drop (i + 1) fs = rw (add-one, drop-cons fs i f, ← here) in
    let rest : List Identified = found_in_values t (keyed_finders_of table (fields_view (drop (i + 1) fs))) in
    ap (λ (gs : List Field). found_in_values t (keyed_finders_of table (fields_view gs))) left
    ∙ ap (λ (e : List ℕ × Value). lowered e.0 (finder_of table e.1 t) ++ rest) (entry-fields f)

values-none : (table : Table) (t : ℕ) (fs : List Field) (i : ℕ) → length fs ≤ i → found_in_values t (keyed_finders_of table (fields_view (drop i fs))) ≡ []
values-none table t fs i past = ap (λ (gs : List Field). found_in_values t (keyed_finders_of table (fields_view gs))) (drop_all i fs past)

properties-left : (ps : List Property) (finders : List (List ℕ × Finder)) (i : ℕ) (p : Property) → i < length ps → p ≡ get_or ps i p
    → found_in_properties (drop i ps) finders ≡ found_under p finders ++ found_in_properties (drop (i + 1) ps) finders
properties-left ps finders i p within here =
    let left : drop i ps ≡ p ∷ drop (i + 1) ps = rw (add-one, drop-cons ps i p, ← here) in
    ap (λ (qs : List Property). found_in_properties qs finders) left

properties-none : (ps : List Property) (finders : List (List ℕ × Finder)) (i : ℕ) → length ps ≤ i → found_in_properties (drop i ps) finders ≡ []
properties-none ps finders i past = ap (λ (qs : List Property). found_in_properties qs finders) (drop_all i ps past)

-- what stands under a property's name
abbrev under-field : (table : Table) (p : Property) (x : Option Value) → List Identified
under-field table p (Some v) = lowered p.name (finder_of table v p.of.0)
under-field table p None = []

found_under-value : (table : Table) (p : Property) (ms : Fields) → found_under p (keyed_finders_of table ms) ≡ under-field table p (value_at p.name ms)
found_under-value table p no_members = refl
found_under-value table p (member k v ms) =
    elim (bytes_eq p.name k) as (λ b. (if b then lowered p.name (finder_of table v p.of.0) else found_under p (keyed_finders_of table ms))
    ≡ under-field table p (if b then Some v else value_at p.name ms)) [
      | true ↦ refl
      | false ↦ found_under-value table p ms
    ]

found_under-present : (table : Table) (p : Property) (ms : Fields) (v : Value) → value_at p.name ms ≡ Some v
    → found_under p (keyed_finders_of table ms) ≡ lowered p.name (finder_of table v p.of.0)
found_under-present table p ms v h = found_under-value table p ms ∙ ap (under-field table p) h

found_under-absent : (table : Table) (p : Property) (ms : Fields) → value_at p.name ms ≡ None → found_under p (keyed_finders_of table ms) ≡ []
found_under-absent table p ms h = found_under-value table p ms ∙ ap (under-field table p) h

-- one item after another
module _ (table : Table) (t : ℕ) (items : List Snap) (i : ℕ) (old seen : List Key) (whole : List Identified)
    (on : GoesOn old seen (found_in_items i t (finders_of table (items_view (drop i items)))) whole) where
  pub items-end : length items ≤ i → Finds None old seen whole
  items-end past =
      let P : List Identified → Type 0 = λ ids. GoesOn old seen ids whole in
      GoesOn-end old seen whole (subst P (items-none table t items i past) on)

  module _ (item : Snap) (within : i < length items) (here : item ≡ get_or items i item) (new : List Key) where
    abbrev items-rest : List Identified
    items-rest = found_in_items (i + 1) t (finders_of table (items_view (drop (i + 1) items)))

    items-on : GoesOn old seen (lowered (decimal i) (finder_of table (view item) t) ++ items-rest) whole
    items-on = let P : List Identified → Type 0 = λ ids. GoesOn old seen ids whole in subst P (items-left table t items i item within here) on

    pub items-next : Finds None seen new (finder_of table (view item) t)
        → GoesOn old new (found_in_items (i + 1) t (finders_of table (items_view (drop (i + 1) items)))) whole
    items-next none =
        GoesOn-next old seen new (lowered (decimal i) (finder_of table (view item) t)) items-rest whole items-on
        (Finds-lowered_none (decimal i) seen new (finder_of table (view item) t) none)

    pub items-found : (path : Path) → Finds (Some path) seen new (finder_of table (view item) t) → Finds (Some (decimal i ∷ path)) old new whole
    items-found path found =
        GoesOn-found old seen new (lowered (decimal i) (finder_of table (view item) t)) items-rest whole (decimal i ∷ path) items-on
        (Finds-lowered (decimal i) seen new (finder_of table (view item) t) path found)

-- one value of a map after another
module _ (table : Table) (t : ℕ) (fs : List Field) (i : ℕ) (old seen : List Key) (whole : List Identified)
    (on : GoesOn old seen (found_in_values t (keyed_finders_of table (fields_view (drop i fs)))) whole) where
  pub values-end : length fs ≤ i → Finds None old seen whole
  values-end past =
      let P : List Identified → Type 0 = λ ids. GoesOn old seen ids whole in
      GoesOn-end old seen whole (subst P (values-none table t fs i past) on)

  module _ (f : Field) (within : i < length fs) (here : f ≡ get_or fs i f) (new : List Key) where
    abbrev values-rest : List Identified
    values-rest = found_in_values t (keyed_finders_of table (fields_view (drop (i + 1) fs)))

    values-on : GoesOn old seen (lowered f.key (finder_of table (view f.value) t) ++ values-rest) whole
    values-on = let P : List Identified → Type 0 = λ ids. GoesOn old seen ids whole in subst P (values-left table t fs i f within here) on

    pub values-next : Finds None seen new (finder_of table (view f.value) t)
        → GoesOn old new (found_in_values t (keyed_finders_of table (fields_view (drop (i + 1) fs)))) whole
    values-next none =
        GoesOn-next old seen new (lowered f.key (finder_of table (view f.value) t)) values-rest whole values-on
        (Finds-lowered_none f.key seen new (finder_of table (view f.value) t) none)

    pub values-found : (path : Path) → Finds (Some path) seen new (finder_of table (view f.value) t) → Finds (Some (f.key ∷ path)) old new whole
    values-found path found =
        GoesOn-found old seen new (lowered f.key (finder_of table (view f.value) t)) values-rest whole (f.key ∷ path) values-on
        (Finds-lowered f.key seen new (finder_of table (view f.value) t) path found)

-- one property after another
module _ (ps : List Property) (finders : List (List ℕ × Finder)) (i : ℕ) (old seen : List Key) (whole : List Identified)
    (on : GoesOn old seen (found_in_properties (drop i ps) finders) whole) where
  pub properties-end : length ps ≤ i → Finds None old seen whole
  properties-end past =
      let P : List Identified → Type 0 = λ ids. GoesOn old seen ids whole in
      GoesOn-end old seen whole (subst P (properties-none ps finders i past) on)

  module _ (p : Property) (within : i < length ps) (here : p ≡ get_or ps i p) (new : List Key) where
    properties-on : GoesOn old seen (found_under p finders ++ found_in_properties (drop (i + 1) ps) finders) whole
    properties-on = let P : List Identified → Type 0 = λ ids. GoesOn old seen ids whole in subst P (properties-left ps finders i p within here) on

    pub properties-next : Finds None seen new (found_under p finders) → GoesOn old new (found_in_properties (drop (i + 1) ps) finders) whole
    properties-next none = GoesOn-next old seen new (found_under p finders) (found_in_properties (drop (i + 1) ps) finders) whole properties-on none

    pub properties-found : (path : Path) → Finds (Some path) seen new (found_under p finders) → Finds (Some path) old new whole
    properties-found path found = GoesOn-found old seen new (found_under p finders) (found_in_properties (drop (i + 1) ps) finders) whole path properties-on found

-- the field under a property's name
pub under-found : (table : Table) (p : Property) (ms : Fields) (v : Value) (old new : List Key) (path : Path) → value_at p.name ms ≡ Some v
    → Finds (Some path) old new (finder_of table v p.of.0) → Finds (Some (p.name ∷ path)) old new (found_under p (keyed_finders_of table ms))
under-found table p ms v old new path here found =
    let P : List Identified → Type 0 = λ ids. Finds (Some (p.name ∷ path)) old new ids in
    subst P (sym (found_under-present table p ms v here)) (Finds-lowered p.name old new (finder_of table v p.of.0) path found)

pub under-none : (table : Table) (p : Property) (ms : Fields) (v : Value) (old new : List Key) → value_at p.name ms ≡ Some v
    → Finds None old new (finder_of table v p.of.0) → Finds None old new (found_under p (keyed_finders_of table ms))
under-none table p ms v old new here none =
    let P : List Identified → Type 0 = λ ids. Finds None old new ids in
    subst P (sym (found_under-present table p ms v here)) (Finds-lowered_none p.name old new (finder_of table v p.of.0) none)

pub under-absent : (table : Table) (p : Property) (ms : Fields) (seen : List Key) → value_at p.name ms ≡ None
    → Finds None seen seen (found_under p (keyed_finders_of table ms))
under-absent table p ms seen here =
    let P : List Identified → Type 0 = λ ids. Finds None seen seen ids in
    subst P (sym (found_under-absent table p ms here)) (Finds-nothing seen)
