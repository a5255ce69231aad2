-- Another part leaves the whole right, where identifiers stay.
use Rattle.std.proofs.Common.{◌≡◌, ℕ, zero, suc, List, [], ◌∷◌, Bool, true, false, Option, Some, None, if◌then◌else◌, refl, sym, ap, subst, ◌∙◌}
use Rattle.std.specs.Prelude.{slice_get}
use Rattle.std.specs.Str.{bytes_eq}
use Rattle.std.proofs.lemmas.Slice.Eq.{bytes_eq-Decides}
use Rattle.snap_core.specs.Value.{Value, list, dict, value_at, Items, Fields}
use Rattle.snap_core.specs.declared.number.ModelNo.{ModelNo}
use Rattle.snap_core.specs.declared.number.TypeNo.{TypeNo}
use Rattle.type_table.specs.declared.shape.Property.{Property}
use Rattle.type_table.specs.declared.shape.Shape.{Shape}
use Rattle.type_table.specs.declared.shape.Shape.TheVariants as shape
use Rattle.type_table.specs.Table.{Table, Catalog, properties_of}
use Rattle.type_table.specs.Identifiers.{identifier_of, ident_of, ident_in, ident_under, is_keyed}
use Rattle.type_core.specs.Judging.{judged_by}
use Rattle.type_core.specs.Sound.{IsSound}
use Rattle.type_core.proofs.Sound.{AreNamed-properties_of}
use Rattle.edit_core.specs.declared.kind.Kind.{Kind}
use Rattle.edit_core.specs.declared.kind.Kind.TheVariants as kind
use Rattle.edit_core.specs.Application.{item_changed, entry_changed}
use Rattle.edit_core.specs.Edit.{Turn, to_item, to_entry}
use Rattle.edit_core.specs.Labelled.{Label, Labelled, Entry, Branches, Entries, leaf, many, keyed, no_branches, branch, no_entries, entry, items_in, entries_in, bare, bare_items, bare_fields}
use Rattle.edit_core.specs.Labelling.{IfArray}
use Rattle.edit_core.specs.Ways.{with_part}
use Rattle.tree_core.specs.Nodes.{type_at}
use Rattle.tree_core.specs.TypesTyping.{typing_of, type_under}
use Rattle.tree_core.proofs.Moving.{Stands}
use Rattle.tree_laws.proofs.Judged.{fits-keep}
use Rattle.tree_laws.proofs.Right.{ByKind, IsKeyed, IsRight, ItemsRight, ValuesRight, FieldsRight, Known, known-all, known-type, right-fits}
use Rattle.tree_laws.proofs.Typed.{list-kind, record-kind, model-shape, map-shape, turn-type, entry-turn}

-- a value and another have the same identifier, as what a type makes of them and as themselves
pub record Same (types : Catalog) (t : ℕ) (v w : Value) : Type 0 where
  pub named : ident_in types.table (judged_by types.table w t) w ≡ ident_in types.table (judged_by types.table v t) v
  pub itself : ident_of (Some w) ≡ ident_of (Some v)

-- an identifier's property keeps its identifier
abbrev pub KeepsIdentifier : Catalog → ModelNo → List ℕ → Value → Value → Type 0
KeepsIdentifier types m key v w = (q : Property) → identifier_of types.table m.0 ≡ Some q → q.name ≡ key → ident_of (Some w) ≡ ident_of (Some v)

no-list_ident : (table : Table) (s : Option Shape) (ps : Items) → ident_in table s (list tt ps) ≡ None
no-list_ident table (Some (shape.Model m)) ps = refl
no-list_ident table _ ps = refl

module _ (types : Catalog) (sound : IsSound types) where
  -- items

  items-changed : (u i : ℕ) (bs : Branches Label) (p : Labelled) (f : Labelled → Labelled) → slice_get (items_in bs) i ≡ Some p → ItemsRight types u bs → IsRight types u (f p)
      → ItemsRight types u (item_changed i f bs)
  items-changed u i no_branches p f h right new = tt
  items-changed u zero (branch x bs) p f h right new = let same : p ≡ x = cc in let P : Labelled → Type 0 = λ y. IsRight types u (f y) in (subst P same new, right.1)
  items-changed u (suc i) (branch x bs) p f h right new = (right.0, items-changed u i bs p f h right.1 new)

  items-part : (u i : ℕ) (bs : Branches Label) (p : Labelled) → slice_get (items_in bs) i ≡ Some p → ItemsRight types u bs → IsRight types u p
  items-part u i no_branches p h right = absurd (cc)
  items-part u zero (branch x bs) p h right = let same : x ≡ p = cc in subst (IsRight types u) same right.0
  items-part u (suc i) (branch x bs) p h right = items-part u i bs p h right.1

  pub array-changed : (k : Kind) (i : ℕ) (bs : Branches Label) (p : Labelled) (f : Labelled → Labelled) → slice_get (items_in bs) i ≡ Some p → IfArray k (λ u. ItemsRight types u bs)
      → IsRight types (type_under types.table k []) (f p) → IfArray k (λ u. ItemsRight types u (item_changed i f bs))
  array-changed (kind.Array u) i bs p f h right new = items-changed u.0 i bs p f h right new
  array-changed (kind.Model m) i bs p f h right new = right
  array-changed (kind.Map u) i bs p f h right new = right

  pub array-part : (k : Kind) (i : ℕ) (bs : Branches Label) (p : Labelled) → slice_get (items_in bs) i ≡ Some p → IfArray k (λ u. ItemsRight types u bs) → IsRight types (type_under types.table k []) p
  array-part (kind.Array u) i bs p h right = items-part u.0 i bs p h right
  array-part (kind.Model m) i bs p h right = absurd right
  array-part (kind.Map u) i bs p h right = absurd right

  pub list-same : (t : ℕ) (ps qs : Items) → Same types t (list tt ps) (list tt qs)
  list-same t ps qs = record { named = no-list_ident types.table _ qs ∙ sym (no-list_ident types.table _ ps); itself = refl }

  -- the properties of a model

  fields-changed : (m : ModelNo) (i : ℕ) (key : List ℕ) (es : Entries Label) (p : Labelled) (f : Labelled → Labelled) (ps : List Property) → Known (properties_of types.table m.0) ps
      → slice_get (entries_in es) i ≡ Some (key, p) → FieldsRight types es ps → IsRight types (type_under types.table (kind.Model m) key) (f p) → FieldsRight types (entry_changed i f es) ps
  fields-changed m i key no_entries p f ps known h right new = absurd (cc)
  fields-changed m i key (entry j x es) p f [] known h right new = absurd right
  fields-changed m zero key (entry j x es) p f (q ∷ ps) known h right new =
      let pair : ◌≡◌ {A = Entry} (key, p) (j, x) = cc in
      let P : Entry → Type 0 = λ e. IsRight types (type_under types.table (kind.Model m) e.0) (f e.1) in
      let Q : ℕ → Type 0 = λ u. IsRight types u (f x) in
      (right.0, subst Q (known-type types.table m q j right.0 known.0) (subst P pair new), right.2)
  fields-changed m (suc i) key (entry j x es) p f (q ∷ ps) known h right new = (right.0, right.1, fields-changed m i key es p f ps known.1 h right.2 new)

  fields-part : (m : ModelNo) (i : ℕ) (key : List ℕ) (es : Entries Label) (p : Labelled) (ps : List Property) → Known (properties_of types.table m.0) ps
      → slice_get (entries_in es) i ≡ Some (key, p) → FieldsRight types es ps → IsRight types (type_under types.table (kind.Model m) key) p
  fields-part m i key no_entries p ps known h right = absurd (cc)
  fields-part m i key (entry j x es) p [] known h right = absurd right
  fields-part m zero key (entry j x es) p (q ∷ ps) known h right =
      let pair : ◌≡◌ {A = Entry} (j, x) (key, p) = cc in
      let P : Entry → Type 0 = λ e. IsRight types (type_under types.table (kind.Model m) e.0) e.1 in
      let Q : ℕ → Type 0 = λ u. IsRight types u x in
      subst P pair (subst Q (sym (known-type types.table m q j right.0 known.0)) right.1)
  fields-part m (suc i) key (entry j x es) p (q ∷ ps) known h right = fields-part m i key es p ps known.1 h right.2

  -- the identifier under a name
  ident-changed : (i : ℕ) (key name : List ℕ) (es : Entries Label) (p : Labelled) (f : Labelled → Labelled) → slice_get (entries_in es) i ≡ Some (key, p)
      → (name ≡ key → ident_of (Some (bare (f p))) ≡ ident_of (Some (bare p)))
      → ident_of (value_at name (bare_fields (entry_changed i f es))) ≡ ident_of (value_at name (bare_fields es))
  ident-changed i key name no_entries p f h keeps = refl
  ident-changed zero key name (entry j x es) p f h keeps = by (bytes_eq name j) refl where
    pair : ◌≡◌ {A = Entry} (key, p) (j, x)
    pair = cc

    by : (b : Bool) → bytes_eq name j ≡ b → ident_of (if bytes_eq name j then Some (bare (f x)) else value_at name (bare_fields es)) ≡ ident_of (if bytes_eq name j then Some (bare x) else value_at name (bare_fields es))
    by b e =
        ap (λ c. ident_of (if c then Some (bare (f x)) else value_at name (bare_fields es))) e ∙ each b e
        ∙ sym (ap (λ c. ident_of (if c then Some (bare x) else value_at name (bare_fields es))) e) where
          each : (b : Bool) → bytes_eq name j ≡ b → ident_of (if b then Some (bare (f x)) else value_at name (bare_fields es)) ≡ ident_of (if b then Some (bare x) else value_at name (bare_fields es))
          each false e = refl
          each true e =
              let P : Entry → Type 0 = λ n. name ≡ n.0 → ident_of (Some (bare (f n.1))) ≡ ident_of (Some (bare n.1)) in
              let here : name ≡ j → ident_of (Some (bare (f x))) ≡ ident_of (Some (bare x)) = subst P pair keeps in
              here ((bytes_eq-Decides name j).0 e)
  ident-changed (suc i) key name (entry j x es) p f h keeps = by (bytes_eq name j) (ident-changed i key name es p f h keeps) where
    by : (b : Bool) → ident_of (value_at name (bare_fields (entry_changed i f es))) ≡ ident_of (value_at name (bare_fields es))
        → ident_of (if b then Some (bare x) else value_at name (bare_fields (entry_changed i f es))) ≡ ident_of (if b then Some (bare x) else value_at name (bare_fields es))
    by true rest = refl
    by false rest = rest

  -- records of one model with the same identifier
  pub model-same : (t : ℕ) (m : ModelNo) (ms ns : Fields) → judged_by types.table (dict tt ms) t ≡ Some (shape.Model m) → judged_by types.table (dict tt ns) t ≡ Some (shape.Model m)
      → ident_under (identifier_of types.table m.0) ns ≡ ident_under (identifier_of types.table m.0) ms → Same types t (dict tt ms) (dict tt ns)
  model-same t m ms ns e f same =
      record { named = ap (λ s. ident_in types.table s (dict tt ns)) f ∙ same ∙ sym (ap (λ s. ident_in types.table s (dict tt ms)) e); itself = refl }

  -- what holds of a changed record
  pub record Kept (t : ℕ) (x y : Labelled) : Type 0 where
    pub right : IsRight types t y
    pub same : Same types t (bare x) (bare y)

  pub field-kept : (t : ℕ) (m : ModelNo) (l : Label) (i : ℕ) (key : List ℕ) (es : Entries Label) (p : Labelled) (f : Labelled → Labelled) → l.kind ≡ kind.Model m
      → slice_get (entries_in es) i ≡ Some (key, p) → (typing_of types.table).kind_of t (dict tt (bare_fields es)) ≡ Some (kind.Model m) → FieldsRight types es (properties_of types.table m.0)
      → IsRight types (type_under types.table (kind.Model m) key) (f p) → KeepsIdentifier types m key (bare p) (bare (f p)) → Kept t (keyed l es) (keyed l (entry_changed i f es))
  field-kept t m l i key es p f is h of right new keeps =
      let fields : FieldsRight types (entry_changed i f es) (properties_of types.table m.0) =
      fields-changed m i key es p f (properties_of types.table m.0) (known-all (properties_of types.table m.0) (AreNamed-properties_of types m.0 sound)) h right new in
      let made : (typing_of types.table).kind_of t (dict tt (bare_fields (entry_changed i f es))) ≡ Some (kind.Model m) =
      record-kind types sound t (kind.Model m) (bare_fields es) (bare_fields (entry_changed i f es))
      (fits-keep types sound m (bare_fields es) (bare_fields (entry_changed i f es)) (right-fits types sound (entry_changed i f es) (properties_of types.table m.0) fields)) of in
      let P : Kind → Type 0 = λ k. ByKind k (λ n. FieldsRight types (entry_changed i f es) (properties_of types.table n.0)) (λ u. ValuesRight types u (entry_changed i f es)) in
      record {
        right = (made ∙ ap Some (sym is), subst P (sym is) fields);
        same = model-same t m (bare_fields es) (bare_fields (entry_changed i f es)) (model-shape _ (bare_fields es) m of) (model-shape _ (bare_fields (entry_changed i f es)) m made)
            (under (identifier_of types.table m.0) refl);
      } where
        under : (o : Option Property) → identifier_of types.table m.0 ≡ o → ident_under o (bare_fields (entry_changed i f es)) ≡ ident_under o (bare_fields es)
        under None e = refl
        under (Some q) e = ident-changed i key q.name es p f h (λ n. keeps q e n)

  -- the values of a map

  pub values-changed : (u i : ℕ) (key : List ℕ) (es : Entries Label) (p : Labelled) (f : Labelled → Labelled) → slice_get (entries_in es) i ≡ Some (key, p) → ValuesRight types u es
      → IsRight types u (f p) → IsKeyed types u key (bare (f p)) → ValuesRight types u (entry_changed i f es)
  values-changed u i key no_entries p f h right new keyed_new = tt
  values-changed u zero key (entry j x es) p f h right new keyed_new =
      let pair : ◌≡◌ {A = Entry} (key, p) (j, x) = cc in
      let P : Entry → Type 0 = λ e. IsRight types u (f e.1) in
      let Q : Entry → Type 0 = λ e. IsKeyed types u e.0 (bare (f e.1)) in
      (subst P pair new, subst Q pair keyed_new, right.2)
  values-changed u (suc i) key (entry j x es) p f h right new keyed_new = (right.0, right.1, values-changed u i key es p f h right.2 new keyed_new)

  pub record Value_right (u : ℕ) (key : List ℕ) (p : Labelled) : Type 0 where
    pub right : IsRight types u p
    pub keyed : IsKeyed types u key (bare p)

  values-part : (u i : ℕ) (key : List ℕ) (es : Entries Label) (p : Labelled) → slice_get (entries_in es) i ≡ Some (key, p) → ValuesRight types u es → Value_right u key p
  values-part u i key no_entries p h right = absurd (cc)
  values-part u zero key (entry j x es) p h right =
      let pair : ◌≡◌ {A = Entry} (j, x) (key, p) = cc in
      let P : Entry → Type 0 = λ e. Value_right u e.0 e.1 in subst P pair (record { right = right.0; keyed = right.1 })
  values-part u (suc i) key (entry j x es) p h right = values-part u i key es p h right.2

  pub map-same : (t : ℕ) (u : TypeNo) (ms ns : Fields) → judged_by types.table (dict tt ms) t ≡ Some (shape.Map u) → judged_by types.table (dict tt ns) t ≡ Some (shape.Map u) → Same types t (dict tt ms) (dict tt ns)
  map-same t u ms ns e f = record { named = ap (λ s. ident_in types.table s (dict tt ns)) f ∙ sym (ap (λ s. ident_in types.table s (dict tt ms)) e); itself = refl }

  pub map-kept : (t : ℕ) (u : TypeNo) (l : Label) (es fs : Entries Label) → l.kind ≡ kind.Map u → (typing_of types.table).kind_of t (dict tt (bare_fields es)) ≡ Some (kind.Map u)
      → ValuesRight types u.0 fs → Kept t (keyed l es) (keyed l fs)
  map-kept t u l es fs is of right =
      let made : (typing_of types.table).kind_of t (dict tt (bare_fields fs)) ≡ Some (kind.Map u) = record-kind types sound t (kind.Map u) (bare_fields es) (bare_fields fs) tt of in
      let P : Kind → Type 0 = λ k. ByKind k (λ n. FieldsRight types fs (properties_of types.table n.0)) (λ v. ValuesRight types v fs) in
      record { right = (made ∙ ap Some (sym is), subst P (sym is) right); same = map-same t u (bare_fields es) (bare_fields fs) (map-shape _ (bare_fields es) u of) (map-shape _ (bare_fields fs) u made) }

  -- a part of a record, and another in its place

  pub record-part : (k : Kind) (i : ℕ) (key : List ℕ) (es : Entries Label) (p : Labelled) → slice_get (entries_in es) i ≡ Some (key, p)
      → ByKind k (λ m. FieldsRight types es (properties_of types.table m.0)) (λ u. ValuesRight types u es) → IsRight types (type_under types.table k key) p
  record-part (kind.Model m) i key es p h right = fields-part m i key es p (properties_of types.table m.0) (known-all (properties_of types.table m.0) (AreNamed-properties_of types m.0 sound)) h right
  record-part (kind.Map u) i key es p h right = (values-part u.0 i key es p h right).right
  record-part (kind.Array u) i key es p h right = absurd right

  record-kept : (t : ℕ) (k : Kind) (l : Label) (i : ℕ) (key : List ℕ) (es : Entries Label) (p : Labelled) (f : Labelled → Labelled) → l.kind ≡ k → slice_get (entries_in es) i ≡ Some (key, p)
      → (typing_of types.table).kind_of t (dict tt (bare_fields es)) ≡ Some k → ByKind k (λ m. FieldsRight types es (properties_of types.table m.0)) (λ u. ValuesRight types u es)
      → Kept (type_under types.table k key) p (f p) → Kept t (keyed l es) (keyed l (entry_changed i f es))
  record-kept t (kind.Model m) l i key es p f is h of right inner = field-kept t m l i key es p f is h of right inner.right (λ q e n. inner.same.itself)
  record-kept t (kind.Map u) l i key es p f is h of right inner =
      let old : Value_right u.0 key p = values-part u.0 i key es p h right in
      map-kept t u l es (entry_changed i f es) is of
      (values-changed u.0 i key es p f h right inner.right (ap (is_keyed key) inner.same.named ∙ old.keyed))
  record-kept t (kind.Array u) l i key es p f is h of right inner = absurd right

  pub right-part : (t : ℕ) (way : List Turn) (x part : Labelled) → Stands way x part → IsRight types t x → IsRight types (type_at (typing_of types.table) t way x) part
  right-part t [] x part h right = subst (IsRight types t) h right
  right-part t (to_item i ∷ way) (many l bs) part (p, found, stands) right =
      let P : ℕ → Type 0 = λ u. IsRight types u part in
      subst P (sym (turn-type types sound t (to_item i) way (many l bs) p found)) (right-part (type_under types.table l.kind []) way p part stands (array-part l.kind i bs p found right.1))
  right-part t (to_entry i key ∷ way) (keyed l es) part (p, found, stands) right =
      let P : ℕ → Type 0 = λ u. IsRight types u part in
      subst P (sym (turn-type types sound t (to_entry i key) way (keyed l es) p (entry-turn types sound i key l es p found)))
      (right-part (type_under types.table l.kind key) way p part stands (record-part l.kind i key es p found right.1))
  right-part t (to_item i ∷ way) (leaf v) part h right = absurd h
  right-part t (to_item i ∷ way) (keyed l es) part h right = absurd h
  right-part t (to_entry i key ∷ way) (leaf v) part h right = absurd h
  right-part t (to_entry i key ∷ way) (many l bs) part h right = absurd h

  pub right-with : (t : ℕ) (way : List Turn) (x part y : Labelled) → Stands way x part → IsRight types t x → Kept (type_at (typing_of types.table) t way x) part y → Kept t x (with_part way y x)
  right-with t [] x part y h right kept = let P : Labelled → Type 0 = λ z. Kept t z y in subst P (sym h) kept
  right-with t (to_item i ∷ way) (many l bs) part y (p, found, stands) right kept =
      let u : ℕ = type_under types.table l.kind [] in
      let P : ℕ → Type 0 = λ v. Kept v part y in
      let inner : Kept u p (with_part way y p) =
      right-with u way p part y stands (array-part l.kind i bs p found right.1) (subst P (turn-type types sound t (to_item i) way (many l bs) p found) kept) in
      record {
        right = (list-kind types sound t l.kind bs (item_changed i (with_part way y) bs) right.0, array-changed l.kind i bs p (with_part way y) found right.1 inner.right);
        same = list-same t (bare_items bs) (bare_items (item_changed i (with_part way y) bs));
      }
  right-with t (to_entry i key ∷ way) (keyed l es) part y (p, found, stands) right kept =
      let u : ℕ = type_under types.table l.kind key in
      let P : ℕ → Type 0 = λ v. Kept v part y in
      let inner : Kept u p (with_part way y p) =
      right-with u way p part y stands (record-part l.kind i key es p found right.1)
      (subst P (turn-type types sound t (to_entry i key) way (keyed l es) p (entry-turn types sound i key l es p found)) kept) in
      record-kept t l.kind l i key es p (with_part way y) refl found right.0 right.1 inner
  right-with t (to_item i ∷ way) (leaf v) part y h right kept = absurd h
  right-with t (to_item i ∷ way) (keyed l es) part y h right kept = absurd h
  right-with t (to_entry i key ∷ way) (leaf v) part y h right kept = absurd h
  right-with t (to_entry i key ∷ way) (many l bs) part y h right kept = absurd h
