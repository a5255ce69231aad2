-- What settling leaves of a value that is right is right.
use Rattle.std.proofs.Common.{◌≡◌, ℕ, zero, suc, List, [], ◌∷◌, ◌++◌, Bool, true, false, eqb, Option, Some, None, option_map, if◌then◌else◌, refl, sym, ap, subst, ◌∙◌}
use Rattle.std.specs.Prelude.{slice_get, ◌||◌}
use Rattle.std.proofs.lemmas.Bool.{eq-eqb}
use Rattle.std.proofs.lemmas.List.Folds.{list_any-append}
use Rattle.snap_core.specs.Value.{Value, null, dict}
use Rattle.snap_core.specs.declared.number.ModelNo.{ModelNo}
use Rattle.snap_core.specs.declared.number.TypeNo.{TypeNo}
use Rattle.type_table.specs.declared.shape.ModelType.{ModelType}
use Rattle.type_table.specs.declared.shape.Property.{Property}
use Rattle.type_table.specs.declared.shape.Shape.{Shape}
use Rattle.type_table.specs.declared.shape.Shape.TheVariants as shape
use Rattle.type_table.specs.Identifiers.{is_safe, identifier_of, ident_under, is_keyed, types_in, property_types, has_number, of_property}
use Rattle.type_table.specs.Table.{Table, Catalog, shape_at, properties_of}
use Rattle.type_table.specs.Targets.{target_of}
use Rattle.type_table.specs.Unions.{property_at}
use Rattle.type_core.specs.Doubled.{Key}
use Rattle.type_core.specs.Judging.{judged_by}
use Rattle.type_core.specs.Making.{scalar_made}
use Rattle.type_core.specs.Sound.{IsSound}
use Rattle.type_core.proofs.Chains.{judged_by-for, shape_for-property}
use Rattle.type_core.proofs.Sound.{AreNamed-properties_of}
use Rattle.edit_core.specs.declared.kind.Kind.{Kind}
use Rattle.edit_core.specs.declared.kind.Kind.TheVariants as kind
use Rattle.edit_core.specs.Labelled.{Label, Labelled, Entry, Branches, Entries, leaf, many, keyed, no_branches, branch, no_entries, entry, branches, entries, bare, bare_items, bare_fields}
use Rattle.edit_core.specs.Labelling.{IfArray}
use Rattle.tree_core.specs.Settling.{Settling, safe_target, leads_nowhere, is_loose, item_type}
use Rattle.tree_core.specs.TypesTyping.{typing_of, type_under}
use Rattle.tree_reading.specs.Settled.{left_of, settled_value, settled_items, settled_entries}
use Rattle.tree_laws.proofs.Right.{ByKind, IsKeyed, IsRight, ItemsRight, ValuesRight, FieldsRight, Known, known-all, known-type}
use Rattle.tree_laws.proofs.RightParts.{Same, list-same, map-same, model-same}
use Rattle.tree_laws.proofs.SafeTypes.{identifier-unsafe}
use Rattle.tree_laws.proofs.SettledNodes.{ident-kept}
use Rattle.tree_laws.proofs.SettlingTyped.{null-kind, kind-letters}
use Rattle.tree_laws.proofs.Typed.{list-kind, record-kind, model-shape, map-shape, no-array}

-- properties' types are types of properties

abbrev AllIn : List Property → List TypeNo → Type 0
AllIn [] us = Unit {0}
AllIn (p ∷ ps) us = (has_number p.of.0 us ≡ true) × AllIn ps us

or-true : (a b : Bool) → b ≡ true → (a || b) ≡ true
or-true true b h = refl
or-true false b h = h

or-left : (a b : Bool) → a ≡ true → (a || b) ≡ true
or-left true b h = refl
or-left false b h = absurd (cc)

in-more : (u : TypeNo) (ps : List Property) (us : List TypeNo) → AllIn ps us → AllIn ps (u ∷ us)
in-more u [] us h = tt
in-more u (p ∷ ps) us h = (or-true (eqb p.of.0 u.0) (has_number p.of.0 us) h.0, in-more u ps us h.1)

in-own : (ps : List Property) → AllIn ps (types_in ps)
in-own [] = tt
in-own (p ∷ ps) = (or-left (eqb p.of.0 p.of.0) (has_number p.of.0 (types_in ps)) (eq-eqb p.of.0 p.of.0 refl), in-more p.of ps (types_in ps) (in-own ps))

in-front : (ps : List Property) (us vs : List TypeNo) → AllIn ps us → AllIn ps (us ++ vs)
in-front [] us vs h = tt
in-front (p ∷ ps) us vs h = (list_any-append (λ (u : TypeNo). eqb p.of.0 u.0) us vs ∙ or-left (has_number p.of.0 us) (has_number p.of.0 vs) h.0, in-front ps us vs h.1)

in-back : (ps : List Property) (us vs : List TypeNo) → AllIn ps vs → AllIn ps (us ++ vs)
in-back [] us vs h = tt
in-back (p ∷ ps) us vs h = (list_any-append (λ (u : TypeNo). eqb p.of.0 u.0) us vs ∙ or-true (has_number p.of.0 us) (has_number p.of.0 vs) h.0, in-back ps us vs h.1)

in-models : (models : List ModelType) (i : ℕ) (m : ModelType) → slice_get models i ≡ Some m → AllIn m.properties (property_types models)
in-models [] i m h = absurd (cc)
in-models (n ∷ ns) zero m h =
    let same : n ≡ m = cc in
    let P : ModelType → Type 0 = λ k. AllIn k.properties (property_types (n ∷ ns)) in
    subst P same (in-front n.properties (types_in n.properties) (property_types ns) (in-own n.properties))
in-models (n ∷ ns) (suc i) m h = in-back m.properties (types_in n.properties) (property_types ns) (in-models ns i m h)

all-owned : (table : Table) (m : ModelNo) → AllIn (properties_of table m.0) (property_types table.models)
all-owned table m = by (slice_get table.models m.0) refl where
  by : (o : Option ModelType) → slice_get table.models m.0 ≡ o → AllIn (properties_of table m.0) (property_types table.models)
  by None e = rw e tt
  by (Some model) e = rw e (in-models table.models m.0 model e)

safe-of : (o : Option Shape) → is_safe o ≡ true → (u : TypeNo) × (o ≡ Some (shape.Safe u))
safe-of (Some (shape.Safe u)) h = (u, refl)
safe-of _ h = absurd (cc)

loose-safe : (keys : List Key) (b : Bool) (o : Option ModelNo) (v : Value) → leads_nowhere keys (if b then o else None) v ≡ true → b ≡ true
loose-safe keys true o v h = refl
loose-safe keys false o v h = absurd (cc)

module _ (types : Catalog) (sound : IsSound types) (s : Settling) (of : s.table ≡ types.table) where
  -- a safe reference of a property can be null
  null-right : (t : ℕ) (x : Labelled) → is_loose s t x ≡ true → of_property types.table t ≡ true → IsRight types t (leaf null)
  null-right t x loose own =
      let P : Table → Type 0 = λ table. leads_nowhere s.keys (safe_target table t) (bare x) ≡ true in
      let is : is_safe (shape_at types.table t) ≡ true = loose-safe s.keys (is_safe (shape_at types.table t)) (target_of types.table (shape_at types.table t)) (bare x) (subst P of loose) in
      let safe = safe-of (shape_at types.table t) is in
      let judged : judged_by types.table null t ≡ Some (shape.Safe safe.0) =
      judged_by-for types.table sound.loopless null t (shape.Safe safe.0) (shape_for-property types.table null t safe.0 safe.1 own) in
      (null-kind _, ap (scalar_made types.table null) judged)

  -- a settled value has the same identifier
  settled-same : (u : ℕ) (x : Labelled) → IsRight types u x → Same types u (bare x) (bare (settled_value s x))
  settled-same u (leaf v) right = record { named = refl; itself = refl }
  settled-same u (many l bs) right = list-same types sound u (bare_items bs) (bare_items (branches (settled_items s (item_type l.kind) bs)))
  settled-same u (keyed l es) right = by l.kind right.0 (record-kind types sound u l.kind (bare_fields es) _ (kind-letters types sound s of l.kind es) right.0) where
    under : (m : ModelNo) (o : Option Property) → identifier_of types.table m.0 ≡ o → ident_under o (bare_fields (entries (settled_entries s (kind.Model m) es))) ≡ ident_under o (bare_fields es)
    under m None e = refl
    under m (Some q) e =
        let unsafe = identifier-unsafe types sound m q.name (ap (option_map (λ (p : Property). p.name)) e) in
        let P : Table → Type 0 = λ table. safe_target table (type_under table (kind.Model m) q.name) ≡ None in
        ident-kept s m q.name (subst P (sym of) unsafe) es

    by : (k : Kind) → (typing_of types.table).kind_of u (dict tt (bare_fields es)) ≡ Some k → (typing_of types.table).kind_of u (dict tt (bare_fields (entries (settled_entries s k es)))) ≡ Some k
        → Same types u (dict tt (bare_fields es)) (dict tt (bare_fields (entries (settled_entries s k es))))
    by (kind.Model m) e f = model-same types sound u m (bare_fields es) _ (model-shape _ (bare_fields es) m e) (model-shape _ _ m f) (under m (identifier_of types.table m.0) refl)
    by (kind.Map v) e f = map-same types sound u v (bare_fields es) _ (map-shape _ (bare_fields es) v e) (map-shape _ _ v f)
    by (kind.Array v) e f = absurd (no-array _ (bare_fields es) v e)

  array-settled : (k : Kind) (bs : Branches Label) → ((u : ℕ) → ItemsRight types u bs → ItemsRight types u (branches (settled_items s u bs)))
      → IfArray k (λ u. ItemsRight types u bs) → IfArray k (λ u. ItemsRight types u (branches (settled_items s (item_type k) bs)))
  array-settled (kind.Array u) bs inner right = inner u.0 right
  array-settled (kind.Model m) bs inner right = right
  array-settled (kind.Map u) bs inner right = right

  record-settled : (k : Kind) (es : Entries Label)
      → ((m : ModelNo) (ps : List Property) → Known (properties_of types.table m.0) ps → AllIn ps (property_types types.table.models) → FieldsRight types es ps
      → FieldsRight types (entries (settled_entries s (kind.Model m) es)) ps)
      → ((u : TypeNo) → ValuesRight types u.0 es → ValuesRight types u.0 (entries (settled_entries s (kind.Map u) es)))
      → ByKind k (λ m. FieldsRight types es (properties_of types.table m.0)) (λ u. ValuesRight types u es)
      → ByKind k (λ m. FieldsRight types (entries (settled_entries s k es)) (properties_of types.table m.0)) (λ u. ValuesRight types u (entries (settled_entries s k es)))
  record-settled (kind.Model m) es fields values right =
      fields m (properties_of types.table m.0) (known-all (properties_of types.table m.0) (AreNamed-properties_of types m.0 sound)) (all-owned types.table m) right
  record-settled (kind.Map u) es fields values right = values u right
  record-settled (kind.Array u) es fields values right = right

  item-settled : (b : Bool) (u : ℕ) (y : Labelled) (kept : List Labelled) → IsRight types u y → ItemsRight types u (branches kept) → ItemsRight types u (branches (if b then kept else y ∷ kept))
  item-settled true u y kept one rest = rest
  item-settled false u y kept one rest = (one, rest)

  value-settled : (b : Bool) (u : TypeNo) (key : List ℕ) (y : Labelled) (kept : List Entry) → IsRight types u.0 y → IsKeyed types u.0 key (bare y) → ValuesRight types u.0 (entries kept)
      → ValuesRight types u.0 (entries (if b then left_of (kind.Map u) key ++ kept else (key, y) ∷ kept))
  value-settled true u key y kept one own rest = rest
  value-settled false u key y kept one own rest = (one, own, rest)

  field-settled : (b : Bool) (m : ModelNo) (k : List ℕ) (y : Labelled) (kept : List Entry) (p : Property) (ps : List Property) → k ≡ p.name → (b ≡ true → IsRight types p.of.0 (leaf null)) → IsRight types p.of.0 y
      → FieldsRight types (entries kept) ps → FieldsRight types (entries (if b then left_of (kind.Model m) k ++ kept else (k, y) ∷ kept)) (p ∷ ps)
  field-settled true m k y kept p ps e gone one rest = (e, gone refl, rest)
  field-settled false m k y kept p ps e gone one rest = (e, one, rest)

  -- a loose property, at its own type
  loose-at : (m : ModelNo) (k : List ℕ) (p : Property) (x : Labelled) → k ≡ p.name → property_at p.name (properties_of types.table m.0) ≡ Some p
      → is_loose s (type_under s.table (kind.Model m) k) x ≡ true → is_loose s p.of.0 x ≡ true
  loose-at m k p x e known loose =
      let P : Table → Type 0 = λ table. is_loose s (type_under table (kind.Model m) k) x ≡ true in
      let Q : ℕ → Type 0 = λ t. is_loose s t x ≡ true in
      subst Q (known-type types.table m p k e known) (subst P of loose)

  mutual
    pub settled-right : (t : ℕ) (x : Labelled) → IsRight types t x → IsRight types t (settled_value s x)
    settled-right t (leaf v) right = right
    settled-right t (many l bs) right = (list-kind types sound t l.kind bs _ right.0, array-settled l.kind bs (λ u h. items-settled u bs h) right.1)
    settled-right t (keyed l es) right = (
      record-kind types sound t l.kind (bare_fields es) _ (kind-letters types sound s of l.kind es) right.0,
      record-settled l.kind es (λ m ps known own h. fields-settled m es ps known own h) (λ u h. values-settled u es h) right.1,
    )

    items-settled : (u : ℕ) (bs : Branches Label) → ItemsRight types u bs → ItemsRight types u (branches (settled_items s u bs))
    items-settled u no_branches right = tt
    items-settled u (branch x bs) right = item-settled (is_loose s u x) u (settled_value s x) (settled_items s u bs) (settled-right u x right.0) (items-settled u bs right.1)

    values-settled : (u : TypeNo) (es : Entries Label) → ValuesRight types u.0 es → ValuesRight types u.0 (entries (settled_entries s (kind.Map u) es))
    values-settled u no_entries right = tt
    values-settled u (entry key x es) right =
        value-settled (is_loose s (type_under s.table (kind.Map u) key) x) u key (settled_value s x) (settled_entries s (kind.Map u) es) (settled-right u.0 x right.0)
        (ap (is_keyed key) (settled-same u.0 x right.0).named ∙ right.1) (values-settled u es right.2)

    fields-settled : (m : ModelNo) (es : Entries Label) (ps : List Property) → Known (properties_of types.table m.0) ps → AllIn ps (property_types types.table.models) → FieldsRight types es ps
        → FieldsRight types (entries (settled_entries s (kind.Model m) es)) ps
    fields-settled m no_entries [] known own right = tt
    fields-settled m no_entries (p ∷ ps) known own right = absurd right
    fields-settled m (entry k x es) [] known own right = absurd right
    fields-settled m (entry k x es) (p ∷ ps) known own right =
        field-settled (is_loose s (type_under s.table (kind.Model m) k) x) m k (settled_value s x) (settled_entries s (kind.Model m) es) p ps right.0
        (λ loose. null-right p.of.0 x (loose-at m k p x right.0 known.0 loose) own.0)
        (settled-right p.of.0 x right.1) (fields-settled m es ps known.1 own.1 right.2)
