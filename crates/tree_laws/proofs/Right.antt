-- A labelled value that is right: each node has the kind that its type gives it, and each part is made of itself.
use Rattle.std.proofs.Common.{◌≡◌, ℕ, ◌+◌, List, [], ◌∷◌, Bool, true, false, cond, if◌then◌else◌, Option, Some, None, Ok, decimal, refl, sym, ap, subst, ◌∙◌}
use Rattle.std.specs.declared.cmp.Ordering.TheVariants.{Less}
use Rattle.std.specs.Str.{bytes_eq}
use Rattle.std.proofs.lemmas.Cmp.{nat_list_cmp_total}
use Rattle.snap_core.specs.Value.{Value, list, dict, part, member, ComesBefore, Items, Fields}
use Rattle.snap_core.specs.declared.number.ModelNo.{ModelNo}
use Rattle.snap_core.specs.declared.number.TypeNo.{TypeNo}
use Rattle.snap_core.proofs.Finding.{key_cmp, bytes_eq-Less}
use Rattle.type_table.specs.declared.shape.Property.{Property}
use Rattle.type_table.specs.declared.shape.Shape.{Shape}
use Rattle.type_table.specs.declared.shape.Shape.TheVariants as shape
use Rattle.type_table.specs.Table.{Table, Catalog, properties_of, names_of, AreNamed}
use Rattle.type_table.specs.Identifiers.{ident_in, is_keyed}
use Rattle.type_table.specs.Unions.{property_at}
use Rattle.type_core.specs.Judging.{judged_by}
use Rattle.pointer_core.specs.declared.refusal.Rule.TheVariants.{Key}
use Rattle.type_core.specs.Making.{Outcome, refused, absent, under, part_made, entry_made, keyed as under_key, items_made, entries_made, list_of, record_of, list_made, dict_made, maker_of, makers_of, fields_of}
use Rattle.type_core.specs.Sound.{IsSound}
use Rattle.type_core.proofs.Outcomes.{part_made-Ok, entry_made-Ok, list_of-Ok, record_of-Ok, keyed-Ok}
use Rattle.type_core.proofs.Sound.{AreNamed-properties_of}
use Rattle.edit_core.specs.declared.kind.Kind.{Kind}
use Rattle.edit_core.specs.declared.kind.Kind.TheVariants as kind
use Rattle.edit_core.specs.Labelled.{Label, Labelled, Branches, Entries, leaf, many, keyed, no_branches, branch, no_entries, entry, bare, bare_items, bare_fields}
use Rattle.edit_core.specs.Labelling.{IfArray, IfRecord, IsLabelledBy, AreLabelledBy, HoldLabelledBy}
use Rattle.reconcile_core.specs.RealTypes.{kind_by, type_or_none}
use Rattle.tree_core.specs.TypesTyping.{typing_of, type_under}
use Rattle.tree_laws.proofs.Fields.{Fits, fits-made}
use Rattle.tree_laws.proofs.Named.{text-itself}
use Rattle.tree_laws.proofs.RootStays.{model-fits}
use Rattle.tree_laws.proofs.Typed.{model-shape, map-shape}

-- a fact of a model's entries, and one of a map's
abbrev pub ByKind : Kind → (ModelNo → Type 0) → (ℕ → Type 0) → Type 0
ByKind (kind.Model m) P Q = P m
ByKind (kind.Map u) P Q = Q u.0
ByKind (kind.Array u) P Q = ⊥

-- a value under a key of a map stands under its identifier
abbrev pub IsKeyed : Catalog → ℕ → List ℕ → Value → Type 0
IsKeyed types u k v = is_keyed k (ident_in types.table (judged_by types.table v u) v) ≡ true

abbrev mutual
  pub IsRight : Catalog → ℕ → Labelled → Type 0
  IsRight types t (leaf v) = ((typing_of types.table).kind_of t v ≡ None) × (maker_of types.table types.defaults v t ≡ Ok v)
  IsRight types t (many l bs) = ((typing_of types.table).kind_of t (list tt (bare_items bs)) ≡ Some l.kind) × IfArray l.kind (λ u. ItemsRight types u bs)
  IsRight types t (keyed l es) =
      ((typing_of types.table).kind_of t (dict tt (bare_fields es)) ≡ Some l.kind)
      × ByKind l.kind (λ m. FieldsRight types es (properties_of types.table m.0)) (λ u. ValuesRight types u es)

  pub ItemsRight : Catalog → ℕ → Branches Label → Type 0
  ItemsRight types u no_branches = Unit {0}
  ItemsRight types u (branch x bs) = IsRight types u x × ItemsRight types u bs

  pub ValuesRight : Catalog → ℕ → Entries Label → Type 0
  ValuesRight types u no_entries = Unit {0}
  ValuesRight types u (entry k x es) = IsRight types u x × IsKeyed types u k (bare x) × ValuesRight types u es

  pub FieldsRight : Catalog → Entries Label → List Property → Type 0
  FieldsRight types no_entries [] = Unit {0}
  FieldsRight types no_entries (p ∷ ps) = ⊥
  FieldsRight types (entry k x es) [] = ⊥
  FieldsRight types (entry k x es) (p ∷ ps) = (k ≡ p.name) × IsRight types p.of.0 x × FieldsRight types es ps

-- which shape gives a kind
pub array-shape : (s : Option Shape) (ps : Items) (u : TypeNo) → kind_by s (list tt ps) ≡ Some (kind.Array u) → s ≡ Some (shape.Array u)
array-shape (Some (shape.Array w)) ps u h = let same : w ≡ u = cc in ap (λ (n : TypeNo). Some (shape.Array n)) same
array-shape _ ps u h = absurd (cc)

-- each property is the one of its name
abbrev pub Known : List Property → List Property → Type 0
Known all [] = Unit {0}
Known all (p ∷ ps) = (property_at p.name all ≡ Some p) × Known all ps

before-further : (first : List ℕ) (p : Property) (ps : List Property) → key_cmp first p.name ≡ Less → ComesBefore p.name (names_of ps) → ComesBefore first (names_of ps)
before-further first p [] less before = tt
before-further first p (q ∷ ps) less before = nat_list_cmp_total.trans first p.name q.name less before

known-more : (p : Property) (all ps : List Property) → ComesBefore p.name (names_of ps) → AreNamed ps → Known all ps → Known (p ∷ all) ps
known-more p all [] before named known = tt
known-more p all (q ∷ ps) before named known =
    let other : bytes_eq q.name p.name ≡ false = bytes_eq-Less q.name p.name before in
    (ap (λ b. cond b (Some p) (property_at q.name all)) other ∙ known.0, known-more p all ps (before-further p.name q ps before named.0) named.1 known.1)

pub known-all : (ps : List Property) → AreNamed ps → Known ps ps
known-all [] named = tt
known-all (p ∷ ps) named = (ap (λ b. cond b (Some p) (property_at p.name ps)) (text-itself p.name), known-more p ps ps named.0 named.1 (known-all ps named.1))

-- the type under the name of a property
pub known-type : (table : Table) (m : ModelNo) (p : Property) (k : List ℕ) → k ≡ p.name → property_at p.name (properties_of table m.0) ≡ Some p → type_under table (kind.Model m) k ≡ p.of.0
known-type table m p k same known = ap (type_under table (kind.Model m)) same ∙ ap (type_or_none table) known

-- a value that stands under its key, or not
abbrev kept : Bool → Value → Outcome Value
kept b v = if b then Ok v else refused Key

module _ (types : Catalog) (sound : IsSound types) where
  array-from : (t : ℕ) (k : Kind) (bs : Branches Label) → (typing_of types.table).kind_of t (list tt (bare_items bs)) ≡ Some k → IfArray k (λ u. AreLabelledBy (typing_of types.table) u bs)
      → maker_of types.table types.defaults (list tt (bare_items bs)) t ≡ Ok (list tt (bare_items bs))
      → ((u : ℕ) → AreLabelledBy (typing_of types.table) u bs → items_made 0 u (makers_of types.table types.defaults (bare_items bs)) ≡ Ok (bare_items bs) → ItemsRight types u bs)
      → IfArray k (λ u. ItemsRight types u bs)
  array-from t (kind.Model m) bs e labelled made inner = absurd labelled
  array-from t (kind.Map u) bs e labelled made inner = absurd labelled
  array-from t (kind.Array u) bs e labelled made inner =
      let judged : judged_by types.table (list tt (bare_items bs)) t ≡ Some (shape.Array u) = array-shape _ (bare_items bs) u e in
      let parts = list_of-Ok (items_made 0 u.0 (makers_of types.table types.defaults (bare_items bs))) (list tt (bare_items bs))
      (sym (ap (list_made (list tt (bare_items bs)) (makers_of types.table types.defaults (bare_items bs))) judged) ∙ made) in
      inner u.0 labelled (parts.1 ∙ ap Ok (one parts.0 parts.2)) where
        one : (ps : Items) → list tt (bare_items bs) ≡ list tt ps → ps ≡ bare_items bs
        one ps f = cc

  record-from : (t : ℕ) (k : Kind) (es : Entries Label) → (typing_of types.table).kind_of t (dict tt (bare_fields es)) ≡ Some k → IfRecord k (HoldLabelledBy (typing_of types.table) k es)
      → maker_of types.table types.defaults (dict tt (bare_fields es)) t ≡ Ok (dict tt (bare_fields es))
      → ((m : ModelNo) (ps : List Property) → Known (properties_of types.table m.0) ps → HoldLabelledBy (typing_of types.table) (kind.Model m) es → Fits types.table types.defaults ps (bare_fields es) → FieldsRight types es ps)
      → ((u : TypeNo) → HoldLabelledBy (typing_of types.table) (kind.Map u) es → entries_made u.0 (fields_of types.table types.defaults (bare_fields es)) ≡ Ok (bare_fields es) → ValuesRight types u.0 es)
      → ByKind k (λ m. FieldsRight types es (properties_of types.table m.0)) (λ u. ValuesRight types u es)
  record-from t (kind.Array u) es e labelled made fields values = absurd labelled
  record-from t (kind.Model m) es e labelled made fields values =
      fields m (properties_of types.table m.0) (known-all (properties_of types.table m.0) (AreNamed-properties_of types m.0 sound)) labelled
      (model-fits types sound m t (bare_fields es) (model-shape _ (bare_fields es) m e) made)
  record-from t (kind.Map u) es e labelled made fields values =
      let judged : judged_by types.table (dict tt (bare_fields es)) t ≡ Some (shape.Map u) = map-shape _ (bare_fields es) u e in
      let parts = record_of-Ok (entries_made u.0 (fields_of types.table types.defaults (bare_fields es))) (dict tt (bare_fields es))
      (sym (ap (dict_made types.table (absent types.table types.defaults) (dict tt (bare_fields es)) (fields_of types.table types.defaults (bare_fields es))) judged) ∙ made) in
      values u labelled (parts.1 ∙ ap Ok (one parts.0 parts.2)) where
        one : (ms : Fields) → dict tt (bare_fields es) ≡ dict tt ms → ms ≡ bare_fields es
        one ms f = cc

  -- from labels that follow types, of a value that is made of itself
  mutual
    pub right-from : (t : ℕ) (x : Labelled) → IsLabelledBy (typing_of types.table) t x → maker_of types.table types.defaults (bare x) t ≡ Ok (bare x) → IsRight types t x
    right-from t (leaf v) labelled made = (labelled, made)
    right-from t (many l bs) labelled made = (labelled.0, array-from t l.kind bs labelled.0 labelled.1 made (λ u h m. items-from u 0 bs h m))
    right-from t (keyed l es) labelled made =
        (labelled.0, record-from t l.kind es labelled.0 labelled.1 made (λ m ps known h f. fields-from m es ps known h f) (λ u h m. values-from u es h m))

    items-from : (u i : ℕ) (bs : Branches Label) → AreLabelledBy (typing_of types.table) u bs
        → items_made i u (makers_of types.table types.defaults (bare_items bs)) ≡ Ok (bare_items bs) → ItemsRight types u bs
    items-from u i no_branches labelled made = tt
    items-from u i (branch x bs) labelled made =
        let parts = part_made-Ok (maker_of types.table types.defaults (bare x) u) (items_made (i + 1) u (makers_of types.table types.defaults (bare_items bs))) (decimal i) (part (bare x) (bare_items bs)) made in
        (right-from u x labelled.0 (parts.2 ∙ ap Ok (first parts.0 parts.1 parts.4)), items-from u (i + 1) bs labelled.1 (parts.3 ∙ ap Ok (rest parts.0 parts.1 parts.4))) where
          first : (v : Value) (ps : Items) → part (bare x) (bare_items bs) ≡ part v ps → v ≡ bare x
          first v ps f = cc

          rest : (v : Value) (ps : Items) → part (bare x) (bare_items bs) ≡ part v ps → ps ≡ bare_items bs
          rest v ps f = cc

    fields-from : (m : ModelNo) (es : Entries Label) (ps : List Property) → Known (properties_of types.table m.0) ps → HoldLabelledBy (typing_of types.table) (kind.Model m) es
        → Fits types.table types.defaults ps (bare_fields es) → FieldsRight types es ps
    fields-from m no_entries [] known labelled fits = tt
    fields-from m no_entries (p ∷ ps) known labelled fits = absurd fits
    fields-from m (entry k x es) [] known labelled fits = absurd fits
    fields-from m (entry k x es) (p ∷ ps) known labelled fits =
        let P : ℕ → Type 0 = λ u. IsLabelledBy (typing_of types.table) u x in
        (fits.0, right-from p.of.0 x (subst P (known-type types.table m p k fits.0 known.0) labelled.0) fits.1, fields-from m es ps known.1 labelled.1 fits.2)

    values-from : (u : TypeNo) (es : Entries Label) → HoldLabelledBy (typing_of types.table) (kind.Map u) es
        → entries_made u.0 (fields_of types.table types.defaults (bare_fields es)) ≡ Ok (bare_fields es) → ValuesRight types u.0 es
    values-from u no_entries labelled made = tt
    values-from u (entry k x es) labelled made =
        let own = ident_in types.table (judged_by types.table (bare x) u.0) (bare x) in
        let parts = entry_made-Ok k (under_key k own (maker_of types.table types.defaults (bare x) u.0)) (entries_made u.0 (fields_of types.table types.defaults (bare_fields es))) (member k (bare x) (bare_fields es)) made in
        let one = keyed-Ok k own (maker_of types.table types.defaults (bare x) u.0) parts.0 parts.2 in
        (right-from u.0 x labelled.0 (one.0 ∙ ap Ok (first parts.0 parts.1 parts.4)), one.1, values-from u es labelled.1 (parts.3 ∙ ap Ok (rest parts.0 parts.1 parts.4))) where
          first : (v : Value) (ms : Fields) → member k (bare x) (bare_fields es) ≡ member k v ms → v ≡ bare x
          first v ms f = cc

          rest : (v : Value) (ms : Fields) → member k (bare x) (bare_fields es) ≡ member k v ms → ms ≡ bare_fields es
          rest v ms f = cc

  array-made : (t : ℕ) (k : Kind) (bs : Branches Label) → (typing_of types.table).kind_of t (list tt (bare_items bs)) ≡ Some k → IfArray k (λ u. ItemsRight types u bs)
      → ((u : ℕ) → ItemsRight types u bs → items_made 0 u (makers_of types.table types.defaults (bare_items bs)) ≡ Ok (bare_items bs))
      → maker_of types.table types.defaults (list tt (bare_items bs)) t ≡ Ok (list tt (bare_items bs))
  array-made t (kind.Model m) bs e right inner = absurd right
  array-made t (kind.Map u) bs e right inner = absurd right
  array-made t (kind.Array u) bs e right inner =
      ap (list_made (list tt (bare_items bs)) (makers_of types.table types.defaults (bare_items bs))) (array-shape _ (bare_items bs) u e) ∙ ap list_of (inner u.0 right)

  record-made : (t : ℕ) (k : Kind) (es : Entries Label) → (typing_of types.table).kind_of t (dict tt (bare_fields es)) ≡ Some k
      → ByKind k (λ m. FieldsRight types es (properties_of types.table m.0)) (λ u. ValuesRight types u es)
      → ((ps : List Property) → FieldsRight types es ps → Fits types.table types.defaults ps (bare_fields es))
      → ((u : ℕ) → ValuesRight types u es → entries_made u (fields_of types.table types.defaults (bare_fields es)) ≡ Ok (bare_fields es))
      → maker_of types.table types.defaults (dict tt (bare_fields es)) t ≡ Ok (dict tt (bare_fields es))
  record-made t (kind.Array u) es e right fields values = absurd right
  record-made t (kind.Model m) es e right fields values =
      ap (dict_made types.table (absent types.table types.defaults) (dict tt (bare_fields es)) (fields_of types.table types.defaults (bare_fields es))) (model-shape _ (bare_fields es) m e)
      ∙ ap record_of (fits-made types.table types.defaults (properties_of types.table m.0) (bare_fields es) (bare_fields es) (AreNamed-properties_of types m.0 sound) (λ key v g. g)
      (fields (properties_of types.table m.0) right))
  record-made t (kind.Map u) es e right fields values =
      ap (dict_made types.table (absent types.table types.defaults) (dict tt (bare_fields es)) (fields_of types.table types.defaults (bare_fields es))) (map-shape _ (bare_fields es) u e)
      ∙ ap record_of (values u.0 right)

  -- and back
  mutual
    pub right-made : (t : ℕ) (x : Labelled) → IsRight types t x → maker_of types.table types.defaults (bare x) t ≡ Ok (bare x)
    right-made t (leaf v) right = right.1
    right-made t (many l bs) right = array-made t l.kind bs right.0 right.1 (λ u h. items-made u 0 bs h)
    right-made t (keyed l es) right = record-made t l.kind es right.0 right.1 (λ ps h. right-fits es ps h) (λ u h. values-made u es h)

    items-made : (u i : ℕ) (bs : Branches Label) → ItemsRight types u bs → items_made i u (makers_of types.table types.defaults (bare_items bs)) ≡ Ok (bare_items bs)
    items-made u i no_branches right = refl
    items-made u i (branch x bs) right =
        ap (λ o. part_made (under (decimal i) o) (items_made (i + 1) u (makers_of types.table types.defaults (bare_items bs)))) (right-made u x right.0)
        ∙ ap (part_made (Ok (bare x))) (items-made u (i + 1) bs right.1)

    pub right-fits : (es : Entries Label) (ps : List Property) → FieldsRight types es ps → Fits types.table types.defaults ps (bare_fields es)
    right-fits no_entries [] right = tt
    right-fits no_entries (p ∷ ps) right = absurd right
    right-fits (entry k x es) [] right = absurd right
    right-fits (entry k x es) (p ∷ ps) right = (right.0, right-made p.of.0 x right.1, right-fits es ps right.2)

    values-made : (u : ℕ) (es : Entries Label) → ValuesRight types u es → entries_made u (fields_of types.table types.defaults (bare_fields es)) ≡ Ok (bare_fields es)
    values-made u no_entries right = refl
    values-made u (entry k x es) right =
        let own = ident_in types.table (judged_by types.table (bare x) u) (bare x) in
        let rest = entries_made u (fields_of types.table types.defaults (bare_fields es)) in
        ap (λ o. entry_made k (under k (under_key k own o)) rest) (right-made u x right.0)
        ∙ ap (λ b. entry_made k (under k (kept b (bare x))) rest) right.1
        ∙ ap (entry_made k (Ok (bare x))) (values-made u es right.2)
