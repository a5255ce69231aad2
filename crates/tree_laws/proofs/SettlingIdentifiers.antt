-- Settling leaves the models with identifiers, in their order.
use Rattle.std.proofs.Common.{◌≡◌, ℕ, ◌+◌, List, [], ◌∷◌, ◌++◌, map, Bool, true, false, Option, Some, None, decimal, option_map, if◌then◌else◌, refl, sym, ap, subst, ◌∙◌}
use Rattle.std.specs.List.{list_any}
use Rattle.std.specs.Str.{bytes_eq}
use Rattle.std.proofs.lemmas.List.{map-append}
use Rattle.std.proofs.lemmas.Slice.Eq.{bytes_eq-Decides}
use Rattle.snap_core.specs.Value.{Value, null, boolean, integer, text, list, dict, part, Items, Fields}
use Rattle.snap_core.specs.declared.number.ModelNo.{ModelNo}
use Rattle.snap_core.specs.declared.number.TypeNo.{TypeNo}
use Rattle.type_table.specs.declared.shape.Property.{Property}
use Rattle.type_table.specs.Identifiers.{identifier_of, ident_under}
use Rattle.type_table.specs.Table.{Table, Catalog, properties_of}
use Rattle.type_table.specs.Unions.{property_at}
use Rattle.type_core.specs.Doubled.{Identified, Key, key_of, same_key, lowered, found_in_items, found_in_values, found_under, found_in_properties, found_itself, found_in_model, found_in_list, found_in_record, finder_of, finders_of, keyed_finders_of, identifiers_of, doubled_after, doubled_of}
use Rattle.type_core.specs.Sound.{IsSound}
use Rattle.type_core.proofs.Sound.{AreNamed-properties_of}
use Rattle.edit_core.specs.declared.kind.Kind.{Kind}
use Rattle.edit_core.specs.declared.kind.Kind.TheVariants as kind
use Rattle.edit_core.specs.Labelled.{Label, Labelled, Entry, Branches, Entries, leaf, many, keyed, no_branches, branch, no_entries, entry, branches, entries, bare, bare_items, bare_fields}
use Rattle.edit_core.specs.Labelling.{IfArray}
use Rattle.tree_core.specs.Settling.{Settling, safe_target, leads_nowhere, is_loose, item_type}
use Rattle.tree_core.specs.TypesTyping.{typing_of, type_under, root_type}
use Rattle.tree_reading.specs.Settled.{left_of, settled_value, settled_items, settled_entries}
use Rattle.tree_laws.proofs.Right.{ByKind, IsRight, ItemsRight, ValuesRight, FieldsRight, Known, known-all, known-type, array-shape}
use Rattle.tree_laws.proofs.RootStays.{root-kind}
use Rattle.tree_laws.proofs.SafeTypes.{identifier-unsafe}
use Rattle.tree_laws.proofs.SettledNodes.{ident-kept}
use Rattle.tree_laws.proofs.SettlingTyped.{kind-letters}
use Rattle.tree_laws.proofs.Typed.{list-kind, record-kind, model-shape, map-shape}

-- keys alone
abbrev keys : List Identified → List Key
keys ids = map key_of ids

keys-lowered : (token : List ℕ) (ids : List Identified) → keys (lowered token ids) ≡ keys ids
keys-lowered token [] = refl
keys-lowered token (i ∷ is) = ap (λ ks. key_of i ∷ ks) (keys-lowered token is)

keys-both : (a b c d : List Identified) → keys a ≡ keys b → keys c ≡ keys d → keys (a ++ c) ≡ keys (b ++ d)
keys-both a b c d e f = map-append key_of a c ∙ ap (λ ks. ks ++ keys c) e ∙ ap (λ ks. keys b ++ ks) f ∙ sym (map-append key_of b d)

-- that none stands twice is a matter of keys
single-by : (seen : List Key) (xs ys : List Identified) → keys xs ≡ keys ys → doubled_after seen ys ≡ None → doubled_after seen xs ≡ None
single-by seen [] ys e h = refl
single-by seen (a ∷ xs) [] e h = absurd (cc)
single-by seen (a ∷ xs) (b ∷ ys) e h =
    by (list_any (same_key (key_of a)) seen) (list_any (same_key (key_of b)) seen) (ap (λ k. list_any (same_key k) seen) first) h
    (λ g. single-by (seen ++ key_of a ∷ []) xs ys rest (ap (λ k. doubled_after (seen ++ k ∷ []) ys) first ∙ g)) where
      first : key_of a ≡ key_of b
      first = cc

      rest : keys xs ≡ keys ys
      rest = cc

      by : (c d : Bool) → c ≡ d → (if d then Some b.path else doubled_after (seen ++ key_of b ∷ []) ys) ≡ None
          → (doubled_after (seen ++ key_of b ∷ []) ys ≡ None → doubled_after (seen ++ key_of a ∷ []) xs ≡ None)
          → (if c then Some a.path else doubled_after (seen ++ key_of a ∷ []) xs) ≡ None
      by true true f g later = absurd (cc)
      by false false f g later = later g
      by true false f g later = absurd (cc)
      by false true f g later = absurd (cc)

-- what is loose has no model
nowhere-list : (keys : List Key) (o : Option ModelNo) (ps : Items) → leads_nowhere keys o (list tt ps) ≡ false
nowhere-list keys None ps = refl
nowhere-list keys (Some m) ps = refl

nowhere-dict : (keys : List Key) (o : Option ModelNo) (ms : Fields) → leads_nowhere keys o (dict tt ms) ≡ false
nowhere-dict keys None ms = refl
nowhere-dict keys (Some m) ms = refl

none-loose : (table : Table) (s : Settling) (t u : ℕ) (v : Value) → leads_nowhere s.keys (safe_target s.table t) v ≡ true → finder_of table v u ≡ []
none-loose table s t u null h = refl
none-loose table s t u (boolean b) h = refl
none-loose table s t u (integer z) h = refl
none-loose table s t u (text x) h = refl
none-loose table s t u (list a ps) h = let no : leads_nowhere s.keys (safe_target s.table t) (list a ps) ≡ false = nowhere-list s.keys (safe_target s.table t) ps in absurd (cc)
none-loose table s t u (dict a ms) h = let no : leads_nowhere s.keys (safe_target s.table t) (dict a ms) ≡ false = nowhere-dict s.keys (safe_target s.table t) ms in absurd (cc)

module _ (types : Catalog) (sound : IsSound types) (s : Settling) (of : s.table ≡ types.table) where
  abbrev found : Value → ℕ → List Key
  found v t = keys (finder_of types.table v t)

  -- the same are found in each entry, by its type
  abbrev SameEach : Kind → Entries Label → Type 0
  SameEach k no_entries = Unit {0}
  SameEach k (entry key x es) =
      (found (bare (settled_value s x)) (type_under types.table k key) ≡ found (bare x) (type_under types.table k key)) × SameEach k es

  -- items
  item-same : (b : Bool) (i j u : ℕ) (x : Labelled) (kept : List Labelled) (bs : Branches Label) → is_loose s u x ≡ b → found (bare (settled_value s x)) u ≡ found (bare x) u
      → ((i j : ℕ) → keys (found_in_items i u (finders_of types.table (bare_items (branches kept)))) ≡ keys (found_in_items j u (finders_of types.table (bare_items bs))))
      → keys (found_in_items i u (finders_of types.table (bare_items (branches (if b then kept else settled_value s x ∷ kept)))))
      ≡ keys (found_in_items j u (finders_of types.table (part (bare x) (bare_items bs))))
  item-same true i j u x kept bs loose one rest =
      rest i (j + 1)
      ∙ sym (ap (λ ids. keys (lowered (decimal j) ids ++ found_in_items (j + 1) u (finders_of types.table (bare_items bs)))) (none-loose types.table s u u (bare x) loose))
  item-same false i j u x kept bs tied one rest =
      keys-both (lowered (decimal i) (finder_of types.table (bare (settled_value s x)) u)) (lowered (decimal j) (finder_of types.table (bare x) u)) _ _
      (keys-lowered (decimal i) (finder_of types.table (bare (settled_value s x)) u) ∙ one ∙ sym (keys-lowered (decimal j) (finder_of types.table (bare x) u))) (rest (i + 1) (j + 1))

  -- values of a map
  value-same : (b : Bool) (u : TypeNo) (key : List ℕ) (x : Labelled) (kept : List Entry) (es : Entries Label) → is_loose s (type_under s.table (kind.Map u) key) x ≡ b
      → found (bare (settled_value s x)) u.0 ≡ found (bare x) u.0
      → keys (found_in_values u.0 (keyed_finders_of types.table (bare_fields (entries kept)))) ≡ keys (found_in_values u.0 (keyed_finders_of types.table (bare_fields es)))
      → keys (found_in_values u.0 (keyed_finders_of types.table (bare_fields (entries (if b then left_of (kind.Map u) key ++ kept else (key, settled_value s x) ∷ kept)))))
      ≡ keys (found_in_values u.0 ((key, finder_of types.table (bare x)) ∷ keyed_finders_of types.table (bare_fields es)))
  value-same true u key x kept es loose one rest =
      rest ∙ sym (ap (λ ids. keys (lowered key ids ++ found_in_values u.0 (keyed_finders_of types.table (bare_fields es)))) (none-loose types.table s (type_under s.table (kind.Map u) key) u.0 (bare x) loose))
  value-same false u key x kept es tied one rest =
      keys-both (lowered key (finder_of types.table (bare (settled_value s x)) u.0)) (lowered key (finder_of types.table (bare x) u.0)) _ _
      (keys-lowered key (finder_of types.table (bare (settled_value s x)) u.0) ∙ one ∙ sym (keys-lowered key (finder_of types.table (bare x) u.0))) rest

  -- a property of a model
  under-entry : (m : ModelNo) (p : Property) (b c : Bool) (k : List ℕ) (x : Labelled) (kept : List Entry) (es : Entries Label) → property_at p.name (properties_of types.table m.0) ≡ Some p
      → bytes_eq p.name k ≡ b → is_loose s (type_under s.table (kind.Model m) k) x ≡ c
      → found (bare (settled_value s x)) (type_under types.table (kind.Model m) k) ≡ found (bare x) (type_under types.table (kind.Model m) k)
      → keys (found_under p (keyed_finders_of types.table (bare_fields (entries kept)))) ≡ keys (found_under p (keyed_finders_of types.table (bare_fields es)))
      → keys (found_under p (keyed_finders_of types.table (bare_fields (entries (if c then (k, leaf null) ∷ kept else (k, settled_value s x) ∷ kept)))))
      ≡ keys (found_under p ((k, finder_of types.table (bare x)) ∷ keyed_finders_of types.table (bare_fields es)))
  under-entry m p b true k x kept es known e loose one rest =
      ap (λ d. keys (if d then lowered p.name (finder_of types.table null p.of.0) else found_under p (keyed_finders_of types.table (bare_fields (entries kept))))) e ∙ by b
      ∙ sym (ap (λ d. keys (if d then lowered p.name (finder_of types.table (bare x) p.of.0) else found_under p (keyed_finders_of types.table (bare_fields es)))) e) where
        by : (d : Bool) → keys (if d then lowered p.name (finder_of types.table null p.of.0) else found_under p (keyed_finders_of types.table (bare_fields (entries kept))))
            ≡ keys (if d then lowered p.name (finder_of types.table (bare x) p.of.0) else found_under p (keyed_finders_of types.table (bare_fields es)))
        by true = sym (ap (λ ids. keys (lowered p.name ids)) (none-loose types.table s (type_under s.table (kind.Model m) k) p.of.0 (bare x) loose))
        by false = rest
  under-entry m p b false k x kept es known e tied one rest =
      ap (λ d. keys (if d then lowered p.name (finder_of types.table (bare (settled_value s x)) p.of.0) else found_under p (keyed_finders_of types.table (bare_fields (entries kept))))) e ∙ by b e
      ∙ sym (ap (λ d. keys (if d then lowered p.name (finder_of types.table (bare x) p.of.0) else found_under p (keyed_finders_of types.table (bare_fields es)))) e) where
        by : (d : Bool) → bytes_eq p.name k ≡ d → keys (if d then lowered p.name (finder_of types.table (bare (settled_value s x)) p.of.0) else found_under p (keyed_finders_of types.table (bare_fields (entries kept))))
            ≡ keys (if d then lowered p.name (finder_of types.table (bare x) p.of.0) else found_under p (keyed_finders_of types.table (bare_fields es)))
        by true f =
            let same : p.name ≡ k = (bytes_eq-Decides p.name k).0 f in
            let type : type_under types.table (kind.Model m) k ≡ p.of.0 = known-type types.table m p k (sym same) known in
            let P : ℕ → Type 0 = λ t. found (bare (settled_value s x)) t ≡ found (bare x) t in
            keys-lowered p.name (finder_of types.table (bare (settled_value s x)) p.of.0) ∙ subst P type one ∙ sym (keys-lowered p.name (finder_of types.table (bare x) p.of.0))
        by false f = rest

  under-same : (m : ModelNo) (p : Property) (es : Entries Label) → property_at p.name (properties_of types.table m.0) ≡ Some p → SameEach (kind.Model m) es
      → keys (found_under p (keyed_finders_of types.table (bare_fields (entries (settled_entries s (kind.Model m) es))))) ≡ keys (found_under p (keyed_finders_of types.table (bare_fields es)))
  under-same m p no_entries known each = refl
  under-same m p (entry k x es) known each =
      under-entry m p (bytes_eq p.name k) (is_loose s (type_under s.table (kind.Model m) k) x) k x (settled_entries s (kind.Model m) es) es known refl refl each.0 (under-same m p es known each.1)

  properties-same : (m : ModelNo) (ps : List Property) (es : Entries Label) → Known (properties_of types.table m.0) ps → SameEach (kind.Model m) es
      → keys (found_in_properties ps (keyed_finders_of types.table (bare_fields (entries (settled_entries s (kind.Model m) es))))) ≡ keys (found_in_properties ps (keyed_finders_of types.table (bare_fields es)))
  properties-same m [] es known each = refl
  properties-same m (p ∷ ps) es known each = keys-both _ _ _ _ (under-same m p es known.0 each) (properties-same m ps es known.1 each)

  ident-same : (m : ModelNo) (es : Entries Label) → ident_under (identifier_of types.table m.0) (bare_fields (entries (settled_entries s (kind.Model m) es))) ≡ ident_under (identifier_of types.table m.0) (bare_fields es)
  ident-same m es = by (identifier_of types.table m.0) refl where
    by : (o : Option Property) → identifier_of types.table m.0 ≡ o → ident_under o (bare_fields (entries (settled_entries s (kind.Model m) es))) ≡ ident_under o (bare_fields es)
    by None e = refl
    by (Some q) e =
        let unsafe = identifier-unsafe types sound m q.name (ap (option_map (λ (p : Property). p.name)) e) in
        let P : Table → Type 0 = λ table. safe_target table (type_under table (kind.Model m) q.name) ≡ None in
        ident-kept s m q.name (subst P (sym of) unsafe) es

  model-keys : (m : ModelNo) (es : Entries Label) → SameEach (kind.Model m) es
      → keys (found_in_model types.table m (bare_fields (entries (settled_entries s (kind.Model m) es))) (keyed_finders_of types.table (bare_fields (entries (settled_entries s (kind.Model m) es)))))
      ≡ keys (found_in_model types.table m (bare_fields es) (keyed_finders_of types.table (bare_fields es)))
  model-keys m es each =
      keys-both (found_itself m (ident_under (identifier_of types.table m.0) (bare_fields (entries (settled_entries s (kind.Model m) es))))) (found_itself m (ident_under (identifier_of types.table m.0) (bare_fields es))) _ _
      (ap (λ o. keys (found_itself m o)) (ident-same m es))
      (properties-same m (properties_of types.table m.0) es (known-all (properties_of types.table m.0) (AreNamed-properties_of types m.0 sound)) each)

  -- by the kind of a node

  array-found : (t : ℕ) (k : Kind) (bs : Branches Label) → (typing_of types.table).kind_of t (list tt (bare_items bs)) ≡ Some k → IfArray k (λ u. ItemsRight types u bs)
      → ((u : ℕ) → ItemsRight types u bs → (i j : ℕ)
      → keys (found_in_items i u (finders_of types.table (bare_items (branches (settled_items s u bs))))) ≡ keys (found_in_items j u (finders_of types.table (bare_items bs))))
      → found (list tt (bare_items (branches (settled_items s (item_type k) bs)))) t ≡ found (list tt (bare_items bs)) t
  array-found t (kind.Model m) bs e right inner = absurd right
  array-found t (kind.Map u) bs e right inner = absurd right
  array-found t (kind.Array u) bs e right inner =
      ap (λ o. keys (found_in_list (finders_of types.table (bare_items (branches (settled_items s u.0 bs)))) o))
      (array-shape _ _ u (list-kind types sound t (kind.Array u) bs (branches (settled_items s u.0 bs)) e))
      ∙ inner u.0 right 0 0 ∙ sym (ap (λ o. keys (found_in_list (finders_of types.table (bare_items bs)) o)) (array-shape _ (bare_items bs) u e))

  record-found : (t : ℕ) (k : Kind) (es : Entries Label) → (typing_of types.table).kind_of t (dict tt (bare_fields es)) ≡ Some k
      → ByKind k (λ m. FieldsRight types es (properties_of types.table m.0)) (λ u. ValuesRight types u es)
      → ((m : ModelNo) (ps : List Property) → Known (properties_of types.table m.0) ps → FieldsRight types es ps → SameEach (kind.Model m) es)
      → ((u : TypeNo) → ValuesRight types u.0 es → keys (found_in_values u.0 (keyed_finders_of types.table (bare_fields (entries (settled_entries s (kind.Map u) es))))) ≡ keys (found_in_values u.0 (keyed_finders_of types.table (bare_fields es))))
      → found (dict tt (bare_fields (entries (settled_entries s k es)))) t ≡ found (dict tt (bare_fields es)) t
  record-found t (kind.Array u) es e right fields values = absurd right
  record-found t (kind.Model m) es e right fields values =
      let ms : Fields = bare_fields (entries (settled_entries s (kind.Model m) es)) in
      let made = record-kind types sound t (kind.Model m) (bare_fields es) ms (kind-letters types sound s of (kind.Model m) es) e in
      let each = fields m (properties_of types.table m.0) (known-all (properties_of types.table m.0) (AreNamed-properties_of types m.0 sound)) right in
      ap (λ o. keys (found_in_record types.table ms (keyed_finders_of types.table ms) o)) (model-shape _ ms m made) ∙ model-keys m es each
      ∙ sym (ap (λ o. keys (found_in_record types.table (bare_fields es) (keyed_finders_of types.table (bare_fields es)) o)) (model-shape _ (bare_fields es) m e))
  record-found t (kind.Map u) es e right fields values =
      let ms : Fields = bare_fields (entries (settled_entries s (kind.Map u) es)) in
      let made = record-kind types sound t (kind.Map u) (bare_fields es) ms tt e in
      ap (λ o. keys (found_in_record types.table ms (keyed_finders_of types.table ms) o)) (map-shape _ ms u made) ∙ values u right
      ∙ sym (ap (λ o. keys (found_in_record types.table (bare_fields es) (keyed_finders_of types.table (bare_fields es)) o)) (map-shape _ (bare_fields es) u e))

  mutual
    finder-same : (t : ℕ) (x : Labelled) → IsRight types t x → found (bare (settled_value s x)) t ≡ found (bare x) t
    finder-same t (leaf v) right = refl
    finder-same t (many l bs) right = array-found t l.kind bs right.0 right.1 (λ u h i j. items-found u bs h i j)
    finder-same t (keyed l es) right = record-found t l.kind es right.0 right.1 (λ m ps known h. each-found m es ps known h) (λ u h. values-found u es h)

    items-found : (u : ℕ) (bs : Branches Label) → ItemsRight types u bs → (i j : ℕ)
        → keys (found_in_items i u (finders_of types.table (bare_items (branches (settled_items s u bs))))) ≡ keys (found_in_items j u (finders_of types.table (bare_items bs)))
    items-found u no_branches right i j = refl
    items-found u (branch x bs) right i j = item-same (is_loose s u x) i j u x (settled_items s u bs) bs refl (finder-same u x right.0) (λ a b. items-found u bs right.1 a b)

    values-found : (u : TypeNo) (es : Entries Label) → ValuesRight types u.0 es
        → keys (found_in_values u.0 (keyed_finders_of types.table (bare_fields (entries (settled_entries s (kind.Map u) es))))) ≡ keys (found_in_values u.0 (keyed_finders_of types.table (bare_fields es)))
    values-found u no_entries right = refl
    values-found u (entry key x es) right =
        value-same (is_loose s (type_under s.table (kind.Map u) key) x) u key x (settled_entries s (kind.Map u) es) es refl (finder-same u.0 x right.0) (values-found u es right.2)

    each-found : (m : ModelNo) (es : Entries Label) (ps : List Property) → Known (properties_of types.table m.0) ps → FieldsRight types es ps → SameEach (kind.Model m) es
    each-found m no_entries ps known right = tt
    each-found m (entry k x es) [] known right = absurd right
    each-found m (entry k x es) (p ∷ ps) known right =
        let P : ℕ → Type 0 = λ t. found (bare (settled_value s x)) t ≡ found (bare x) t in
        (subst P (sym (known-type types.table m p k right.0 known.0)) (finder-same p.of.0 x right.1), each-found m es ps known.1 right.2)

  -- of a document
  identifiers-same : (root : Labelled) → IsRight types (root_type types) root → keys (identifiers_of types (bare (settled_value s root))) ≡ keys (identifiers_of types (bare root))
  identifiers-same (leaf v) right = refl
  identifiers-same (many l bs) right = refl
  identifiers-same (keyed l es) right =
      let is : l.kind ≡ kind.Model types.root = root-kind types sound es l.kind right.0 in
      let P : Kind → Type 0 = λ k. ByKind k (λ m. FieldsRight types es (properties_of types.table m.0)) (λ u. ValuesRight types u es) in
      let each = each-found types.root es (properties_of types.table types.root.0) (known-all (properties_of types.table types.root.0) (AreNamed-properties_of types types.root.0 sound)) (subst P is right.1) in
      ap (λ k. keys (identifiers_of types (dict tt (bare_fields (entries (settled_entries s k es)))))) is ∙ model-keys types.root es each

  pub still-single : (root : Labelled) → IsRight types (root_type types) root → doubled_of (identifiers_of types (bare root)) ≡ None → doubled_of (identifiers_of types (bare (settled_value s root))) ≡ None
  still-single root right h = single-by [] (identifiers_of types (bare (settled_value s root))) (identifiers_of types (bare root)) (identifiers-same root right) h
