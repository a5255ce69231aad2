-- Settling leaves each node with an identifier.
use Rattle.std.proofs.Common.{◌≡◌, ℕ, List, ◌∷◌, ◌++◌, Bool, true, false, Option, Some, None, refl, ap, subst, ◌∙◌, if◌then◌else◌}
use Rattle.std.specs.Prelude.{IsSome, ◌&&◌, nat_eq}
use Rattle.std.specs.Str.{bytes_eq}
use Rattle.std.proofs.lemmas.Bool.{eqb-true}
use Rattle.std.proofs.lemmas.Slice.Eq.{bytes_eq-Decides}
use Rattle.snap_core.specs.declared.number.ModelNo.{ModelNo}
use Rattle.snap_core.specs.Value.{Value, null, list, dict, value_at}
use Rattle.type_table.specs.Identifiers.{ident_of}
use Rattle.edit_core.specs.declared.kind.Kind.{Kind}
use Rattle.edit_core.specs.declared.kind.Kind.TheVariants as kind
use Rattle.edit_core.specs.Labelled.{Label, Labelled, Branches, Entries, Entry, leaf, many, keyed, no_branches, branch, no_entries, entry, branches, entries, bare, bare_items, bare_fields}
use Rattle.tree_core.specs.Reading.{Sought, is_sought, is_model, same_identifier, identifier_in, sought_in, sought_in_items, sought_in_entries, or_node}
use Rattle.tree_core.specs.Settling.{Settling, safe_target, leads_nowhere, is_loose, item_type}
use Rattle.tree_core.specs.TypesTyping.{type_under}
use Rattle.tree_reading.specs.Settled.{left_of, settled_value, settled_items, settled_entries}

-- an identifier in a value is that in the settled one
pub ident-settled : (s : Settling) (x : Labelled) → ident_of (Some (bare (settled_value s x))) ≡ ident_of (Some (bare x))
ident-settled s (leaf v) = refl
ident-settled s (many l bs) = refl
ident-settled s (keyed l es) = refl

nowhere : (s : Settling) (o : Option ModelNo) (v : Value) → o ≡ None → leads_nowhere s.keys o v ≡ false
nowhere s None v e = refl
nowhere s (Some m) v e = absurd (cc)

-- what is loose is no node
nowhere-list : (s : Settling) (o : Option ModelNo) (bs : Branches Label) → leads_nowhere s.keys o (list tt (bare_items bs)) ≡ false
nowhere-list s None bs = refl
nowhere-list s (Some m) bs = refl

nowhere-dict : (s : Settling) (o : Option ModelNo) (es : Entries Label) → leads_nowhere s.keys o (dict tt (bare_fields es)) ≡ false
nowhere-dict s None es = refl
nowhere-dict s (Some m) es = refl

loose-unsought : (q : Sought) (s : Settling) (t : ℕ) (x : Labelled) → is_loose s t x ≡ true → sought_in q x ≡ None
loose-unsought q s t (leaf v) h = refl
loose-unsought q s t (many l bs) h = let no = nowhere-list s (safe_target s.table t) bs in absurd (cc)
loose-unsought q s t (keyed l es) h = let no = nowhere-dict s (safe_target s.table t) es in absurd (cc)

-- the identifier of a record, under a name whose type is no safe reference
module _ (s : Settling) (m : ModelNo) (name : List ℕ) (unsafe : safe_target s.table (type_under s.table (kind.Model m) name) ≡ None) where
  Same : List Entry → Entries Label → Type 0
  Same kept es = ident_of (value_at name (bare_fields (entries kept))) ≡ ident_of (value_at name (bare_fields es))

  kept-here : (b c : Bool) (k : List ℕ) (x : Labelled) (kept : List Entry) (es : Entries Label) → bytes_eq name k ≡ b → is_loose s (type_under s.table (kind.Model m) k) x ≡ c
      → ident_of (value_at name (bare_fields (entries kept))) ≡ ident_of (value_at name (bare_fields es))
      → ident_of (value_at name (bare_fields (entries (if c then (k, leaf null) ∷ kept else (k, settled_value s x) ∷ kept))))
      ≡ ident_of (if b then Some (bare x) else value_at name (bare_fields es))
  kept-here true true k x kept es e loose rest =
      let same : name ≡ k = (bytes_eq-Decides name k).0 e in
      let P : List ℕ → Type 0 = λ j. safe_target s.table (type_under s.table (kind.Model m) j) ≡ None in
      let no : is_loose s (type_under s.table (kind.Model m) k) x ≡ false = nowhere s (safe_target s.table (type_under s.table (kind.Model m) k)) (bare x) (subst P same unsafe) in
      absurd (cc)
  kept-here true false k x kept es e tied rest =
      ap (λ b. ident_of (if b then Some (bare (settled_value s x)) else value_at name (bare_fields (entries kept)))) e ∙ ident-settled s x
  kept-here false true k x kept es e loose rest =
      ap (λ b. ident_of (if b then Some null else value_at name (bare_fields (entries kept)))) e ∙ rest
  kept-here false false k x kept es e tied rest =
      ap (λ b. ident_of (if b then Some (bare (settled_value s x)) else value_at name (bare_fields (entries kept)))) e ∙ rest

  pub ident-kept : (es : Entries Label) → ident_of (value_at name (bare_fields (entries (settled_entries s (kind.Model m) es)))) ≡ ident_of (value_at name (bare_fields es))
  ident-kept no_entries = refl
  ident-kept (entry k x es) =
      kept-here (bytes_eq name k) (is_loose s (type_under s.table (kind.Model m) k) x) k x (settled_entries s (kind.Model m) es) es refl refl (ident-kept es)

module _ (s : Settling) (q : Sought)
    (unsafe : (name : List ℕ) → q.name ≡ Some name → safe_target s.table (type_under s.table (kind.Model q.model) name) ≡ None) where
  identifier-kept : (o : Option (List ℕ)) → q.name ≡ o → (es : Entries Label)
      → identifier_in o (dict tt (bare_fields (entries (settled_entries s (kind.Model q.model) es)))) ≡ identifier_in o (dict tt (bare_fields es))
  identifier-kept None e es = refl
  identifier-kept (Some name) e es = ident-kept s q.model name (unsafe name e) es

  model-kept : (l : Label) (m : ModelNo) (es : Entries Label) (b : Bool) → nat_eq q.model.0 m.0 ≡ b
      → (b && same_identifier q.identifier (identifier_in q.name (dict tt (bare_fields (entries (settled_entries s (kind.Model m) es))))))
      ≡ (b && same_identifier q.identifier (identifier_in q.name (dict tt (bare_fields es))))
  model-kept l m es false e = refl
  model-kept l m es true e =
      let same : q.model ≡ m = ap (λ (k : ℕ). record { 0 = k }) (eqb-true q.model.0 m.0 e) in
      let P : ModelNo → Type 0 = λ n. identifier_in q.name (dict tt (bare_fields (entries (settled_entries s (kind.Model n) es)))) ≡ identifier_in q.name (dict tt (bare_fields es)) in
      ap (same_identifier q.identifier) (subst P same (identifier-kept q.name refl es))

  -- whether a node is sought
  sought-same : (l : Label) (k : Kind) (es : Entries Label)
      → (is_model q.model k && same_identifier q.identifier (identifier_in q.name (dict tt (bare_fields (entries (settled_entries s k es))))))
      ≡ (is_model q.model k && same_identifier q.identifier (identifier_in q.name (dict tt (bare_fields es))))
  sought-same l (kind.Model m) es = model-kept l m es (nat_eq q.model.0 m.0) refl
  sought-same l (kind.Array t) es = refl
  sought-same l (kind.Map t) es = refl

  if-node : (b c : Bool) (n : ℕ) (old new : Option ℕ) → c ≡ b → (IsSome old → IsSome new) → IsSome (if b then Some n else old) → IsSome (if c then Some n else new)
  if-node true true n old new e more h = refl
  if-node false false n old new e more h = more h
  if-node true false n old new e more h = absurd (cc)
  if-node false true n old new e more h = absurd (cc)

  or-kept : (a b c d : Option ℕ) → (IsSome a → IsSome c) → (IsSome b → IsSome d) → IsSome (or_node a b) → IsSome (or_node c d)
  or-kept a b (Some n) d first more h = refl
  or-kept None b None d first more h = more h
  or-kept (Some n) b None d first more h = (let none : false ≡ true = first refl in absurd (cc))

  item-kept : (b : Bool) (x : Labelled) (kept : List Labelled) (bs : Branches Label) → (b ≡ true → sought_in q x ≡ None) → (IsSome (sought_in q x) → IsSome (sought_in q (settled_value s x)))
      → (IsSome (sought_in_items q bs) → IsSome (sought_in_items q (branches kept)))
      → IsSome (or_node (sought_in q x) (sought_in_items q bs)) → IsSome (sought_in_items q (branches (if b then kept else settled_value s x ∷ kept)))
  item-kept false x kept bs gone first more h = or-kept (sought_in q x) (sought_in_items q bs) (sought_in q (settled_value s x)) (sought_in_items q (branches kept)) first more h
  item-kept true x kept bs gone first more h =
      let P : Option ℕ → Type 0 = λ o. IsSome (or_node o (sought_in_items q bs)) in more (subst P (gone refl) h)

  left-sought : (k : Kind) (key : List ℕ) (kept : List Entry) → IsSome (sought_in_entries q (entries kept)) → IsSome (sought_in_entries q (entries (left_of k key ++ kept)))
  left-sought (kind.Map t) key kept h = h
  left-sought (kind.Model m) key kept h = h
  left-sought (kind.Array t) key kept h = h

  entry-kept : (b : Bool) (k : Kind) (key : List ℕ) (x : Labelled) (kept : List Entry) (es : Entries Label) → (b ≡ true → sought_in q x ≡ None)
      → (IsSome (sought_in q x) → IsSome (sought_in q (settled_value s x)))
      → (IsSome (sought_in_entries q es) → IsSome (sought_in_entries q (entries kept)))
      → IsSome (or_node (sought_in q x) (sought_in_entries q es))
      → IsSome (sought_in_entries q (entries (if b then left_of k key ++ kept else (key, settled_value s x) ∷ kept)))
  entry-kept false k key x kept es gone first more h =
      or-kept (sought_in q x) (sought_in_entries q es) (sought_in q (settled_value s x)) (sought_in_entries q (entries kept)) first more h
  entry-kept true k key x kept es gone first more h =
      let P : Option ℕ → Type 0 = λ o. IsSome (or_node o (sought_in_entries q es)) in left-sought k key kept (more (subst P (gone refl) h))

  mutual
    pub sought-kept : (x : Labelled) → IsSome (sought_in q x) → IsSome (sought_in q (settled_value s x))
    sought-kept (leaf v) h = h
    sought-kept (many l bs) h = sought-kept_items (item_type l.kind) bs h
    sought-kept (keyed l es) h =
        if-node (is_sought q l (bare (keyed l es))) (is_sought q l (bare (settled_value s (keyed l es)))) l.number (sought_in_entries q es) (sought_in_entries q (entries (settled_entries s l.kind es)))
        (sought-same l l.kind es) (sought-kept_entries l.kind es) h

    sought-kept_items : (t : ℕ) (bs : Branches Label) → IsSome (sought_in_items q bs) → IsSome (sought_in_items q (branches (settled_items s t bs)))
    sought-kept_items t no_branches h = h
    sought-kept_items t (branch x bs) h =
        item-kept (is_loose s t x) x (settled_items s t bs) bs (loose-unsought q s t x) (sought-kept x) (sought-kept_items t bs) h

    sought-kept_entries : (k : Kind) (es : Entries Label) → IsSome (sought_in_entries q es) → IsSome (sought_in_entries q (entries (settled_entries s k es)))
    sought-kept_entries k no_entries h = h
    sought-kept_entries k (entry key x es) h =
        entry-kept (is_loose s (type_under s.table k key) x) k key x (settled_entries s k es) es (loose-unsought q s (type_under s.table k key) x) (sought-kept x) (sought-kept_entries k es) h
