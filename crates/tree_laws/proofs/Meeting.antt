-- What was met of a tree is found in it: identifiers of models.
use Rattle.std.proofs.Common.{◌≡◌, ℕ, List, [], ◌∷◌, ◌++◌, Bool, true, false, Option, Some, None, ◌⊎◌, inl, inr, ⊎_elim, refl, sym, ap, subst, ◌∙◌, if◌then◌else◌, eqb}
use Rattle.std.specs.Prelude.{IsSome, ◌||◌, ◌&&◌, nat_eq}
use Rattle.std.specs.List.{list_any}
use Rattle.std.proofs.lemmas.List.Folds.{list_any-append}
use Rattle.std.proofs.lemmas.Bool.{eqb-true}
use Rattle.snap_core.specs.declared.ident.Ident.{Ident}
use Rattle.snap_core.specs.declared.number.ModelNo.{ModelNo}
use Rattle.snap_core.specs.Value.{Value}
use Rattle.type_core.specs.Doubled.{Key, same_key, same_ident}
use Rattle.type_core.specs.Finding.{met}
use Rattle.edit_core.specs.declared.kind.Kind.{Kind}
use Rattle.edit_core.specs.declared.kind.Kind.TheVariants as kind
use Rattle.edit_core.specs.Labelled.{Label, Labelled, Branches, Entries, leaf, many, keyed, no_branches, branch, no_entries, entry, bare}
use Rattle.edit_core.specs.Typing.{Typing}
use Rattle.edit_core.proofs.Equal.{and-left}
use Rattle.tree_core.specs.Reading.{Sought, is_sought, is_model, same_identifier, identifier_in, sought_in, sought_in_items, sought_in_entries, or_node, resolved}
use Rattle.tree_core.specs.Settling.{own_met, all_met, items_met, entries_met}

abbrev has : Key → List Key → Bool
has k keys = list_any (same_key k) keys

or-either : (a b : Bool) → (a || b) ≡ true → (a ≡ true) ⊎ (b ≡ true)
or-either true b h = inl refl
or-either false b h = inr h

or-false : (a : Bool) → (a || false) ≡ true → a ≡ true
or-false true h = refl
or-false false h = absurd (cc)

-- a key that was met stood among those before, or is that of the identifier
met-either : (k : Key) (keys : List Key) (m : ModelNo) (o : Option Ident) → has k (met keys m o) ≡ true
    → (has k keys ≡ true) ⊎ ((i : Ident) × (o ≡ Some i) × (same_key k (m, i) ≡ true))
met-either k keys m None h = inl h
met-either k keys m (Some i) h = by (list_any (same_key (m, i)) keys) h where
  by : (b : Bool) → has k (if b then keys else keys ++ (m, i) ∷ []) ≡ true → (has k keys ≡ true) ⊎ ((j : Ident) × (Some i ≡ Some j) × (same_key k (m, j) ≡ true))
  by true g = inl g
  by false g =
      ⊎_elim (λ e. inl e) (λ e. inr (i, refl, or-false (same_key k (m, i)) e))
      (or-either (has k keys) (has k ((m, i) ∷ [])) (sym (list_any-append (same_key k) keys ((m, i) ∷ [])) ∙ g))

module _ (typing : Typing) (m : ModelNo) (i : Ident) where
  abbrev sought : Sought
  sought = record { name = typing.identifier_of m; model = m; identifier = i }

  -- a node that has the identifier is sought
  itself-sought : (l : Label) (v : Value) (n : ModelNo) (j : Ident) → l.kind ≡ kind.Model n → identifier_in (typing.identifier_of n) v ≡ Some j → same_key (m, i) (n, j) ≡ true
      → is_sought sought l v ≡ true
  itself-sought l v n j is has h =
      let numbers : m.0 ≡ n.0 = eqb-true m.0 n.0 (and-left (eqb m.0 n.0) (same_ident i j) h) in
      let P : ModelNo → Type 0 = λ o. identifier_in (typing.identifier_of o) v ≡ Some j in
      let models : n ≡ m = ap (λ (k : ℕ). record { 0 = k }) (sym numbers) in
      let found : identifier_in (typing.identifier_of m) v ≡ Some j = subst P models has in
      ap (λ (k : Kind). is_model m k && same_identifier i (identifier_in (typing.identifier_of m) v)) is
      ∙ ap (λ o. nat_eq m.0 n.0 && same_identifier i o) found ∙ h

  node-found : (b : Bool) (n : ℕ) (o : Option ℕ) → b ≡ true → IsSome (if b then Some n else o)
  node-found true n o e = refl
  node-found false n o e = absurd (cc)

  node-later : (b : Bool) (n : ℕ) (o : Option ℕ) → IsSome o → IsSome (if b then Some n else o)
  node-later true n o h = refl
  node-later false n o h = h

  or-first : (a b : Option ℕ) → IsSome a → IsSome (or_node a b)
  or-first (Some n) b h = refl
  or-first None b h = absurd (cc)

  or-second : (a b : Option ℕ) → IsSome b → IsSome (or_node a b)
  or-second (Some n) b h = refl
  or-second None b h = h

  own-either : (keys : List Key) (l : Label) (v : Value) (k : Kind) → l.kind ≡ k → has (m, i) (own_met typing keys k v) ≡ true
      → (has (m, i) keys ≡ true) ⊎ (is_sought sought l v ≡ true)
  own-either keys l v (kind.Model n) is h =
      ⊎_elim (λ e. inl e) (λ e. inr (itself-sought l v n e.0 is e.1 e.2))
      (met-either (m, i) keys n (identifier_in (typing.identifier_of n) v) h)
  own-either keys l v (kind.Array t) is h = inl h
  own-either keys l v (kind.Map t) is h = inl h

  mutual
    pub met-sought : (keys : List Key) (x : Labelled) → has (m, i) (all_met typing keys x) ≡ true → (has (m, i) keys ≡ true) ⊎ IsSome (sought_in sought x)
    met-sought keys (leaf v) h = inl h
    met-sought keys (many l bs) h = met-items keys bs h
    met-sought keys (keyed l es) h =
        ⊎_elim (λ e. ⊎_elim (λ g. inl g) (λ g. inr (node-found (is_sought sought l (bare (keyed l es))) l.number (sought_in_entries sought es) g)) (own-either keys l (bare (keyed l es)) l.kind refl e))
        (λ e. inr (node-later (is_sought sought l (bare (keyed l es))) l.number (sought_in_entries sought es) e))
        (met-entries (own_met typing keys l.kind (bare (keyed l es))) es h)

    met-items : (keys : List Key) (bs : Branches Label) → has (m, i) (items_met typing keys bs) ≡ true → (has (m, i) keys ≡ true) ⊎ IsSome (sought_in_items sought bs)
    met-items keys no_branches h = inl h
    met-items keys (branch x bs) h =
        ⊎_elim (λ e. ⊎_elim (λ g. inl g) (λ g. inr (or-first (sought_in sought x) (sought_in_items sought bs) g)) (met-sought keys x e))
        (λ e. inr (or-second (sought_in sought x) (sought_in_items sought bs) e))
        (met-items (all_met typing keys x) bs h)

    met-entries : (keys : List Key) (es : Entries Label) → has (m, i) (entries_met typing keys es) ≡ true → (has (m, i) keys ≡ true) ⊎ IsSome (sought_in_entries sought es)
    met-entries keys no_entries h = inl h
    met-entries keys (entry k x es) h =
        ⊎_elim (λ e. ⊎_elim (λ g. inl g) (λ g. inr (or-first (sought_in sought x) (sought_in_entries sought es) g)) (met-sought keys x e))
        (λ e. inr (or-second (sought_in sought x) (sought_in_entries sought es) e))
        (met-entries (all_met typing keys x) es h)

  -- of a tree alone
  pub met-resolved : (x : Labelled) → list_any (same_key (m, i)) (all_met typing [] x) ≡ true → IsSome (resolved typing m i x)
  met-resolved x h = ⊎_elim (λ e. absurd (none e)) (λ e. e) (met-sought [] x h) where
    none : false ≡ true → ⊥
    none e = absurd (cc)
