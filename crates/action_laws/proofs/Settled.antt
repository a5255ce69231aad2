-- Settling a settled tree leaves it as it is.
use Rattle.std.proofs.Common.{◌≡◌, ℕ, ◌+◌, List, [], ◌∷◌, ◌++◌, map, Bool, true, false, not, Option, Some, None, ◌⊎◌, inl, inr, ⊎_elim, refl, ap, subst, ◌∙◌, if◌then◌else◌}
use Rattle.std.specs.Prelude.{IsSome, ◌||◌, ◌&&◌, nat_eq}
use Rattle.std.specs.List.{list_any}
use Rattle.std.proofs.lemmas.Bool.Decides.{Decides-int_eq, Decides-eqb}
use Rattle.std.proofs.lemmas.List.Folds.{list_any-append}
use Rattle.std.proofs.lemmas.Slice.Eq.{bytes_eq-Decides}
use Rattle.snap_core.specs.declared.ident.Ident.{Ident}
use Rattle.snap_core.specs.declared.ident.Ident.TheVariants as ident
use Rattle.snap_core.specs.declared.number.ModelNo.{ModelNo}
use Rattle.snap_core.specs.Value.{Value}
use Rattle.type_table.specs.Identifiers.{ident_of}
use Rattle.type_table.specs.Table.{Catalog}
use Rattle.type_core.specs.Doubled.{Key, same_key, same_ident}
use Rattle.type_core.specs.Finding.{met, is_met}
use Rattle.edit_core.specs.declared.kind.Kind.{Kind}
use Rattle.edit_core.specs.declared.kind.Kind.TheVariants as kind
use Rattle.edit_core.specs.Labelled.{Label, Labelled, Branches, Entries, leaf, many, keyed, no_branches, branch, no_entries, entry, bare}
use Rattle.edit_core.specs.Edit.{to_item, to_entry}
use Rattle.edit_core.specs.Logged.{LoggedEdit, behind, after_log}
use Rattle.edit_core.specs.Typing.{Typing}
use Rattle.edit_core.proofs.Equal.{and-left, and-right}
use Rattle.tree_core.specs.Reading.{Sought, is_sought, is_model, same_identifier, identifier_in, sought_in, sought_in_items, sought_in_entries, or_node}
use Rattle.tree_core.specs.Recorded.{after_settling}
use Rattle.tree_core.specs.Settling.{Settling, safe_target, leads_nowhere, is_loose, item_removal, item_removals, cleared, behind_cleared, item_type, settling_edits, items_settling, entries_settling, own_met, all_met, items_met, entries_met, settling_in}
use Rattle.tree_core.specs.State.{State as Tree, recorded}
use Rattle.tree_core.specs.TypesTyping.{typing_of, type_under}
use Rattle.tree_laws.specs.Tied.{IsHad, IsTied, HasTied, ItemsTied, EntriesTied, IsSettled}

-- Keys.

abbrev has : Key → List Key → Bool
has k keys = list_any (same_key k) keys

ident-same : (i j : Ident) → same_ident i j ≡ true → i ≡ j
ident-same (ident.Text s) (ident.Text u) h = ap ident.Text ((bytes_eq-Decides s u).0 h)
ident-same (ident.Number y) (ident.Number z) h = ap ident.Number ((Decides-int_eq y z).0 h)
ident-same (ident.Text s) (ident.Number z) h = absurd (cc)
ident-same (ident.Number y) (ident.Text u) h = absurd (cc)

ident-itself : (i : Ident) → same_ident i i ≡ true
ident-itself (ident.Text s) = (bytes_eq-Decides s s).1 refl
ident-itself (ident.Number z) = (Decides-int_eq z z).1 refl

key-itself : (m : ModelNo) (i : Ident) → same_key (m, i) (m, i) ≡ true
key-itself m i = ap (λ (b : Bool). b && same_ident i i) ((Decides-eqb m.0 m.0).1 refl) ∙ ident-itself i

or-true : (a b : Bool) → b ≡ true → (a || b) ≡ true
or-true true b h = refl
or-true false b h = h

or-left : (a b : Bool) → a ≡ true → (a || b) ≡ true
or-left true b h = refl
or-left false b h = absurd (cc)

-- what was met stays, and what is met is there
met-keeps : (k : Key) (keys : List Key) (m : ModelNo) (o : Option Ident) → has k keys ≡ true → has k (met keys m o) ≡ true
met-keeps k keys m None h = h
met-keeps k keys m (Some i) h = by (list_any (same_key (m, i)) keys) where
  by : (b : Bool) → has k (if b then keys else keys ++ (m, i) ∷ []) ≡ true
  by true = h
  by false = list_any-append (same_key k) keys ((m, i) ∷ []) ∙ or-left (has k keys) (has k ((m, i) ∷ [])) h

met-has : (keys : List Key) (m : ModelNo) (i : Ident) → has (m, i) (met keys m (Some i)) ≡ true
met-has keys m i = by (list_any (same_key (m, i)) keys) refl where
  by : (b : Bool) → list_any (same_key (m, i)) keys ≡ b → has (m, i) (if b then keys else keys ++ (m, i) ∷ []) ≡ true
  by true e = e
  by false e =
      list_any-append (same_key (m, i)) keys ((m, i) ∷ [])
      ∙ or-true (has (m, i) keys) (has (m, i) ((m, i) ∷ [])) (or-left (same_key (m, i) (m, i)) false (key-itself m i))

module _ (typing : Typing) (k : Key) where
  own-keeps : (keys : List Key) (of : Kind) (v : Value) → has k keys ≡ true → has k (own_met typing keys of v) ≡ true
  own-keeps keys (kind.Model m) v h = met-keeps k keys m (identifier_in (typing.identifier_of m) v) h
  own-keeps keys (kind.Array t) v h = h
  own-keeps keys (kind.Map t) v h = h

  mutual
    all-keeps : (keys : List Key) (x : Labelled) → has k keys ≡ true → has k (all_met typing keys x) ≡ true
    all-keeps keys (leaf v) h = h
    all-keeps keys (many l bs) h = items-keep keys bs h
    all-keeps keys (keyed l es) h = entries-keep (own_met typing keys l.kind (bare (keyed l es))) es (own-keeps keys l.kind (bare (keyed l es)) h)

    items-keep : (keys : List Key) (bs : Branches Label) → has k keys ≡ true → has k (items_met typing keys bs) ≡ true
    items-keep keys no_branches h = h
    items-keep keys (branch x bs) h = items-keep (all_met typing keys x) bs (all-keeps keys x h)

    entries-keep : (keys : List Key) (es : Entries Label) → has k keys ≡ true → has k (entries_met typing keys es) ≡ true
    entries-keep keys no_entries h = h
    entries-keep keys (entry key x es) h = entries-keep (all_met typing keys x) es (all-keeps keys x h)

-- What is found of a tree was met of it.

first-or : (a b : Option ℕ) → IsSome (or_node a b) → IsSome a ⊎ IsSome b
first-or (Some n) b h = inl refl
first-or None b h = inr h

itself-or : (b : Bool) (n : ℕ) (o : Option ℕ) → IsSome (if b then Some n else o) → (b ≡ true) ⊎ IsSome o
itself-or true n o h = inl refl
itself-or false n o h = inr h

module _ (typing : Typing) (m : ModelNo) (i : Ident) where
  abbrev seeking : Sought
  seeking = record { name = typing.identifier_of m; model = m; identifier = i }

  identified : (keys : List Key) (o : Option Ident) → same_identifier i o ≡ true → has (m, i) (met keys m o) ≡ true
  identified keys None h = absurd (cc)
  identified keys (Some j) h = subst (λ (other : Ident). has (m, i) (met keys m (Some other)) ≡ true) (ident-same i j h) (met-has keys m i)

  own-met : (keys : List Key) (of : Kind) (v : Value) → (is_model m of && same_identifier i (identifier_in (typing.identifier_of m) v)) ≡ true
      → has (m, i) (own_met typing keys of v) ≡ true
  own-met keys (kind.Model n) v h =
      let numbers : m.0 ≡ n.0 = (Decides-eqb m.0 n.0).0 (and-left (nat_eq m.0 n.0) (same_identifier i (identifier_in (typing.identifier_of m) v)) h) in
      let models : m ≡ n = ap (λ (k : ℕ). record { 0 = k }) numbers in
      subst (λ (o : ModelNo). has (m, i) (met keys o (identifier_in (typing.identifier_of o) v)) ≡ true) models
      (identified keys (identifier_in (typing.identifier_of m) v) (and-right (nat_eq m.0 n.0) (same_identifier i (identifier_in (typing.identifier_of m) v)) h))
  own-met keys (kind.Array t) v h = absurd (cc)
  own-met keys (kind.Map t) v h = absurd (cc)

  mutual
    sought-met : (keys : List Key) (x : Labelled) → IsSome (sought_in seeking x) → has (m, i) (all_met typing keys x) ≡ true
    sought-met keys (leaf v) h = absurd (cc)
    sought-met keys (many l bs) h = items-met keys bs h
    sought-met keys (keyed l es) h =
        ⊎_elim
        (λ e. entries-keep typing (m, i) (own_met typing keys l.kind (bare (keyed l es))) es (own-met keys l.kind (bare (keyed l es)) e))
        (λ e. entries-met (own_met typing keys l.kind (bare (keyed l es))) es e)
        (itself-or (is_sought seeking l (bare (keyed l es))) l.number (sought_in_entries seeking es) h)

    items-met : (keys : List Key) (bs : Branches Label) → IsSome (sought_in_items seeking bs) → has (m, i) (items_met typing keys bs) ≡ true
    items-met keys no_branches h = absurd (cc)
    items-met keys (branch x bs) h =
        ⊎_elim (λ e. items-keep typing (m, i) (all_met typing keys x) bs (sought-met keys x e)) (λ e. items-met (all_met typing keys x) bs e)
        (first-or (sought_in seeking x) (sought_in_items seeking bs) h)

    entries-met : (keys : List Key) (es : Entries Label) → IsSome (sought_in_entries seeking es) → has (m, i) (entries_met typing keys es) ≡ true
    entries-met keys no_entries h = absurd (cc)
    entries-met keys (entry key x es) h =
        ⊎_elim (λ e. entries-keep typing (m, i) (all_met typing keys x) es (sought-met keys x e)) (λ e. entries-met (all_met typing keys x) es e)
        (first-or (sought_in seeking x) (sought_in_entries seeking es) h)

-- A settled tree has nothing loose.

module _ (types : Catalog) (root : Labelled) where
  abbrev by : Settling
  by = settling_in types root

  had-leads : (o : Option ModelNo) (v : Value) (j : Option Ident) → ident_of (Some v) ≡ j → IsHad types root o j → leads_nowhere by.keys o v ≡ false
  had-leads None v j e h = refl
  had-leads (Some m) v None e h = ap (λ (k : Option Ident). not (is_met by.keys m k)) e
  had-leads (Some m) v (Some i) e h =
      ap (λ (k : Option Ident). not (is_met by.keys m k)) e ∙ ap not (sought-met (typing_of types.table) m i [] root h)

  tied-leads : (t : ℕ) (x : Labelled) → IsTied types root t x → is_loose by t x ≡ false
  tied-leads t x h = had-leads (safe_target types.table t) (bare x) (ident_of (Some (bare x))) refl h

  none-of : {A : Type 0} (xs ys : List A) → xs ≡ [] → ys ≡ [] → xs ++ ys ≡ []
  none-of xs ys e f = ap (λ zs. zs ++ ys) e ∙ f

  behind-none : (f : LoggedEdit → LoggedEdit) (es : List LoggedEdit) → es ≡ [] → map f es ≡ []
  behind-none f es e = ap (map f) e

  removals-none : (t i : ℕ) (bs : Branches Label) → ItemsTied types root t bs → item_removals by t i bs ≡ []
  removals-none t i no_branches h = refl
  removals-none t i (branch x bs) h =
      none-of (item_removals by t (i + 1) bs) (item_removal (is_loose by t x) i x) (removals-none t (i + 1) bs h.2) (ap (λ (b : Bool). item_removal b i x) (tied-leads t x h.0))

  mutual
    edits-none : (x : Labelled) → HasTied types root x → settling_edits by x ≡ []
    edits-none (leaf v) h = refl
    edits-none (many l bs) h =
        none-of (items_settling by 0 bs) (item_removals by (item_type l.kind) 0 bs) (items-none (item_type l.kind) 0 bs h) (removals-none (item_type l.kind) 0 bs h)
    edits-none (keyed l es) h = entries-none l.kind 0 es h

    items-none : (t i : ℕ) (bs : Branches Label) → ItemsTied types root t bs → items_settling by i bs ≡ []
    items-none t i no_branches h = refl
    items-none t i (branch x bs) h =
        none-of (map (behind (to_item i)) (settling_edits by x)) (items_settling by (i + 1) bs) (behind-none (behind (to_item i)) (settling_edits by x) (edits-none x h.1))
        (items-none t (i + 1) bs h.2)

    entries-none : (of : Kind) (i : ℕ) (es : Entries Label) → EntriesTied types root of es → entries_settling by of i es ≡ []
    entries-none of i no_entries h = refl
    entries-none of i (entry k x es) h =
        ap (λ (b : Bool). if b then cleared of i k x ∷ entries_settling by of (behind_cleared of i) es
        else map (behind (to_entry i k)) (settling_edits by x) ++ entries_settling by of (i + 1) es) (tied-leads (type_under types.table of k) x h.0)
        ∙ none-of (map (behind (to_entry i k)) (settling_edits by x)) (entries_settling by of (i + 1) es)
        (behind-none (behind (to_entry i k)) (settling_edits by x) (edits-none x h.1)) (entries-none of (i + 1) es h.2)

pub settled-stays : (types : Catalog) (t : Tree) → IsSettled types t.tree → after_settling types t ≡ t
settled-stays types t h = ap (λ (es : List LoggedEdit). recorded (after_log es t.tree) es t.next t) (edits-none types t.tree t.tree h)
