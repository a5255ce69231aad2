-- Settling leaves nothing loose.
use Rattle.std.proofs.Common.{◌≡◌, ℕ, List, [], ◌∷◌, ◌++◌, Bool, true, false, not, Option, Some, None, refl, sym, ap, subst, ◌∙◌, if◌then◌else◌}
use Rattle.std.specs.Prelude.{IsSome}
use Rattle.std.specs.List.{list_any}
use Rattle.snap_core.specs.declared.ident.Ident.{Ident}
use Rattle.snap_core.specs.declared.number.ModelNo.{ModelNo}
use Rattle.type_table.specs.Table.{Catalog}
use Rattle.type_table.specs.Identifiers.{ident_of}
use Rattle.type_core.specs.Doubled.{same_key}
use Rattle.type_core.specs.Finding.{is_met}
use Rattle.type_core.specs.Sound.{IsSound}
use Rattle.edit_core.specs.declared.kind.Kind.{Kind}
use Rattle.edit_core.specs.declared.kind.Kind.TheVariants as kind
use Rattle.edit_core.specs.Labelled.{Label, Labelled, Branches, Entries, Entry, leaf, many, keyed, no_branches, branch, no_entries, entry, branches, entries, bare}
use Rattle.edit_core.specs.Logged.{LoggedEdit, after_log}
use Rattle.tree_core.specs.Reading.{resolved}
use Rattle.tree_core.specs.Recorded.{after_settling}
use Rattle.tree_core.specs.Settling.{safe_target, leads_nowhere, is_loose, item_type, settling_edits, settling_in}
use Rattle.tree_core.specs.State.{State, recorded}
use Rattle.tree_core.specs.TypesTyping.{typing_of, type_under}
use Rattle.tree_reading.specs.Settled.{left_of, settled_value, settled_items, settled_entries}
use Rattle.tree_reading.proofs.SettlingLaws.{after_settling as settling-after}
use Rattle.tree_laws.specs.Tied.{IsHad, IsTied, HasTied, ItemsTied, EntriesTied, IsSettled}
use Rattle.tree_laws.proofs.Meeting.{met-resolved}
use Rattle.tree_laws.proofs.SafeTypes.{identifier-unsafe}
use Rattle.tree_laws.proofs.SettledNodes.{ident-settled, sought-kept}

not-false : (b : Bool) → not b ≡ false → b ≡ true
not-false true h = refl
not-false false h = absurd (cc)

module _ (types : Catalog) (sound : IsSound types) (root : Labelled) where
  abbrev after : Labelled
  after = settled_value (settling_in types root) root

  -- an identifier that was met is had after settling
  still-had : (m : ModelNo) (i : Ident) → list_any (same_key (m, i)) (settling_in types root).keys ≡ true → IsSome (resolved (typing_of types.table) m i after)
  still-had m i h =
      sought-kept (settling_in types root) (record { name = (typing_of types.table).identifier_of m; model = m; identifier = i })
      (λ name e. identifier-unsafe types sound m name e) root (met-resolved (typing_of types.table) m i root h)

  had : (o : Option ModelNo) (x : Labelled) (j : Option Ident) → ident_of (Some (bare x)) ≡ j → leads_nowhere (settling_in types root).keys o (bare x) ≡ false → IsHad types after o j
  had None x j e tied = tt
  had (Some m) x None e tied = tt
  had (Some m) x (Some i) e tied =
      still-had m i (not-false (list_any (same_key (m, i)) (settling_in types root).keys) (ap (λ k. not (is_met (settling_in types root).keys m k)) (sym e) ∙ tied))

  tied-value : (t : ℕ) (x : Labelled) → is_loose (settling_in types root) t x ≡ false → IsTied types after t (settled_value (settling_in types root) x)
  tied-value t x tied = had (safe_target types.table t) x (ident_of (Some (bare (settled_value (settling_in types root) x)))) (sym (ident-settled (settling_in types root) x)) tied

  null-had : (o : Option ModelNo) → IsHad types after o None
  null-had None = tt
  null-had (Some m) = tt

  tied-item : (b : Bool) (t : ℕ) (x : Labelled) (kept : List Labelled) → is_loose (settling_in types root) t x ≡ b → HasTied types after (settled_value (settling_in types root) x)
      → ItemsTied types after t (branches kept) → ItemsTied types after t (branches (if b then kept else settled_value (settling_in types root) x ∷ kept))
  tied-item true t x kept e inner rest = rest
  tied-item false t x kept e inner rest = (tied-value t x e, inner, rest)

  tied-left : (k : Kind) (key : List ℕ) (kept : List Entry) → EntriesTied types after k (entries kept) → EntriesTied types after k (entries (left_of k key ++ kept))
  tied-left (kind.Map t) key kept rest = rest
  tied-left (kind.Model m) key kept rest = (null-had (safe_target types.table (type_under types.table (kind.Model m) key)), tt, rest)
  tied-left (kind.Array t) key kept rest = (null-had (safe_target types.table (type_under types.table (kind.Array t) key)), tt, rest)

  tied-entry : (b : Bool) (k : Kind) (key : List ℕ) (x : Labelled) (kept : List Entry) → is_loose (settling_in types root) (type_under types.table k key) x ≡ b
      → HasTied types after (settled_value (settling_in types root) x) → EntriesTied types after k (entries kept)
      → EntriesTied types after k (entries (if b then left_of k key ++ kept else (key, settled_value (settling_in types root) x) ∷ kept))
  tied-entry true k key x kept e inner rest = tied-left k key kept rest
  tied-entry false k key x kept e inner rest = (tied-value (type_under types.table k key) x e, inner, rest)

  mutual
    tied-settled : (x : Labelled) → HasTied types after (settled_value (settling_in types root) x)
    tied-settled (leaf v) = tt
    tied-settled (many l bs) = tied-items (item_type l.kind) bs
    tied-settled (keyed l es) = tied-entries l.kind es

    tied-items : (t : ℕ) (bs : Branches Label) → ItemsTied types after t (branches (settled_items (settling_in types root) t bs))
    tied-items t no_branches = tt
    tied-items t (branch x bs) = tied-item (is_loose (settling_in types root) t x) t x (settled_items (settling_in types root) t bs) refl (tied-settled x) (tied-items t bs)

    tied-entries : (k : Kind) (es : Entries Label) → EntriesTied types after k (entries (settled_entries (settling_in types root) k es))
    tied-entries k no_entries = tt
    tied-entries k (entry key x es) =
        tied-entry (is_loose (settling_in types root) (type_under types.table k key) x) k key x (settled_entries (settling_in types root) k es) refl (tied-settled x) (tied-entries k es)

  pub settled-tied : IsSettled types after
  settled-tied = tied-settled root

-- what settling records
recorded-tree : (x : Labelled) (es : List LoggedEdit) (next : ℕ) (s : State) → (es ≡ [] → s.tree ≡ x) → (recorded x es next s).tree ≡ x
recorded-tree x [] next s h = h refl
recorded-tree x (e ∷ es) next s h = refl

pub settled-tree : (types : Catalog) (s : State) → (after_settling types s).tree ≡ settled_value (settling_in types s.tree) s.tree
settled-tree types s =
    let edits : List LoggedEdit = settling_edits (settling_in types s.tree) s.tree in
    recorded-tree (after_log edits s.tree) edits s.next s (λ e. sym (ap (λ es. after_log es s.tree) e)) ∙ settling-after (settling_in types s.tree) s.tree

pub settling-settles : (types : Catalog) → IsSound types → (s : State) → IsSettled types (after_settling types s).tree
settling-settles types sound s = subst (IsSettled types) (sym (settled-tree types s)) (settled-tied types sound s.tree)
