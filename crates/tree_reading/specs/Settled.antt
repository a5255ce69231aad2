-- What settling leaves of a value, and what holds of it.
use Rattle.std.specs.Prelude.{◌≡◌, ℕ, List, [], ◌∷◌, ◌++◌, map, if◌then◌else◌}
use Rattle.snap_core.specs.Value.{null, IsPlain}
use Rattle.patch_core.specs.Fits.{LeadsTo}
use Rattle.edit_core.specs.declared.kind.Kind.{Kind}
use Rattle.edit_core.specs.declared.kind.Kind.TheVariants as kind
use Rattle.edit_core.specs.Labelled.{Label, Labelled, Branches, Entries, Entry, leaf, many, keyed, no_branches, branch, no_entries, entry, branches, entries, bare}
use Rattle.edit_core.specs.Laws.{HasPaths}
use Rattle.edit_core.specs.Logged.{after_log, before_log, patch_of_logged}
use Rattle.edit_core.specs.Numbers.{AreNumbered}
use Rattle.tree_core.specs.TypesTyping.{type_under}
use Rattle.tree_core.specs.Settling.{Settling, is_loose, item_type, settling_edits}

-- what is left of a loose entry: nothing in a map, null in a model
abbrev pub left_of : Kind → List ℕ → List Entry
left_of (kind.Map t) k = []
left_of kind k = (k, leaf null) ∷ []

abbrev mutual
  -- the value without its loose references
  pub settled_value : Settling → Labelled → Labelled
  settled_value s (leaf v) = leaf v
  settled_value s (many l bs) = many l (branches (settled_items s (item_type l.kind) bs))
  settled_value s (keyed l es) = keyed l (entries (settled_entries s l.kind es))

  pub settled_items : Settling → ℕ → Branches Label → List Labelled
  settled_items s t no_branches = []
  settled_items s t (branch x bs) = if is_loose s t x then settled_items s t bs else settled_value s x ∷ settled_items s t bs

  pub settled_entries : Settling → Kind → Entries Label → List Entry
  settled_entries s kind no_entries = []
  settled_entries s kind (entry k x es) =
      if is_loose s (type_under s.table kind k) x
      then left_of kind k ++ settled_entries s kind es
      else (k, settled_value s x) ∷ settled_entries s kind es

-- Settling's edits lead to the value without its loose references, and back again.
pub record SettlingLeads (s : Settling) (x : Labelled) : Type 0 where
  pub after : after_log (settling_edits s x) x ≡ settled_value s x
  pub before : before_log (settling_edits s x) (settled_value s x) ≡ x
  -- its patches fit in turn, and lead there without labels
  pub patches : HasPaths (bare x) → LeadsTo (map patch_of_logged (settling_edits s x)) (bare x) (bare (settled_value s x))
  -- it stays plain
  pub plain : IsPlain (bare x) → IsPlain (bare (settled_value s x))
  -- no node is new
  pub numbered : (next : ℕ) → AreNumbered next x → AreNumbered next (settled_value s x)

abbrev pub SettlingAlwaysLeads : Type 0
SettlingAlwaysLeads = (s : Settling) (x : Labelled) → SettlingLeads s x
