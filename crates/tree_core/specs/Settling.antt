-- Settling: safe references that lead to no node are cleared, in document order.
use Rattle.std.specs.Prelude.{ℕ, ◌+◌, List, [], ◌∷◌, ◌++◌, map, Bool, true, false, not, Option, Some, None, if◌then◌else◌}
use Rattle.snap_core.specs.Value.{Value, null}
use Rattle.snap_core.specs.declared.number.ModelNo.{ModelNo}
use Rattle.type_table.specs.Table.{Table, Catalog, shape_at}
use Rattle.type_table.specs.Identifiers.{is_safe, ident_of}
use Rattle.type_table.specs.Targets.{target_of}
use Rattle.type_core.specs.Doubled.{Key}
use Rattle.type_core.specs.Finding.{met, is_met}
use Rattle.edit_core.specs.declared.kind.Kind.{Kind}
use Rattle.edit_core.specs.declared.kind.Kind.TheVariants as kind
use Rattle.edit_core.specs.Labelled.{Label, Labelled, Branches, Entries, leaf, many, keyed, no_branches, branch, no_entries, entry, bare}
use Rattle.edit_core.specs.Edit.{to_item, to_entry, remove, replace}
use Rattle.edit_core.specs.Typing.{Typing}
use Rattle.edit_core.specs.Logged.{LoggedEdit, behind, after_log}
use Rattle.tree_core.specs.TypesTyping.{typing_of, type_under}
use Rattle.tree_core.specs.Reading.{identifier_in}
use Rattle.tree_core.specs.Writing.{Tree}
use Rattle.tree_core.specs.Changed.{Changed}

-- what settling goes by: the types, and the models and identifiers that are in the tree
pub record Settling : Type 0 where
  pub table : Table
  pub keys : List Key

-- the model that a type's safe references lead to, if it is a type of them
abbrev pub safe_target : Table → ℕ → Option ModelNo
safe_target table t = if is_safe (shape_at table t) then target_of table (shape_at table t) else None

-- a value of a type is a safe reference that leads to no node
abbrev pub leads_nowhere : List Key → Option ModelNo → Value → Bool
leads_nowhere keys (Some m) v = not (is_met keys m (ident_of (Some v)))
leads_nowhere keys None v = false

abbrev pub is_loose : Settling → ℕ → Labelled → Bool
is_loose s t x = leads_nowhere s.keys (safe_target s.table t) (bare x)

-- an item that is loose is removed once those behind it are
abbrev pub item_removal : Bool → ℕ → Labelled → List LoggedEdit
item_removal true i x = record { way = to_item i ∷ []; operation = remove x } ∷ []
item_removal false i x = []

abbrev pub item_removals : Settling → ℕ → ℕ → Branches Label → List LoggedEdit
item_removals s t i no_branches = []
item_removals s t i (branch x bs) = item_removals s t (i + 1) bs ++ item_removal (is_loose s t x) i x

-- a loose property becomes null, a loose value of a map goes
abbrev pub cleared : Kind → ℕ → List ℕ → Labelled → LoggedEdit
cleared (kind.Map t) i k x = record { way = to_entry i k ∷ []; operation = remove x }
cleared kind i k x = record { way = to_entry i k ∷ []; operation = replace x (leaf null) }

-- where the next entry then stands
abbrev pub behind_cleared : Kind → ℕ → ℕ
behind_cleared (kind.Map t) i = i
behind_cleared kind i = i + 1

abbrev pub item_type : Kind → ℕ
item_type (kind.Array t) = t.0
item_type kind = 0

abbrev mutual
  -- the edits that clear the loose references of a value
  pub settling_edits : Settling → Labelled → List LoggedEdit
  settling_edits s (leaf v) = []
  settling_edits s (many l bs) = items_settling s 0 bs ++ item_removals s (item_type l.kind) 0 bs
  settling_edits s (keyed l es) = entries_settling s l.kind 0 es

  pub items_settling : Settling → ℕ → Branches Label → List LoggedEdit
  items_settling s i no_branches = []
  items_settling s i (branch x bs) = map (behind (to_item i)) (settling_edits s x) ++ items_settling s (i + 1) bs

  pub entries_settling : Settling → Kind → ℕ → Entries Label → List LoggedEdit
  entries_settling s kind i no_entries = []
  entries_settling s kind i (entry k x es) =
      if is_loose s (type_under s.table kind k) x
      then cleared kind i k x ∷ entries_settling s kind (behind_cleared kind i) es
      else map (behind (to_entry i k)) (settling_edits s x) ++ entries_settling s kind (i + 1) es

-- The models and identifiers of a tree's nodes, in document order, each once: those met before, and then a value's.
abbrev pub own_met : Typing → List Key → Kind → Value → List Key
own_met typing keys (kind.Model m) v = met keys m (identifier_in (typing.identifier_of m) v)
own_met typing keys kind v = keys

abbrev mutual
  pub all_met : Typing → List Key → Labelled → List Key
  all_met typing keys (leaf v) = keys
  all_met typing keys (many l bs) = items_met typing keys bs
  all_met typing keys (keyed l es) = entries_met typing (own_met typing keys l.kind (bare (keyed l es))) es

  pub items_met : Typing → List Key → Branches Label → List Key
  items_met typing keys no_branches = keys
  items_met typing keys (branch x bs) = items_met typing (all_met typing keys x) bs

  pub entries_met : Typing → List Key → Entries Label → List Key
  entries_met typing keys no_entries = keys
  entries_met typing keys (entry k x es) = entries_met typing (all_met typing keys x) es

abbrev pub settling_in : Catalog → Labelled → Settling
settling_in types root = record { table = types.table; keys = all_met (typing_of types.table) [] root }

-- what settling makes of a tree
abbrev pub settled : Catalog → Tree → Changed
settled types tree =
    let edits : List LoggedEdit = settling_edits (settling_in types tree.root) tree.root in
    record { value = after_log edits tree.root; edits = edits; next = tree.next }
