-- Trees in which each safe reference leads somewhere.
use Rattle.std.specs.Prelude.{ℕ, Option, Some, IsSome}
use Rattle.snap_core.specs.declared.ident.Ident.{Ident}
use Rattle.snap_core.specs.declared.number.ModelNo.{ModelNo}
use Rattle.type_table.specs.Table.{Catalog}
use Rattle.type_table.specs.Identifiers.{ident_of}
use Rattle.edit_core.specs.declared.kind.Kind.{Kind}
use Rattle.edit_core.specs.Labelled.{Label, Labelled, Branches, Entries, leaf, many, keyed, no_branches, branch, no_entries, entry, bare}
use Rattle.tree_core.specs.Reading.{resolved}
use Rattle.tree_core.specs.Settling.{safe_target, item_type}
use Rattle.tree_core.specs.TypesTyping.{typing_of, type_under}

-- where there are both, a node of the model in the tree has the identifier
abbrev pub IsHad : Catalog → Labelled → Option ModelNo → Option Ident → Type 0
IsHad types root (Some m) (Some i) = IsSome (resolved (typing_of types.table) m i root)
IsHad types root _ _ = Unit {0}

-- a value of a type is no safe reference, or null, or leads to a node of the tree
abbrev pub IsTied : Catalog → Labelled → ℕ → Labelled → Type 0
IsTied types root t x = IsHad types root (safe_target types.table t) (ident_of (Some (bare x)))

abbrev mutual
  -- so are all parts of a value, those of its parts included
  pub HasTied : Catalog → Labelled → Labelled → Type 0
  HasTied types root (leaf v) = Unit {0}
  HasTied types root (many l bs) = ItemsTied types root (item_type l.kind) bs
  HasTied types root (keyed l es) = EntriesTied types root l.kind es

  pub ItemsTied : Catalog → Labelled → ℕ → Branches Label → Type 0
  ItemsTied types root t no_branches = Unit {0}
  ItemsTied types root t (branch x bs) = IsTied types root t x × HasTied types root x × ItemsTied types root t bs

  pub EntriesTied : Catalog → Labelled → Kind → Entries Label → Type 0
  EntriesTied types root kind no_entries = Unit {0}
  EntriesTied types root kind (entry k x es) =
      IsTied types root (type_under types.table kind k) x × HasTied types root x × EntriesTied types root kind es

-- each safe reference in a tree that isn't null leads to one of its nodes
abbrev pub IsSettled : Catalog → Labelled → Type 0
IsSettled types root = HasTied types root root
