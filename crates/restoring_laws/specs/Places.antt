-- Patches whose places are in nodes of a tree. A frozen value is a leaf: no place inside it is one of the tree.
use Rattle.std.specs.Prelude.{List, [], ◌∷◌, Option, Some, option_and_then}
use Rattle.pointer_core.specs.Path.{Path}
use Rattle.patch_core.specs.declared.patch.Patch.{Patch}
use Rattle.type_table.specs.Table.{Catalog}
use Rattle.edit_core.specs.Labelled.{Labelled, many, keyed}
use Rattle.edit_core.specs.Ways.{part_at}
use Rattle.tree_core.specs.Reading.{way_along}
use Rattle.tree_core.specs.Listing.{Named, named_by}
use Rattle.tree_core.specs.Writing.{Tree}
use Rattle.tree_lists.specs.Folding.{tree_after}
use Rattle.tree_lists.specs.Restoring.{restored}

-- the part of a tree that holds the place which a path names
abbrev pub holder_of : Path → Labelled → Option Labelled
holder_of path root = option_and_then (λ (named : Named). option_and_then (λ way. part_at way root) (way_along named.holder root)) (named_by path)

-- it is a node
abbrev pub IsNode : Option Labelled → Type 0
IsNode (Some (many l bs)) = Unit {0}
IsNode (Some (keyed l es)) = Unit {0}
IsNode found = ⊥

-- each patch's place is in a node of the tree that those before it leave
abbrev pub AreInNodes : Catalog → List Patch → Tree → Type 0
AreInNodes types [] tree = Unit {0}
AreInNodes types (p ∷ ps) tree = IsNode (holder_of p.path tree.root) × AreInNodes types ps (tree_after (restored types (p ∷ []) tree))
