-- A list of patches that is written one by one: what was done so far, and what is left.
use Rattle.std.specs.Prelude.{List, [], ◌++◌, nat_le, Ok}
use Rattle.snap_core.specs.Value.{depth_of}
use Rattle.pointer_core.specs.declared.refusal.Rule.TheVariants as rule
use Rattle.patch_core.specs.declared.patch.Patch.{Patch}
use Rattle.type_table.specs.Table.{Catalog}
use Rattle.type_core.specs.Making.{Outcome}
use Rattle.edit_core.specs.Labelled.{bare}
use Rattle.tree_core.specs.Outcome.{◌>>=◌, provided}
use Rattle.tree_core.specs.Changed.{Changed}
use Rattle.tree_core.specs.Writing.{Tree}
use Rattle.tree_core.specs.Listing.{patch_written, patches_written}

-- one patch, with the depth of the tree that it leaves judged
abbrev pub one_written : Catalog → Patch → Tree → Outcome Changed
one_written types p tree = do
  changed ← patch_written types p tree
  provided (nat_le (depth_of (bare changed.value)) 64) [] rule.Large (Ok changed)

-- the tree that a change leaves
abbrev pub tree_after : Changed → Tree
tree_after c = record { root = c.value; next = c.next }

-- a change, and then another of the tree that it leaves
abbrev pub and_then : Changed → Changed → Changed
and_then first second = record { value = second.value; edits = first.edits ++ second.edits; next = second.next }

-- what is left to write once there is a change
abbrev pub rest_written : Catalog → List Patch → Changed → Outcome Changed
rest_written types ps made = do
  rest ← patches_written types ps (tree_after made)
  Ok (and_then made rest)
