-- What edits are without labels: patches.
use Rattle.std.specs.Prelude.{ℕ, ◌<◌, ◌^◌, List, [], ◌∷◌, length, Some, None, decimal}
use Rattle.snap_core.specs.Value.{Value, list, dict, no_parts, part, no_members, member, Items, Fields}
use Rattle.snap_core.specs.Level.{count_of}
use Rattle.snap_core.specs.Unview.{snap_of}
use Rattle.pointer_core.specs.Path.{Path}
use Rattle.patch_core.specs.declared.patch.Patch.{Patch}
use Rattle.patch_core.specs.declared.patch.PatchOp.TheVariants.{Add, Replace, Remove}
use Rattle.edit_core.specs.Labelled.{bare}
use Rattle.edit_core.specs.Edit.{Edit, Change, Operation, Turn, add, remove, replace, at_item, at_entry, to_item, to_entry, whole, within}

-- the token of a turn of a way, and that of the place of a change
abbrev pub token_of : Turn → List ℕ
token_of (to_item i) = decimal i
token_of (to_entry i key) = key

abbrev pub place_token : Change → List ℕ
place_token (at_item before op after) = decimal (length before)
place_token (at_entry before key op after) = key

-- the path from a value to the place of a change in it
abbrev pub path_to : List Turn → Change → Path
path_to [] change = place_token change ∷ []
path_to (turn ∷ way) change = token_of turn ∷ path_to way change

abbrev pub operation_in : Change → Operation
operation_in (at_item before op after) = op
operation_in (at_entry before key op after) = op

-- an operation at a path, as a patch
abbrev pub patch_at : Path → Operation → Patch
patch_at path (add new) = record { op = Add; path = path; value = Some (snap_of (bare new)); old = None }
patch_at path (remove old) = record { op = Remove; path = path; value = None; old = Some (snap_of (bare old)) }
patch_at path (replace old new) = record { op = Replace; path = path; value = Some (snap_of (bare new)); old = Some (snap_of (bare old)) }

-- the patch that an edit is without labels
abbrev pub patch_of : Edit → Patch
patch_of (whole old new) = patch_at [] (replace old new)
patch_of (within way change) = patch_at (path_to way change) (operation_in change)

abbrev mutual
  -- each list has fewer than 2 to the power of 32 items, so that each index is a token
  pub IsShort : Value → Type 0
  IsShort (list a ps) = (count_of ps < 2 ^ 32) × AreShort ps
  IsShort (dict a ms) = HoldShort ms
  IsShort _ = Unit {0}

  pub AreShort : Items → Type 0
  AreShort no_parts = Unit {0}
  AreShort (part v ps) = IsShort v × AreShort ps

  pub HoldShort : Fields → Type 0
  HoldShort no_members = Unit {0}
  HoldShort (member k v ms) = IsShort v × HoldShort ms
