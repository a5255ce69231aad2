-- The patch that takes a patch back.
use Rattle.std.specs.Prelude.{List, map, reverse}
use Rattle.patch_core.specs.declared.patch.PatchOp.{PatchOp}
use Rattle.patch_core.specs.declared.patch.PatchOp.TheVariants.{Add, Replace, Remove}
use Rattle.patch_core.specs.declared.patch.Patch.{Patch}

abbrev pub opposite : PatchOp → PatchOp
opposite Add = Remove
opposite Replace = Replace
opposite Remove = Add

-- the opposite operation at the same path, with value and old value exchanged
abbrev pub inverse_of : Patch → Patch
inverse_of p = record { op = opposite p.op; path = p.path; value = p.old; old = p.value }

-- the inverses, last first
abbrev pub back : List Patch → List Patch
back ps = reverse (map inverse_of ps)
