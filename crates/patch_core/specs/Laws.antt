-- What holds of patches, whatever the values are.
use Rattle.std.specs.Prelude.{◌≡◌, List, Ok, map, All}
use Rattle.snap_core.specs.Value.{Value, IsOrdered}
use Rattle.patch_core.specs.Application.{applied, written}
use Rattle.patch_core.specs.Fits.{IsComplete, Fits, LeadsTo}
use Rattle.patch_core.specs.Inverse.{inverse_of, back}
use Rattle.patch_core.specs.Printing.{printed_patches}
use Rattle.patch_core.specs.Reading.{without_old, Reads}
use Rattle.patch_core.specs.declared.patch.Patch.{Patch}

-- where a patch fits a value, it leads to another, its inverse fits that, and the inverse leads back
abbrev pub InverseLeadsBack : Type 0
InverseLeadsBack =
    (p : Patch) (s : Value) → IsOrdered s → Fits p s
    → (t : Value) × (applied p s ≡ Ok t) × Fits (inverse_of p) t × (applied (inverse_of p) t ≡ Ok s)

-- where patches fit in turn and lead to a value, their inverses, last first, fit in turn and lead back
abbrev pub ChangesAreTakenBack : Type 0
ChangesAreTakenBack =
    (ps : List Patch) (s t : Value) → IsOrdered s → All (λ p. IsOrdered (written p)) ps
    → LeadsTo ps s t → LeadsTo (back ps) t s

-- what is printed of patches is read as these patches, but for their old values
abbrev pub PrintedReadsBack : Type 0
PrintedReadsBack = (ps : List Patch) → All IsComplete ps → Reads (printed_patches ps) (map without_old ps)

-- a value is read as one list of patches at most
abbrev pub ReadsOnce : Type 0
ReadsOnce = (v : Value) (ps qs : List Patch) → Reads v ps → Reads v qs → ps ≡ qs
