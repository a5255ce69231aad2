-- What is printed of plain values is plain.
use Rattle.std.proofs.Common.{◌≡◌, List, [], ◌∷◌, map, Option, Some, None, refl, sym, subst}
use Rattle.std.specs.Prelude.{All}
use Rattle.std.proofs.lemmas.List.Elements.{All-head, All-tail}
use Rattle.snap_core.specs.Value.{Value, IsPlain, ArePlain}
use Rattle.snap_core.specs.View.{parts_of}
use Rattle.snap_core.specs.declared.snap.Snap.{Snap}
use Rattle.pointer_core.specs.Path.{Path}
use Rattle.patch_core.specs.Printing.{IsPlainMaybe, HasPlainValues, printed_patch, printed_patches}
use Rattle.patch_core.specs.declared.patch.PatchOp.{PatchOp}
use Rattle.patch_core.specs.declared.patch.Patch.{Patch}

-- the keys are in order, whichever values there are
one_plain : (op : PatchOp) (path : Path) (value old : Option Snap) → IsPlainMaybe value → IsPlainMaybe old → IsPlain (printed_patch (record { op = op; path = path; value = value; old = old }))
one_plain op path None None v o = (tt, refl, (tt, tt, tt))
one_plain op path (Some w) None v o = (tt, refl, (tt, refl, (v, tt, tt)))
one_plain op path None (Some w) v o = (o, refl, (tt, refl, (tt, tt, tt)))
one_plain op path (Some w) (Some u) v o = (o, refl, (tt, refl, (tt, refl, (v, tt, tt))))

pub all_plain : (ps : List Patch) → All HasPlainValues ps → ArePlain (parts_of (map printed_patch ps))
all_plain [] plain = tt
all_plain (p ∷ ps) plain =
    let here = All-head HasPlainValues p ps plain in
    (one_plain p.op p.path p.value p.old here.0 here.1, all_plain ps (All-tail HasPlainValues p ps plain))

pub printed_plain : (ps : List Patch) (v : Value) → v ≡ printed_patches ps → All HasPlainValues ps → IsPlain v
printed_plain ps v is plain = let P : Value → Type 0 = λ w. IsPlain w in subst P (sym is) (all_plain ps plain)
