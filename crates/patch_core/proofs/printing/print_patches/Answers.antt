use Rattle.std.proofs.Common.{◌≡◌, ◌∙◌, map, ap}
use Rattle.snap_core.specs.Value.{list}
use Rattle.snap_core.specs.View.{view, parts_of}
use Rattle.snap_core.specs.declared.snap.Snap
use Rattle.snap_core.proofs.Views.{view-List}
use Rattle.patch_core.specs.Printing.{printed_patch}
use Rattle.patch_core.proofs.PrintedPlain.{printed_plain}
use Rattle.patch_core.proofs.printing.print_patches.Goals as goal

pub returns-clause-plain : goal.returns-clause-plain
returns-clause-plain c = λ plain.
    let same : map view c.in_ok-print_all.field-0 ≡ map printed_patch c.args.patches.now = c.in_ok-print_all.ensures ∙ ap (map printed_patch) c.as_slice.ensures in
    printed_plain c.args.patches.now (view (Snap.List c.in_ok-print_all.field-0)) (view-List c.in_ok-print_all.field-0 ∙ ap (λ vs. list tt (parts_of vs)) same) plain
