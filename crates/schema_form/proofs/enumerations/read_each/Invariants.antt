-- The set has the texts so far, and what is left has all the faults and the texts that are still to come.
use Rattle.std.proofs.Common.{◌≡◌, ◌++◌, ℕ, List, [], drop}
use Rattle.snap_core.specs.View.{items_view}
use Rattle.schema_form.specs.Faults.{texts_faults}
use Rattle.schema_form.specs.Layout.{texts_in}
use Rattle.schema_form.specs.Texts.{AreTexts}
use Rattle.schema_form.proofs.enumerations.read_each.Given as goal

abbrev pub invariant-loop-index : goal.invariant-loop-index
invariant-loop-index l = (earlier : List (List ℕ)) × AreTexts l.earlier earlier
    × (texts_faults [] 0 (items_view l.items) ≡ texts_faults earlier l.index (items_view (drop l.index l.items)))
    × (texts_in (items_view l.items) ≡ l.texts ++ texts_in (items_view (drop l.index l.items)))
