-- Old parts and what they are once they are edited, for the edits between two labelled values.
use Rattle.std.specs.Prelude.{ℕ, List, map}
use Rattle.edit_core.specs.Labelled as edits
use Rattle.edit_core.specs.LoggedBetween.{LoggedPart, part_of, entry_part, remains}
use Rattle.node_core.specs.declared.labelled.Labelled.{Labelled}
use Rattle.node_core.specs.declared.labelled.LabelledField.{LabelledField}
use Rattle.node_core.specs.View.{labelled, items, fields}

abbrev pub olds_of : List Labelled → List LoggedPart
olds_of xs = map part_of (items xs)

abbrev pub old_fields_of : List LabelledField → List (List ℕ × LoggedPart)
old_fields_of fs = map entry_part (fields fs)

-- what each old item is once those that stay are edited in their places
abbrev pub remaining : List edits.Labelled → List Labelled → List edits.Labelled
remaining news olds = map (λ x. remains (labelled x) news) olds
