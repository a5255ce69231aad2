-- Several answers, told one by one.
use Rattle.std.proofs.Common.{◌≡◌, List, [], ◌∷◌, map, refl, ap, ◌∙◌}
use Rattle.snap_core.specs.Value.{Value, part}
use Rattle.snap_core.specs.View.{view, parts_of, items_view}
use Rattle.snap_core.specs.declared.snap.Snap.{Snap}
use Rattle.snap_core.specs.declared.number.NodeNo.{NodeNo}
use Rattle.pointer_core.specs.Path.{Path}
use Rattle.answer_ops.specs.View.{answer_of, answers_of}
use Rattle.answer_ops.specs.declared.value.Value as answers
use Rattle.schema_views.specs.Answering.{answer_value, answer_values}

-- what tells a value that is answered
abbrev pub told_by : (NodeNo → Path) → answers.Value → Value
told_by path x = answer_value path (answer_of x)

listed : (path : NodeNo → Path) (xs : List answers.Value) → parts_of (map (told_by path) xs) ≡ answer_values path (answers_of xs)
listed path [] = refl
listed path (x ∷ xs) = ap (part (told_by path x)) (listed path xs)

-- the values that tell answers are what tells them all
pub all-told : (path : NodeNo → Path) (xs : List answers.Value) (shown : List Snap) → map view shown ≡ map (told_by path) xs → items_view shown ≡ answer_values path (answers_of xs)
all-told path xs shown same = ap parts_of same ∙ listed path xs
