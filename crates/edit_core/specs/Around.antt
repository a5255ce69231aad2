-- Where a value stands among others: what is around it.
use Rattle.std.specs.Prelude.{ℕ, List, [], ◌∷◌, ◌++◌}
use Rattle.edit_core.specs.Labelled.{Label, Labelled, Entry, many, keyed, branches, entries}
use Rattle.edit_core.specs.Edit.{Edit, moved_to_item, moved_to_entry}

-- the array, or the model or the map, around a part: its label and its other parts
pub data Around : Type 0 where
  in_array : Label → List Labelled → List Labelled → Around
  in_record : Label → List Entry → List ℕ → List Entry → Around

abbrev pub filled : Around → Labelled → Labelled
filled (in_array label before after) x = many label (branches (before ++ x ∷ after))
filled (in_record label before key after) x = keyed label (entries (before ++ (key, x) ∷ after))

abbrev pub moved_out : Around → Edit → Edit
moved_out (in_array label before after) e = moved_to_item before after e
moved_out (in_record label before key after) e = moved_to_entry before key after e

-- with all that is around a value, from the inside to the outside
abbrev pub standing_in : List Around → Labelled → Labelled
standing_in [] x = x
standing_in (a ∷ around) x = standing_in around (filled a x)

abbrev pub seen_from : List Around → Edit → Edit
seen_from [] e = e
seen_from (a ∷ around) e = seen_from around (moved_out a e)
