-- Edits as a log keeps them: the way to the place and what happens there, without what stands around it.
use Rattle.std.specs.Prelude.{ℕ, ◌+◌, List, [], ◌∷◌, ◌++◌, length, map, take, drop}
use Rattle.patch_core.specs.declared.patch.Patch.{Patch}
use Rattle.edit_core.specs.Labelled.{Labelled, many, keyed, branches, entries, items_in, entries_in}
use Rattle.edit_core.specs.Edit.{Edit, Change, Operation, Turn, replace, old_in, new_in, entries_at, at_item, at_entry, to_item, to_entry, whole, within, inverse_operation}
use Rattle.edit_core.specs.Application.{item_changed, entry_changed}
use Rattle.edit_core.specs.Plain.{token_of, operation_in, patch_at}

pub record LoggedEdit : Type 0 where
  -- the turns to the place; none where the whole is replaced
  pub way : List Turn
  pub operation : Operation

-- the turn from a node to the place of a change of its parts
abbrev pub place_of : Change → Turn
place_of (at_item before op after) = to_item (length before)
place_of (at_entry before key op after) = to_entry (length before) key

-- an edit as a log keeps it
abbrev pub logged : Edit → LoggedEdit
logged (whole old new) = record { way = []; operation = replace old new }
logged (within way change) = record { way = way ++ place_of change ∷ []; operation = operation_in change }

-- an edit of a part, as one of its node
abbrev pub behind : Turn → LoggedEdit → LoggedEdit
behind turn e = record { way = turn ∷ e.way; operation = e.operation }

-- parts with others in the place of so many from an index on
abbrev pub spliced : {A : Type 0} → ℕ → ℕ → List A → List A → List A
spliced at count others parts = take at parts ++ (others ++ drop (at + count) parts)

-- the node after an operation on its parts
abbrev pub after_at : Turn → Operation → Labelled → Labelled
after_at (to_item i) op (many l bs) = many l (branches (spliced i (length (old_in op)) (new_in op) (items_in bs)))
after_at (to_entry i key) op (keyed l es) = keyed l (entries (spliced i (length (old_in op)) (entries_at key (new_in op)) (entries_in es)))
after_at turn op x = x

-- what stands in the place of the whole after an operation on it
abbrev pub after_whole : Operation → Labelled → Labelled
after_whole (replace old new) x = new
after_whole op x = x

abbrev pub after_way : List Turn → Operation → Labelled → Labelled
after_way [] op x = after_whole op x
after_way (turn ∷ []) op x = after_at turn op x
after_way (to_item i ∷ turn ∷ way) op (many l bs) = many l (item_changed i (after_way (turn ∷ way) op) bs)
after_way (to_entry i key ∷ turn ∷ way) op (keyed l es) = keyed l (entry_changed i (after_way (turn ∷ way) op) es)
after_way (first ∷ turn ∷ way) op x = x

-- the labelled snapshot after a logged edit
abbrev pub after_logged : LoggedEdit → Labelled → Labelled
after_logged e x = after_way e.way e.operation x

-- the logged edit that takes another back
abbrev pub inverse_logged : LoggedEdit → LoggedEdit
inverse_logged e = record { way = e.way; operation = inverse_operation e.operation }

-- the labelled snapshot before a logged edit
abbrev pub before_logged : LoggedEdit → Labelled → Labelled
before_logged e y = after_logged (inverse_logged e) y

-- the patch that a logged edit is without labels
abbrev pub patch_of_logged : LoggedEdit → Patch
patch_of_logged e = patch_at (map token_of e.way) e.operation

-- the labelled snapshot after logged edits in turn, and that before them
abbrev pub after_log : List LoggedEdit → Labelled → Labelled
after_log [] x = x
after_log (e ∷ es) x = after_log es (after_logged e x)

abbrev pub before_log : List LoggedEdit → Labelled → Labelled
before_log [] y = y
before_log (e ∷ es) y = before_logged e (before_log es y)
