-- What a change makes of a labelled value.
use Rattle.std.specs.Prelude.{ℕ, ◌+◌, List, [], ◌∷◌, ◌++◌, map}
use Rattle.edit_core.specs.Labelled.{Labelled}
use Rattle.edit_core.specs.Edit.{Turn, add, remove}
use Rattle.edit_core.specs.Typing.{Typing}
use Rattle.edit_core.specs.Template.{Template, numbered, new_count}
use Rattle.edit_core.specs.Matching.{by_first}
use Rattle.edit_core.specs.Reconciling.{Setting, Written, reconciled, item_set}
use Rattle.edit_core.specs.Ways.{with_part}
use Rattle.edit_core.specs.Logged.{LoggedEdit, logged, after_logged}

-- the value after it, the edits that lead there, and the next number
pub record Changed : Type 0 where
  pub value : Labelled
  pub edits : List LoggedEdit
  pub next : ℕ

-- an edit, as it reads from a place that a way leads from
abbrev pub outward : List Turn → LoggedEdit → LoggedEdit
outward way e = record { way = way ++ e.way; operation = e.operation }

-- a changed part of a value, as a change of the value
abbrev pub placed : List Turn → Labelled → Changed → Changed
placed way x part = record { value = with_part way part.value x; edits = map (outward way) part.edits; next = part.next }

-- what reconciling makes of it
abbrev pub as_changed : Written → Changed
as_changed w = record { value = w.value; edits = map logged w.edits; next = w.next }

-- a held value set, and an item of an array set
abbrev pub value_set : Typing → Setting → Changed
value_set typing s = as_changed (reconciled (by_first typing) s)

abbrev pub one_item_set : Typing → Setting → Changed
one_item_set typing s = as_changed (item_set (by_first typing) s)

-- a single edit
abbrev pub by_edit : LoggedEdit → ℕ → Labelled → Changed
by_edit e next x = record { value = after_logged e x; edits = e ∷ []; next = next }

-- a new part put in, with new numbers
abbrev pub part_added : Turn → Template → ℕ → Labelled → Changed
part_added turn new next x = by_edit (record { way = turn ∷ []; operation = add (numbered next new) }) (next + new_count new) x

-- a part taken out
abbrev pub part_removed : Turn → Labelled → ℕ → Labelled → Changed
part_removed turn old next x = by_edit (record { way = turn ∷ []; operation = remove old }) next x
