-- Reconciling: which labels a value has that is set, and which edits lead to it.
use Rattle.std.specs.Prelude.{ℕ, ◌+◌, List, Some, None, if◌then◌else◌}
use Rattle.snap_core.specs.Value.{Value}
use Rattle.edit_core.specs.Labelled.{Labelled}
use Rattle.edit_core.specs.Edit.{Edit}
use Rattle.edit_core.specs.Between.{edits_between}
use Rattle.edit_core.specs.Typing.{Rules, seen}
use Rattle.edit_core.specs.Matching.{same_item}
use Rattle.edit_core.specs.Template.{Template, template, numbered, new_count}

-- a value that is set in the place of a labelled one, its type, and the next number
pub record Setting : Type 0 where
  pub type : ℕ
  pub old : Labelled
  pub new : Value
  pub next : ℕ

-- the labelled value that then stands in the place, the edits that lead to it, and the next number
pub record Written : Type 0 where
  pub value : Labelled
  pub edits : List Edit
  pub next : ℕ

abbrev pub written_as : ℕ → Labelled → Template → Written
written_as next old new = record { value = numbered next new; edits = edits_between old (numbered next new); next = next + new_count new }

abbrev pub reconciled : Rules → Setting → Written
reconciled rules s = written_as s.next s.old (template rules s.type (Some s.old) s.new)

-- An item that is set alone: reconciled where it is the same as the old one, and otherwise another one in its place.
abbrev pub item_set : Rules → Setting → Written
item_set rules s =
    if same_item rules.typing s.type (seen s.old) s.new then reconciled rules s else written_as s.next s.old (template rules s.type None s.new)
