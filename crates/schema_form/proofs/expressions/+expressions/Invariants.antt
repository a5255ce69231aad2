-- What is left has all the faults, and the expressions and numbers that are still to come.
use Rattle.std.proofs.Common.{◌≡◌, ◌++◌, length, drop}
use Rattle.snap_core.specs.View.{items_view, fields_view}
use Rattle.schema_form.specs.Faults.{numbered, parts_faults}
use Rattle.schema_form.specs.Layout.{members_laid, member_numbers, parts_laid_of}
use Rattle.schema_form.proofs.expressions.+expressions.Given as goal

abbrev pub invariant-read_members-loop-index : goal.invariant-read_members-loop-index
invariant-read_members-loop-index l =
    let types = fields_view l.types in
    let rest = items_view (drop l.index l.items) in
    let first = l.initial in record {
      faults : numbered 0 (parts_faults types (items_view l.items)) ≡ numbered l.index (parts_faults types rest);
      laid : first.expressions ++ members_laid l.union.0 0 (parts_laid_of types (items_view l.items)) (length first.expressions)
          ≡ l.expressions ++ members_laid l.union.0 l.index (parts_laid_of types rest) (length l.expressions);
      numbers : member_numbers l.union.0 0 (parts_laid_of types (items_view l.items)) (length first.expressions)
          ≡ l.members ++ member_numbers l.union.0 l.index (parts_laid_of types rest) (length l.expressions);
    }
