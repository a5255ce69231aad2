-- What was read and what is left are all.
use Rattle.std.proofs.Common.{◌≡◌, List, map, drop}
use Rattle.snap_core.specs.View.{items_view, fields_view}
use Rattle.expr_syntax.specs.Syntax.{Expression}
use Rattle.expr_syntax.specs.Shown.{shown}
use Rattle.expr_form.specs.Expressions.{expression_read, items_read}
use Rattle.expr_form.specs.Models.{target_of}
use Rattle.expr_form.specs.Outcome.{Outcome, Tells}
use Rattle.expr_form.proofs.Joining.{joined}
use Rattle.expr_form.proofs.singles.read_arguments.Given as goal

abbrev pub invariant-loop-index : goal.invariant-loop-index
invariant-loop-index l =
    let read = expression_read (target_of (fields_view l.types) l.targets) in
    (so_far : Outcome (List Expression)) × Tells (map shown) l.list so_far
    × (items_read read l.initial.scope 0 (items_view l.items) ≡ joined so_far (items_read read l.initial.scope l.index (items_view (drop l.index l.items))))
    × (l.scope ≡ l.initial.scope)
