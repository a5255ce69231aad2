-- How many expressions may still be open, and within one the functions in the order of their calls. In a loop what was read and what is left are all.
use Rattle.std.proofs.Common.{◌≡◌, ◌+◌, ◌*◌, ℕ, List, map, drop}
use Rattle.snap_core.specs.View.{items_view, fields_view}
use Rattle.expr_syntax.specs.Syntax.{Expression}
use Rattle.expr_syntax.specs.Shown.{shown}
use Rattle.expr_syntax.specs.Forms.{entry_shown}
use Rattle.expr_form.specs.Expressions.{expr_read, items_read, members_read}
use Rattle.expr_form.specs.Models.{target_of}
use Rattle.expr_form.specs.Outcome.{Outcome, Tells}
use Rattle.expr_form.proofs.Joining.{joined}
use Rattle.expr_form.proofs.expr.+expressions.Given as goal

abbrev pub decreases-read_expr : goal.decreases-read_expr
decreases-read_expr l = 8 * l.room + 1

abbrev pub decreases-read_bound : goal.decreases-read_bound
decreases-read_bound l = 8 * l.room + 2

abbrev pub decreases-read_pair : goal.decreases-read_pair
decreases-read_pair l = 8 * l.room + 3

abbrev pub decreases-read_triple : goal.decreases-read_triple
decreases-read_triple l = 8 * l.room + 3

abbrev pub decreases-read_aim : goal.decreases-read_aim
decreases-read_aim l = 8 * l.room + 3

abbrev pub decreases-read_list : goal.decreases-read_list
decreases-read_list l = 8 * l.room + 3

abbrev pub decreases-read_make : goal.decreases-read_make
decreases-read_make l = 8 * l.room + 3

abbrev pub decreases-read_group : goal.decreases-read_group
decreases-read_group l = 8 * l.room + 4

abbrev pub decreases-read_keyed : goal.decreases-read_keyed
decreases-read_keyed l = 8 * l.room + 5

abbrev pub invariant-read_list-loop-index : goal.invariant-read_list-loop-index
invariant-read_list-loop-index l =
    let read = expr_read (target_of (fields_view l.types) l.targets) l.room in
    (so_far : Outcome (List Expression)) × Tells (map shown) l.list so_far
    × (items_read read l.initial.scope 0 (items_view l.items) ≡ joined so_far (items_read read l.initial.scope l.index (items_view (drop l.index l.items))))
    × (l.scope ≡ l.initial.scope)

abbrev pub invariant-read_make-loop-field : goal.invariant-read_make-loop-field
invariant-read_make-loop-field l =
    let read = expr_read (target_of (fields_view l.types) l.targets) l.room in
    (so_far : Outcome (List (List ℕ × Expression))) × Tells (map entry_shown) l.entries so_far
    × (members_read read l.initial.scope (fields_view l.fields) ≡ joined so_far (members_read read l.initial.scope (fields_view (drop l.field-index l.fields))))
    × (l.scope ≡ l.initial.scope)
