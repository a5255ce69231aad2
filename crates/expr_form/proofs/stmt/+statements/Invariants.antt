-- How many statements may still be open, and within one the functions in the order of their calls. In the loop what was read and what is left are all, and what was bound before stays bound.
use Rattle.std.proofs.Common.{◌≡◌, ◌+◌, ◌*◌, List, map, drop, take, length}
use Rattle.snap_core.specs.View.{items_view, fields_view}
use Rattle.expr_syntax.specs.Syntax.{Statement}
use Rattle.expr_syntax.specs.ShownStatements.{stmt_shown}
use Rattle.expr_form.specs.Models.{target_of}
use Rattle.expr_form.specs.Outcome.{Outcome, Tells}
use Rattle.expr_form.specs.Statements.{stmt_read, stmts_read}
use Rattle.expr_form.proofs.Joining.{joined}
use Rattle.expr_form.proofs.stmt.+statements.Given as goal

abbrev pub decreases-read_stmt : goal.decreases-read_stmt
decreases-read_stmt l = 8 * l.room + 1

abbrev pub decreases-read_stmts : goal.decreases-read_stmts
decreases-read_stmts l = 8 * l.room + 2

abbrev pub decreases-read_block : goal.decreases-read_block
decreases-read_block l = 8 * l.room + 3

abbrev pub decreases-read_bound : goal.decreases-read_bound
decreases-read_bound l = 8 * l.room + 4

abbrev pub decreases-read_branches : goal.decreases-read_branches
decreases-read_branches l = 8 * l.room + 5

abbrev pub decreases-read_each : goal.decreases-read_each
decreases-read_each l = 8 * l.room + 5

abbrev pub decreases-read_attempt : goal.decreases-read_attempt
decreases-read_attempt l = 8 * l.room + 5

abbrev pub decreases-read_inside : goal.decreases-read_inside
decreases-read_inside l = 8 * l.room + 6

abbrev pub invariant-read_stmts-loop-index : goal.invariant-read_stmts-loop-index
invariant-read_stmts-loop-index l =
    let read = stmt_read (target_of (fields_view l.types) l.targets) l.room in
    let first = l.initial.scope in
    (so_far : Outcome (List Statement)) × Tells (map stmt_shown) l.list so_far
    × (stmts_read read first 0 (items_view l.items) ≡ joined so_far (stmts_read read l.scope l.index (items_view (drop l.index l.items))))
    × (take (length first) l.scope ≡ first)
