-- Each statement reads as its row says, and blocks read their statements in order.
use Rattle.std.proofs.Common.{◌≡◌, ◌+◌, ◌-◌, ℕ, List, [], map, drop, take, length, decimal, refl, sym, ◌∙◌, ap, arith}
use Rattle.snap_core.specs.Value.{Value, null}
use Rattle.snap_core.specs.View.{view, items_view, fields_view}
use Rattle.expr_syntax.specs.Syntax.{Statement, each, attempt}
use Rattle.expr_syntax.specs.Shown.{shown}
use Rattle.expr_syntax.specs.ShownStatements.{stmt_shown, block_shown, statements}
use Rattle.expr_syntax.specs.declared.expr.Expr.{Expr}
use Rattle.expr_syntax.specs.declared.stmt.Block.{Block}
use Rattle.expr_form.specs.Texts.{pair_in, triple_in, items_in}
use Rattle.expr_form.specs.Names.{binder_read, bound}
use Rattle.expr_form.specs.Models.{target_of}
use Rattle.expr_form.specs.Outcome.{reads, at, both, made}
use Rattle.expr_form.specs.Seen.{stmt_formed_seen}
use Rattle.expr_form.specs.Expressions.{Names, expression_read}
use Rattle.expr_form.specs.Statements.{bound_after, block_read, stmt_read, stmts_read, formed_stmt, inside_read}
use Rattle.expr_form.proofs.Telling.{tells-lowered, tells-same, tells-parts, tells-no_parts, tells-made, tells-both}
use Rattle.expr_form.proofs.Operands.{same-names, part-at}
use Rattle.expr_form.proofs.Joining.{joined, with_last, joined-first, joined-none, joined-end, tells-pushed}
use Rattle.expr_form.proofs.Rooms.{left-bound}
use Rattle.expr_form.proofs.Stmts.{stmt-stopped, stmt-closed, stmt-open, stmts-step, stmts-end, kept-after}
use Rattle.expr_form.proofs.stmt.+statements.Goals as goal

-- a statement by its own form

pub read_stmt-returns-in_err-formed-clause-reads : goal.read_stmt-returns-in_err-formed-clause-reads
read_stmt-returns-in_err-formed-clause-reads t c =
    stmt-stopped (target_of (fields_view c.args.types.now) c.args.targets.now) stmt_formed_seen c.args.room c.args.scope.now (view c.args.value.now)
    c.in_err-formed.field-0.0 c.from_residual.result c.from_residual.ensures.1 c.in_err-formed.ensures

pub read_stmt-returns-then-room-eq0-clause-reads : goal.read_stmt-returns-then-room-eq0-clause-reads
read_stmt-returns-then-room-eq0-clause-reads t c =
    stmt-closed (target_of (fields_view c.args.types.now) c.args.targets.now) c.args.room c.args.scope.now (view c.args.value.now)
    (stmt_formed_seen c.in_ok-formed.formed) c.wrong.result c.if-room-eq0.true c.in_ok-formed.ensures c.wrong.ensures

pub read_stmt-returns-clause-reads : goal.read_stmt-returns-clause-reads
read_stmt-returns-clause-reads t c =
    let look = target_of (fields_view c.args.types.now) c.args.targets.now in
    let names = c.args.scope.now in
    let v = view c.args.value.now in
    let form = c.in_ok-formed.formed in
    let field = form.1.now in
    let block = block_read (stmt_read look (c.args.room - 1)) in
    let inside = inside_read (expression_read look) block form.0 names (view field.value) in
    tells-same stmt_shown c.under.result (formed_stmt (expression_read look) block names (stmt_formed_seen form)) (stmt_read look c.args.room names v)
    (stmt-open look c.args.room names v (stmt_formed_seen form) (omega arith) c.in_ok-formed.ensures)
    (tells-lowered stmt_shown field.key c.read_inside-inside.result c.under.result inside (rw c.text.ensures at c.under.ensures) c.read_inside-inside.ensures.reads)

pub read_branches-returns-in_default-clause-reads : goal.read_branches-returns-in_default-clause-reads
read_branches-returns-in_default-clause-reads t c =
    let look = target_of (fields_view c.args.types.now) c.args.targets.now in
    let read = expression_read look in
    let block = block_read (stmt_read look c.args.room) in
    let names = c.args.scope.now in
    let v = view c.args.value.now in
    tells-no_parts stmt_shown (triple_in v) (λ p. made (λ q. Statement.choice q.0 q.1.0 q.1.1) (both (at 0 (read names p.0)) (both (at 1 (block names p.1)) (at 2 (block names p.2))))) c.wrong.result c.in_default.ensures c.wrong.ensures

pub read_branches-returns-clause-reads : goal.read_branches-returns-clause-reads
read_branches-returns-clause-reads t c =
    let look = target_of (fields_view c.args.types.now) c.args.targets.now in
    let read = expression_read look in
    let block = block_read (stmt_read look c.args.room) in
    let names = c.args.scope.now in
    let v = view c.args.value.now in
    let a = view c.in-Some.parts.0.now in
    let b = view c.in-Some.parts.1.now in
    let d = view c.in-Some.parts.2.now in
    tells-parts stmt_shown (triple_in v) (a, b, d) (λ p. made (λ q. Statement.choice q.0 q.1.0 q.1.1) (both (at 0 (read names p.0)) (both (at 1 (block names p.1)) (at 2 (block names p.2))))) c.branches_from.result c.in-Some.ensures
    (tells-made (λ (q : Expr × (Block × Block)). (shown q.0, (block_shown q.1.0, block_shown q.1.1))) stmt_shown (λ q. Statement.choice q.0 q.1.0 q.1.1) c.both-whole.result c.branches_from.result (both (at 0 (read names a)) (both (at 1 (block names b)) (at 2 (block names d)))) c.branches_from.ensures
    (tells-both shown (λ (q : Block × Block). (block_shown q.0, block_shown q.1)) c.at_index-condition.result c.both-blocks.result c.both-whole.result (at 0 (read names a)) (both (at 1 (block names b)) (at 2 (block names d))) c.both-whole.ensures
    (part-at shown read 0 c.read_expression-condition.result c.at_index-condition.result names names a refl c.at_index-condition.ensures c.read_expression-condition.ensures.reads)
    (tells-both block_shown block_shown c.at_index-first.result c.at_index-second.result c.both-blocks.result (at 1 (block names b)) (at 2 (block names d)) c.both-blocks.ensures
    (part-at block_shown block 1 c.read_block-first.result c.at_index-first.result names c.read_expression-condition.new.scope b (c.read_expression-condition.ensures.scope) c.at_index-first.ensures c.read_block-first.ensures.reads)
    (part-at block_shown block 2 c.read_block-second.result c.at_index-second.result names c.read_block-first.new.scope d (c.read_block-first.ensures.scope ∙ c.read_expression-condition.ensures.scope) c.at_index-second.ensures c.read_block-second.ensures.reads))))

pub read_each-returns-in_default-clause-reads : goal.read_each-returns-in_default-clause-reads
read_each-returns-in_default-clause-reads t c =
    let look = target_of (fields_view c.args.types.now) c.args.targets.now in
    let read = expression_read look in
    let block = block_read (stmt_read look c.args.room) in
    let names = c.args.scope.now in
    let v = view c.args.value.now in
    tells-no_parts stmt_shown (triple_in v) (λ p. made (λ q. each q.0 q.1.0 q.1.1) (both (at 0 (read names p.0)) (both (at 1 (binder_read p.1)) (at 2 (block (bound names p.1) p.2))))) c.wrong.result c.in_default.ensures c.wrong.ensures

pub read_each-returns-clause-reads : goal.read_each-returns-clause-reads
read_each-returns-clause-reads t c =
    let look = target_of (fields_view c.args.types.now) c.args.targets.now in
    let read = expression_read look in
    let block = block_read (stmt_read look c.args.room) in
    let names = c.args.scope.now in
    let v = view c.args.value.now in
    let a = view c.in-Some.parts.0.now in
    let b = view c.in-Some.parts.1.now in
    let d = view c.in-Some.parts.2.now in
    tells-parts stmt_shown (triple_in v) (a, b, d) (λ p. made (λ q. each q.0 q.1.0 q.1.1) (both (at 0 (read names p.0)) (both (at 1 (binder_read p.1)) (at 2 (block (bound names p.1) p.2))))) c.each_from.result c.in-Some.ensures
    (tells-made (λ (q : Expr × (List ℕ × Block)). (shown q.0, (q.1.0, block_shown q.1.1))) stmt_shown (λ q. each q.0 q.1.0 q.1.1) c.both-whole.result c.each_from.result (both (at 0 (read names a)) (both (at 1 (binder_read b)) (at 2 (block (bound names b) d)))) c.each_from.ensures
    (tells-both shown (λ (q : List ℕ × Block). (q.0, block_shown q.1)) c.at_index-walked.result c.both-inner.result c.both-whole.result (at 0 (read names a)) (both (at 1 (binder_read b)) (at 2 (block (bound names b) d))) c.both-whole.ensures
    (part-at shown read 0 c.read_expression-walked.result c.at_index-walked.result names names a refl c.at_index-walked.ensures c.read_expression-walked.ensures.reads)
    (tells-both (λ (n : List ℕ). n) block_shown c.at_index-name.result c.at_index-block.result c.both-inner.result (at 1 (binder_read b)) (at 2 (block (bound names b) d)) c.both-inner.ensures
    (tells-lowered (λ (n : List ℕ). n) (decimal 1) c.read_binder-name.result c.at_index-name.result (binder_read b) c.at_index-name.ensures c.read_binder-name.ensures)
    (part-at block_shown (λ (ns : Names) (w : Value). block (bound ns b) w) 2 c.read_bound-block.result c.at_index-block.result names c.read_expression-walked.new.scope d (c.read_expression-walked.ensures.scope) c.at_index-block.ensures c.read_bound-block.ensures.reads))))

pub read_attempt-returns-in_default-clause-reads : goal.read_attempt-returns-in_default-clause-reads
read_attempt-returns-in_default-clause-reads t c =
    let look = target_of (fields_view c.args.types.now) c.args.targets.now in
    let read = expression_read look in
    let block = block_read (stmt_read look c.args.room) in
    let names = c.args.scope.now in
    let v = view c.args.value.now in
    tells-no_parts stmt_shown (pair_in v) (λ p. made (λ q. attempt q.0 q.1) (both (at 0 (block names p.0)) (at 1 (block names p.1)))) c.wrong.result c.in_default.ensures c.wrong.ensures

pub read_attempt-returns-clause-reads : goal.read_attempt-returns-clause-reads
read_attempt-returns-clause-reads t c =
    let look = target_of (fields_view c.args.types.now) c.args.targets.now in
    let read = expression_read look in
    let block = block_read (stmt_read look c.args.room) in
    let names = c.args.scope.now in
    let v = view c.args.value.now in
    let a = view c.in-Some.parts.0.now in
    let b = view c.in-Some.parts.1.now in
    tells-parts stmt_shown (pair_in v) (a, b) (λ p. made (λ q. attempt q.0 q.1) (both (at 0 (block names p.0)) (at 1 (block names p.1)))) c.attempt_from.result c.in-Some.ensures
    (tells-made (λ (q : Block × Block). (block_shown q.0, block_shown q.1)) stmt_shown (λ q. attempt q.0 q.1) c.both-blocks.result c.attempt_from.result (both (at 0 (block names a)) (at 1 (block names b))) c.attempt_from.ensures
    (tells-both block_shown block_shown c.at_index-first.result c.at_index-second.result c.both-blocks.result (at 0 (block names a)) (at 1 (block names b)) c.both-blocks.ensures
    (part-at block_shown block 0 c.read_block-first.result c.at_index-first.result names names a refl c.at_index-first.ensures c.read_block-first.ensures.reads)
    (part-at block_shown block 1 c.read_block-second.result c.at_index-second.result names c.read_block-first.new.scope b (c.read_block-first.ensures.scope) c.at_index-second.ensures c.read_block-second.ensures.reads)))

-- blocks

pub read_bound-returns-clause-reads : goal.read_bound-returns-clause-reads
read_bound-returns-clause-reads t c =
    let look = target_of (fields_view c.args.types.now) c.args.targets.now in
    let names = c.args.scope.now in
    same-names block_shown (block_read (stmt_read look c.args.room)) c.read_block-block.result (bound names (view c.args.name.now)) c.bind_in.new.scope (view c.args.block.now)
    c.in_ok-bind_in.ensures.ok c.read_block-block.ensures.reads

pub read_bound-returns-clause-scope : goal.read_bound-returns-clause-scope
read_bound-returns-clause-scope t c =
    let names = c.args.scope.now in
    c.leave.ensures ∙ ap (λ n. take n c.read_block-block.new.scope) c.len-len.ensures
    ∙ ap (take (length names)) (c.read_block-block.ensures.scope ∙ c.in_ok-bind_in.ensures.ok) ∙ left-bound names (view c.args.name.now)

pub read_block-returns-in_default-clause-reads : goal.read_block-returns-in_default-clause-reads
read_block-returns-in_default-clause-reads t c =
    let look = target_of (fields_view c.args.types.now) c.args.targets.now in
    tells-no_parts block_shown (items_in (view c.args.value.now)) (λ ps. made statements (stmts_read (stmt_read look c.args.room) c.args.scope.now 0 ps)) c.wrong.result c.in_default.ensures c.wrong.ensures

pub read_block-returns-clause-reads : goal.read_block-returns-clause-reads
read_block-returns-clause-reads t c =
    let look = target_of (fields_view c.args.types.now) c.args.targets.now in
    let read = stmt_read look c.args.room in
    let names = c.args.scope.now in
    let items = c.in-Some.items.now in
    tells-parts block_shown (items_in (view c.args.value.now)) (items_view items) (λ ps. made statements (stmts_read read names 0 ps)) c.block_from.result c.in-Some.ensures
    (tells-made (map stmt_shown) block_shown statements c.read_stmts-statements.result c.block_from.result (stmts_read read names 0 (items_view items)) c.block_from.ensures c.read_stmts-statements.ensures.reads)

pub read_block-returns-clause-scope : goal.read_block-returns-clause-scope
read_block-returns-clause-scope t c =
    c.leave.ensures ∙ ap (λ n. take n c.read_stmts-statements.new.scope) c.len-len.ensures ∙ c.read_stmts-statements.ensures.scope

-- statements one after the other

pub read_stmts-loop-index-init : goal.read_stmts-loop-index-init
read_stmts-loop-index-init t c =
    (reads [], ap (λ es. reads (map stmt_shown es)) (sym c.new.ensures), sym (joined-none _), left-bound c.args.scope.now null)

pub read_stmts-returns-in_err-bind_after-clause-scope : goal.read_stmts-returns-in_err-bind_after-clause-scope
read_stmts-returns-in_err-bind_after-clause-scope t c =
    ap (take (length c.args.scope.now)) (c.in_err-bind_after.ensures.err ∙ c.read_stmt-part.ensures.scope) ∙ c.loop-index.invariant.3

pub read_stmts-loop-index-preserved : goal.read_stmts-loop-index-preserved
read_stmts-loop-index-preserved t c =
    let look = target_of (fields_view c.args.types.now) c.args.targets.now in
    let read = stmt_read look c.args.room in
    let first = c.args.scope.now in
    let items = c.args.items.now in
    let i = c.loop-index.index in
    let v = c.index-items-index.result in
    let names = c.loop-index.scope in
    let so_far = c.loop-index.invariant in
    let one = at i (read names (view v)) in
    let bound_now : c.bind_after.new.scope ≡ bound_after names (view v) = c.in_ok-bind_after.ensures.ok ∙ ap (λ ns. bound_after ns (view v)) c.read_stmt-part.ensures.scope in (
      with_last so_far.0 one,
      tells-pushed stmt_shown c.loop-index.list c.at_index-part.result c.pushed-longer.result so_far.0 one c.pushed-longer.ensures so_far.1
          (part-at stmt_shown read i c.read_stmt-part.result c.at_index-part.result names names (view v) refl c.at_index-part.ensures c.read_stmt-part.ensures.reads),
      so_far.2 ∙ ap (λ o. joined so_far.0 o) (stmts-step read names items i v c.loop-index-test.true c.index-items-index.is)
          ∙ joined-first so_far.0 one (stmts_read read (bound_after names (view v)) (i + 1) (items_view (drop (i + 1) items)))
          ∙ ap (λ ns. joined (with_last so_far.0 one) (stmts_read read ns (i + 1) (items_view (drop (i + 1) items)))) (sym bound_now),
      ap (take (length first)) bound_now ∙ kept-after first names (view v) so_far.3,
    )

pub read_stmts-returns-clause-reads : goal.read_stmts-returns-clause-reads
read_stmts-returns-clause-reads t c =
    let look = target_of (fields_view c.args.types.now) c.args.targets.now in
    let read = stmt_read look c.args.room in
    let items = c.args.items.now in
    let i = c.loop-index.index in
    let so_far = c.loop-index.invariant in
    tells-same (map stmt_shown) c.loop-index.list so_far.0 (stmts_read read c.args.scope.now 0 (items_view items))
    (so_far.2 ∙ ap (λ o. joined so_far.0 o) (stmts-end read c.loop-index.scope items i (omega arith)) ∙ joined-end so_far.0)
    so_far.1
