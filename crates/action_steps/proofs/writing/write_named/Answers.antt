use Rattle.std.proofs.Common.{Err, refl}
use Rattle.live_tree.specs.Contents.{state}
use Rattle.tree_core.specs.Recorded.{tree_in}
use Rattle.action_core.specs.Statements as core
use Rattle.action_steps.specs.Writes.{naming_of}
use Rattle.action_steps.proofs.Written.{writes-as, writes-refused, named-at, named-unsuited}
use Rattle.action_steps.proofs.writing.write_named.Goals as goal

pub returns : goal.returns
returns c =
    let frame = c.args.acting.now.frame.now in
    let types = c.args.acting.now.schema.now.types in
    let running = c.args.acting.now.running.now in
    let s = state c.args.tree.now in
    writes-as (Err c.unsuited.result) frame (core.unsuited running c.args.w.node c.in_ok-path.path s.tree) (core.named_written types running (naming_of c.args.w) (tree_in s)) s s
    (named-unsuited types running (naming_of c.args.w) (tree_in s) c.in_ok-path.path c.in-None.is c.in_ok-path.ensures)
    (writes-refused frame c.unsuited.result _ s s refl c.unsuited.ensures)

pub returns-in-Some : goal.returns-in-Some
returns-in-Some c =
    let frame = c.args.acting.now.frame.now in
    let types = c.args.acting.now.schema.now.types in
    let running = c.args.acting.now.running.now in
    let s = state c.args.tree.now in
    writes-as c.give.result frame _ (core.named_written types running (naming_of c.args.w) (tree_in s)) s (state c.give.new.tree)
    (named-at types running (naming_of c.args.w) (tree_in s) c.in_ok-path.path c.in-Some.place c.in-Some.is c.in_ok-path.ensures)
    c.give.ensures
