use Rattle.snap_core.specs.View.{view}
use Rattle.live_tree.proofs.Beginning.{kept_by, typed_by}
use Rattle.live_tree.proofs.tree.Tree.new.Goals as goal

pub invariant_of-result : goal.invariant_of-result
invariant_of-result c =
    kept_by c.args.types.now (view c.args.value) c.requires.plain c.in_ok-root.field-0.value c.in_ok-root.field-0.next
    c.in_ok-root.ensures.value c.in_ok-root.ensures.after c.new.result.items c.new-2.result c.new.ensures c.new-2.ensures

pub returns-clause-typed : goal.returns-clause-typed
returns-clause-typed c =
    typed_by c.args.types.now (view c.args.value) c.requires.plain c.in_ok-root.field-0.value c.in_ok-root.field-0.next
    c.in_ok-root.ensures.value c.in_ok-root.ensures.after c.new.result.items c.new.ensures
