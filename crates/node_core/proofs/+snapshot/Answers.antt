use Rattle.std.proofs.Common.{◌≡◌, ◌∙◌, [], drop, ap, sym, append-nil}
use Rattle.std.proofs.Math.ListN.{drop_of_length-le}
use Rattle.snap_core.specs.View.{parts_of, members_of}
use Rattle.node_core.proofs.PlainValues.{parts_of_plain, members_of_plain}
use Rattle.node_core.proofs.+snapshot.Goals as goal

pub plain::item_snapshots-returns : goal.plain::item_snapshots-returns
plain::item_snapshots-returns t c =
    let rest : drop c.loop-item.item-index c.args.items.now ≡ [] = drop_of_length-le c.args.items.now c.loop-item-test.false in
    ap parts_of (sym (append-nil _) ∙ (rw rest at c.loop-item.invariant)) ∙ parts_of_plain c.args.items.now

pub plain::field_snapshots-returns : goal.plain::field_snapshots-returns
plain::field_snapshots-returns t c =
    let rest : drop c.loop-field.field-index c.args.fields.now ≡ [] = drop_of_length-le c.args.fields.now c.loop-field-test.false in
    ap members_of (sym (append-nil _) ∙ (rw rest at c.loop-field.invariant)) ∙ members_of_plain c.args.fields.now
