-- The value at the end of the way to the place's node.
use Rattle.std.proofs.Common.{◌∙◌, List, sym, ap, subst}
use Rattle.std.specs.Option.{option_map}
use Rattle.snap_core.specs.View.{view}
use Rattle.snap_core.specs.Value.{Value}
use Rattle.snap_core.specs.declared.snap.Snap.{Snap}
use Rattle.type_core.specs.Making.{Outcome}
use Rattle.edit_core.specs.Ways.{way_to, part_at}
use Rattle.node_core.specs.declared.way.Turn.{Turn}
use Rattle.node_core.specs.View.{way, labelled}
use Rattle.tree_core.specs.Answers.{Answers}
use Rattle.tree_core.specs.Written.{target, tree}
use Rattle.answer_ops.specs.View.{answer_of}
use Rattle.answer_writing.specs.Giving.{value_taken}
use Rattle.answer_writing.specs.View.{in_manner}
use Rattle.answer_writing.specs.Written.{unless_dead}
use Rattle.answer_writing.proofs.Places.{value-along}
use Rattle.answer_writing.proofs.placing.value_at.Goals as goal

pub returns-in-Some : goal.returns-in-Some
returns-in-Some c =
    let x = answer_of c.args.answer.now in
    let root = labelled c.args.whole.now.root.now in
    let giving = in_manner c.args.manner x in
    let ways = ap (λ n. way_to n root) (sym c.node.ensures) ∙ sym c.in_ok-way.ensures ∙ ap (option_map way) c.in-Some.is in
    let Along : List Turn → Type 0 = λ ts. Answers {T = Snap} view c.value_along.result
    (unless_dead (part_at (way ts) root) (λ found. value_taken c.args.types.now (record { root = root; way = way ts; node = found }) c.args.to.now.place.now giving x)) in
    let Comes : Outcome Value → Type 0 = λ o. Answers {T = Snap} view c.value_along.result o in
    subst Comes (sym (value-along c.args.types.now (target c.args.to.now) (tree c.args.whole.now) giving x (way c.in-Some.way) (c.in_ok-judge_place.ensures x) ways))
    (subst Along c.as_slice.ensures c.value_along.ensures)
