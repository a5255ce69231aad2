use Rattle.std.proofs.Common.{sym, subst}
use Rattle.node_core.specs.View.{labelled}
use Rattle.type_core.specs.Making.{Outcome}
use Rattle.tree_core.specs.declared.changed.Changed.{Changed}
use Rattle.tree_core.specs.Changed as specs
use Rattle.tree_core.specs.Answers.{Answers}
use Rattle.tree_core.specs.Outcome.{◌>>=◌}
use Rattle.tree_core.specs.Listing.{list_written}
use Rattle.tree_core.specs.Writing.{judged}
use Rattle.tree_core.specs.Written.{changed, tree}
use Rattle.tree_lists.proofs.Keeping.{list-keeps, patches-plain}
use Rattle.tree_lists.proofs.Answered.{undone, numbered, plain, later}
use Rattle.tree_lists.proofs.listing.write_list.Goals as goal

pub judge-requires : goal.judge-requires
judge-requires c =
    patches-plain c.args.types.now c.root.ensures.sound c.args.patches.now (tree c.args.whole.now) c.requires.numbered c.requires.plain c.requires.plain_values
    (changed c.in_ok-made.made) c.in_ok-made.ensures

pub returns-clause-undone : goal.returns-clause-undone
returns-clause-undone c =
    let Judged : Outcome specs.Changed → Type 0 = λ o. Answers {T = Changed} changed c.judge.result (o >>= judged c.args.types.now) in
    undone c.args.whole.now.next (labelled c.args.whole.now.root.now) c.requires.numbered c.judge.result (list_written c.args.types.now c.args.patches.now (tree c.args.whole.now))
    (subst Judged (sym c.in_ok-made.ensures) c.judge.ensures.outcome)
    (list-keeps c.args.types.now c.root.ensures.sound c.args.patches.now (tree c.args.whole.now) c.requires.numbered c.requires.plain c.requires.plain_values)

pub returns-clause-numbered : goal.returns-clause-numbered
returns-clause-numbered c =
    let Judged : Outcome specs.Changed → Type 0 = λ o. Answers {T = Changed} changed c.judge.result (o >>= judged c.args.types.now) in
    numbered c.args.whole.now.next (labelled c.args.whole.now.root.now) c.requires.numbered c.judge.result (list_written c.args.types.now c.args.patches.now (tree c.args.whole.now))
    (subst Judged (sym c.in_ok-made.ensures) c.judge.ensures.outcome)
    (list-keeps c.args.types.now c.root.ensures.sound c.args.patches.now (tree c.args.whole.now) c.requires.numbered c.requires.plain c.requires.plain_values)

pub returns-clause-plain : goal.returns-clause-plain
returns-clause-plain c =
    let Judged : Outcome specs.Changed → Type 0 = λ o. Answers {T = Changed} changed c.judge.result (o >>= judged c.args.types.now) in
    plain c.args.whole.now.next (labelled c.args.whole.now.root.now) c.requires.numbered c.judge.result (list_written c.args.types.now c.args.patches.now (tree c.args.whole.now))
    (subst Judged (sym c.in_ok-made.ensures) c.judge.ensures.outcome)
    (list-keeps c.args.types.now c.root.ensures.sound c.args.patches.now (tree c.args.whole.now) c.requires.numbered c.requires.plain c.requires.plain_values)

pub returns-clause-later : goal.returns-clause-later
returns-clause-later c =
    let Judged : Outcome specs.Changed → Type 0 = λ o. Answers {T = Changed} changed c.judge.result (o >>= judged c.args.types.now) in
    later c.args.whole.now.next (labelled c.args.whole.now.root.now) c.requires.numbered c.judge.result (list_written c.args.types.now c.args.patches.now (tree c.args.whole.now))
    (subst Judged (sym c.in_ok-made.ensures) c.judge.ensures.outcome)
    (list-keeps c.args.types.now c.root.ensures.sound c.args.patches.now (tree c.args.whole.now) c.requires.numbered c.requires.plain c.requires.plain_values)
