use Rattle.std.proofs.Common.{[], ◌∷◌, ◌++◌, ◌+◌, decimal, not, drop, refl, sym, ◌∙◌, ap}
use Rattle.snap_core.specs.View.{items_view}
use Rattle.pointer_core.specs.declared.schema_rule.SchemaRule.TheVariants.{Shape, Twice}
use Rattle.schema_form.specs.Faults.{here, unless, under, is_among, texts_faults}
use Rattle.schema_form.specs.Layout.{texts_in}
use Rattle.schema_form.proofs.Finding.{tells-here, Finds-ahead, Finds-equal, rest_has_all}
use Rattle.schema_form.proofs.Laying.{pushed-step}
use Rattle.schema_form.proofs.Texts.{texts-step, texts_in-step, texts-other}
use Rattle.schema_form.proofs.enumerations.read_each.Goals as goal

pub returns-in_default-clause-finds : goal.returns-in_default-clause-finds
returns-in_default-clause-finds c =
    let items = c.args.items.now in
    let i = c.loop-index.index in
    let earlier = c.loop-index.invariant.0 in
    let one = under (decimal i) (here Shape) in
    let rest = texts_faults earlier (i + 1) (items_view (drop (i + 1) items)) in
    Finds-equal c.at_index.result (one ++ rest) (texts_faults [] 0 (items_view items))
    (c.loop-index.invariant.2 ∙ texts-other earlier items i c.index-items-index.result c.loop-index-test.true c.index-items-index.is c.in_default.ensures)
    (Finds-ahead c.at_index.result one rest (λ e. cc)
    (c.at_index.ensures.finds (here Shape) (tells-here c.wrong.result Shape (here Shape) c.wrong.ensures refl)))

pub loop-index-preserved : goal.loop-index-preserved
loop-index-preserved c =
    let items = c.args.items.now in
    let i = c.loop-index.index in
    let so_far = c.loop-index.invariant in
    let word = c.in-Some.text in
    let added = c.in_ok-is_new.ensures so_far.0 so_far.1 in (
      word.now ∷ so_far.0,
      added.1,
      rest_has_all (under (decimal i) (unless (not (is_among so_far.0 word.now)) Twice)) (texts_faults (word.now ∷ so_far.0) (i + 1) (items_view (drop (i + 1) items))) (texts_faults [] 0 (items_view items))
          (so_far.2 ∙ texts-step so_far.0 items i c.index-items-index.result c.loop-index-test.true c.index-items-index.is word.now c.in-Some.ensures)
          (ap (λ b. under (decimal i) (unless b Twice)) (sym added.0 ∙ c.if-not-branch.false)),
      pushed-step c.loop-index.texts c.push.new.self (texts_in (items_view items)) word.now (texts_in (items_view (drop (i + 1) items)))
          (so_far.3 ∙ ap (λ ws. c.loop-index.texts ++ ws) (texts_in-step so_far.0 items i c.index-items-index.result c.loop-index-test.true c.index-items-index.is word.now c.in-Some.ensures))
          (c.in_ok-push.ensures.ok ∙ ap (λ w. c.loop-index.texts ++ w ∷ []) c.in_ok-copy.ensures),
    )
