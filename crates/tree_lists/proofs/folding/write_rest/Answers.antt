use Rattle.std.proofs.Common.{List, Err, ◌+◌, drop, ap, subst, ◌∙◌}
use Rattle.std.proofs.lemmas.Result.{err_from_is_err_and}
use Rattle.patch_core.specs.declared.patch.Patch.{Patch}
use Rattle.type_core.specs.Making.{Outcome}
use Rattle.tree_core.specs.declared.changed.Changed.{Changed}
use Rattle.tree_core.specs.Changed as specs
use Rattle.tree_core.specs.Answers.{Answers}
use Rattle.tree_core.specs.Written.{changed}
use Rattle.tree_lists.specs.Folding.{rest_written}
use Rattle.tree_lists.proofs.OneByOne.{answers-next, next-of, next-written}
use Rattle.tree_lists.proofs.folding.write_rest.Goals as goal

pub returns-in_err-next : goal.returns-in_err-next
returns-in_err-next c =
    let p = err_from_is_err_and c.from_residual.result c.from_residual.ensures.1 in
    let made : specs.Changed = changed c.loop-patch.made in
    let Of : List Patch → Type 0 = λ ps. Answers {T = Changed} changed (Err c.in_err-next.field-0.0) (rest_written c.args.types.now ps made) in
    let In : Outcome specs.Changed → Type 0 = λ o. Answers {T = Changed} changed (Err c.in_err-next.field-0.0) o in
    rw (p.1, p.2)
    (subst In c.loop-patch.invariant
    (subst Of (next-of c.args.patches.now c.loop-patch.patch-index c.patch-item.result c.loop-patch-test.true c.patch-item.is)
    (answers-next c.args.types.now c.patch-item.result (drop (c.loop-patch.patch-index + 1) c.args.patches.now) made c.in_err-next.field-0.0 c.in_err-next.ensures)))

pub loop-patch-preserved : goal.loop-patch-preserved
loop-patch-preserved c =
    let made : specs.Changed = changed c.loop-patch.made in
    let behind : List Patch = drop (c.loop-patch.patch-index + 1) c.args.patches.now in
    ap (rest_written c.args.types.now behind) c.in_ok-made.ensures
    ∙ next-written c.args.types.now c.patch-item.result behind made (changed c.in_ok-next.next) c.in_ok-next.ensures
    ∙ ap (λ ps. rest_written c.args.types.now ps made) (next-of c.args.patches.now c.loop-patch.patch-index c.patch-item.result c.loop-patch-test.true c.patch-item.is)
    ∙ c.loop-patch.invariant
