use Rattle.std.proofs.Common.{List, Err, ◌-◌, length, take, drop, subst}
use Rattle.std.proofs.lemmas.Result.{err_from_is_err_and}
use Rattle.patch_core.specs.declared.patch.Patch.{Patch}
use Rattle.patch_core.specs.Application.{HasValue}
use Rattle.patch_core.specs.Printing.{HasPlainValues}
use Rattle.tree_core.specs.declared.changed.Changed.{Changed}
use Rattle.tree_core.specs.Answers.{Answers}
use Rattle.tree_core.specs.Listing.{patches_written}
use Rattle.tree_core.specs.Written.{changed, tree}
use Rattle.tree_lists.proofs.OneByOne.{answers-first, first-of, all-rest}
use Rattle.tree_lists.proofs.folding.write_patches.Goals as goal

pub returns-in_err-made-in-len1-up : goal.returns-in_err-made-in-len1-up
returns-in_err-made-in-len1-up c =
    let p = err_from_is_err_and c.from_residual-in_err-made-in-len1-up.result c.from_residual-in_err-made-in-len1-up.ensures.1 in
    let Of : List Patch → Type 0 = λ ps. Answers {T = Changed} changed (Err c.in_err-made-in-len1-up.field-0.0) (patches_written c.args.types.now ps (tree c.args.whole.now)) in
    rw (p.1, p.2)
    (subst Of (first-of c.args.patches.now c.first-item.result c.in-len1-up.len_at_least c.first-item.is)
    (answers-first c.args.types.now c.first-item.result (take (length c.args.patches.now - 1) (drop 1 c.args.patches.now)) (tree c.args.whole.now) c.in_err-made-in-len1-up.field-0.0 c.in_err-made-in-len1-up.ensures))

pub write_rest-requires-clause-values : goal.write_rest-requires-clause-values
write_rest-requires-clause-values c = all-rest HasValue c.args.patches.now c.first-item.result c.in-len1-up.len_at_least c.first-item.is c.requires.values

pub write_rest-requires-clause-plain_values : goal.write_rest-requires-clause-plain_values
write_rest-requires-clause-plain_values c = all-rest HasPlainValues c.args.patches.now c.first-item.result c.in-len1-up.len_at_least c.first-item.is c.requires.plain_values
