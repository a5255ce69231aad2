use Rattle.std.proofs.Common.{◌≡◌, Option, IfOk, option_and_then, sym, ap, subst, ◌∙◌}
use Rattle.std.specs.Option.{option_map}
use Rattle.tree_core.specs.Listing.{Named, named_by}
use Rattle.tree_core.specs.Written.{changed, tree}
use Rattle.tree_reading.proofs.Leading.{named_end}
use Rattle.tree_lists.specs.Restoring.{Restoring, restored_by}
use Rattle.tree_lists.proofs.restoring.restore_one.Goals as goal

pub returns-in-len1-up : goal.returns-in-len1-up
returns-in-len1-up c =
    let r : Restoring = record { types = c.args.types.now; tree = tree c.args.whole.now; patch = c.args.patch.now } in
    let Is : Option Named → Type 0 = λ named. IfOk c.restore_by.result (λ found. option_map changed found ≡ option_and_then (restored_by r) named) in
    subst Is (sym (named_end c.tokens.result.now c.token-item.result c.in-len1-up.len_at_least c.token-item.is) ∙ ap named_by c.tokens.ensures) c.restore_by.ensures
