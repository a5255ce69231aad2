-- The closure compares a part's name with the name that is looked for.
use Rattle.std.proofs.Common.{◌∙◌, rules}
use Rattle.std.proofs.lemmas.Fn.{always_returns_same}
use Rattle.snap_core.proofs.Finding.{key_cmp}
use Rattle.expr_core.proofs.Names.{searched}
use Rattle.expr_core.proofs.named.position.Goals as goal

pub returns : goal.returns
returns g c =
    let facts = c.binary_search_by.ensures in
    let by_name = facts.position (λ part. key_cmp (g.T.Named.name_of part) c.args.name.now) (always_returns_same _ _ _ (λ a r f called. (search rules, search rules))) in
    c.ok.ensures.value ∙ searched g.T.Named.name_of c.args.name.now c.args.parts.now c.binary_search_by.result c.requires facts.bound by_name
