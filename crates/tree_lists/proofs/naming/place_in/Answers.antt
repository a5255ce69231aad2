use Rattle.std.proofs.Common.{Option, sym, ap, subst, ◌∙◌}
use Rattle.pointer_core.specs.declared.refusal.Rule.TheVariants as rule
use Rattle.node_core.specs.View.{labelled}
use Rattle.tree_core.specs.declared.place.Place.{Place}
use Rattle.tree_core.specs.Answers.{Answers}
use Rattle.tree_core.specs.Listing.{Named, named_by}
use Rattle.tree_core.specs.Outcome.{◌>>=◌, or_refuse}
use Rattle.tree_reading.proofs.Leading.{named_end}
use Rattle.tree_lists.specs.Naming.{place_by}
use Rattle.tree_lists.proofs.naming.place_in.Goals as goal

pub returns-in-len1-up : goal.returns-in-len1-up
returns-in-len1-up c =
    let Is : Option Named → Type 0 = λ named.
    Answers {T = Place} (λ place. place) c.place_by.result (or_refuse named c.args.patch.now.path rule.Path >>= (λ n. place_by c.args.patch.now n (labelled c.args.root.now))) in
    subst Is (sym (named_end c.tokens.result.now c.token-item.result c.in-len1-up.len_at_least c.token-item.is) ∙ ap named_by c.tokens.ensures) c.place_by.ensures
