use Rattle.std.proofs.Common.{◌≡◌, List, Option, map, refl, sym, ◌∙◌, ap, subst}
use Rattle.std.proofs.lemmas.List.{take_all}
use Rattle.schema_form.specs.declared.bases.Base.{Base}
use Rattle.schema_form.specs.Bases.{AreBases, ended}
use Rattle.schema_form.specs.Names.{most_names}
use Rattle.schema_form.proofs.Linking.{AreBases-ended}
use Rattle.schema_form.proofs.bases.bases_of.Goals as goal

pub returns : goal.returns
returns c =
    let links = c.deref-link-items.result.now in
    let all : c.loop-link.bases.items ≡ map ended c.in_ok-links.links.items =
    c.loop-link.invariant ∙ ap (map ended) (take_all c.loop-link.link-index links c.loop-link-test.false ∙ c.deref-link-items.ensures.value) in
    let P : List (Option Base) → Type 0 = AreBases c.args.types.now in
    subst P (sym all) (AreBases-ended c.args.types.now c.in_ok-links.links.items most_names refl c.in_ok-links.ensures)
