use Rattle.std.proofs.Common.{◌≡◌, ap, ◌∙◌, subst}
use Rattle.type_table.specs.Table.{Table, Catalog}
use Rattle.type_core.specs.Sound.{IsSound}
use Rattle.type_core.proofs.Sound.{IsShapeOf-shape}
use Rattle.type_core.proofs.types.Types.shape.Goals as goal

pub returns-clause-names : goal.returns-clause-names
returns-clause-names c =
    let types = c.args.self.now in
    let same : c.as_slice.result.now ≡ types.table.shapes =
    c.as_slice.ensures ∙ ap (λ (t : Table). t.shapes) (c.behind-self.view_is ∙ c.table.ensures) ∙ ap (λ (x : Catalog). x.table.shapes) c.self.view_is in
    rw (c.index-as_slice-t.is, same) (IsShapeOf-shape types c.args.t.0 c.index-as_slice-t.result (subst IsSound c.self.view_is c.self.invariant) c.requires)
