use Rattle.std.proofs.Common.{◌≡◌, ap, ◌∙◌, slice_get, subst}
use Rattle.std.specs.Option.{option_copied}
use Rattle.type_table.specs.Table.{Table, properties_of}
use Rattle.type_table.specs.Identifiers.{identifier_of}
use Rattle.type_table.specs.IdentifierPlaces.{property_kept}
use Rattle.type_table.proofs.Places.{identifier-kept}
use Rattle.type_table.proofs.table.Table.identifier.Goals as goal

pub returns : goal.returns
returns c =
    let places = c.self.inside.identifiers in
    let m = c.args.m.0 in
    let table : Table = record { shapes = c.self.inside.shapes; models = c.self.inside.models } in
    let P : Table → Type 0 = λ t. property_kept (properties_of t m) (slice_get places m) ≡ identifier_of t m in
    let kept : P table = ap (λ ps. property_kept (properties_of table m) (slice_get ps m)) c.self.invariant.1 ∙ identifier-kept table m in
    c.property_kept.ensures ∙ ap (λ ps. property_kept ps (option_copied c.get.result)) c.properties.ensures
    ∙ ap (property_kept (properties_of c.args.self.now m)) c.get.ensures ∙ subst P c.self.view_is kept
