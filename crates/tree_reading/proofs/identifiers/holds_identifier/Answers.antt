use Rattle.std.proofs.Common.{◌∙◌, ap, sym}
use Rattle.std.specs.Option.{option_map}
use Rattle.type_table.specs.Identifiers.{ident_of}
use Rattle.edit_core.specs.Labelled.{bare}
use Rattle.node_core.specs.View.{fields}
use Rattle.tree_core.specs.Reading.{same_identifier}
use Rattle.tree_reading.proofs.NodeParts.{value-of-entry}
use Rattle.tree_reading.proofs.identifiers.holds_identifier.Goals as goal

pub returns-in-Some : goal.returns-in-Some
returns-in-Some c =
    c.is_identifier.ensures
    ∙ ap (λ v. same_identifier c.args.identifier.now (ident_of v)) (ap (option_map bare) c.in-Some.ensures ∙ sym (value-of-entry c.args.name.now (fields c.args.parts.now)))

pub returns-in-None : goal.returns-in-None
returns-in-None c =
    ap (λ v. same_identifier c.args.identifier.now (ident_of v)) (ap (option_map bare) c.in-None.ensures ∙ sym (value-of-entry c.args.name.now (fields c.args.parts.now)))
