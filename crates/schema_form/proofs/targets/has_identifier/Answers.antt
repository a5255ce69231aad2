use Rattle.std.proofs.Common.{◌||◌, ◌+◌, drop, sym, ◌∙◌, ap}
use Rattle.snap_core.specs.View.{fields_view}
use Rattle.schema_form.specs.Targets.{has_identifier}
use Rattle.schema_form.proofs.Ahead.{fields-ahead, fields-end}
use Rattle.schema_form.proofs.targets.has_identifier.Goals as goal

pub returns-then-says_identifier : goal.returns-then-says_identifier
returns-then-says_identifier c =
    let rest = has_identifier (fields_view (drop (c.loop-property.property-index + 1) c.args.properties.now)) in
    sym (c.loop-property.invariant ∙ ap has_identifier (fields-ahead c.args.properties.now c.loop-property.property-index c.property-item.result c.loop-property-test.true c.property-item.is)
    ∙ ap (λ b. b || rest) (sym c.says_identifier.ensures ∙ c.if-says_identifier.true))

pub loop-property-preserved : goal.loop-property-preserved
loop-property-preserved c =
    let rest = has_identifier (fields_view (drop (c.loop-property.property-index + 1) c.args.properties.now)) in
    c.loop-property.invariant ∙ ap has_identifier (fields-ahead c.args.properties.now c.loop-property.property-index c.property-item.result c.loop-property-test.true c.property-item.is)
    ∙ ap (λ b. b || rest) (sym c.says_identifier.ensures ∙ c.if-says_identifier.false)

pub returns : goal.returns
returns c =
    sym (c.loop-property.invariant ∙ ap has_identifier (fields-end c.args.properties.now c.loop-property.property-index c.loop-property-test.false))
