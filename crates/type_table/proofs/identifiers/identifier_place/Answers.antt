use Rattle.std.proofs.Common.{sym, ◌∙◌}
use Rattle.type_table.specs.Identifiers.{identifies}
use Rattle.type_table.proofs.Places.{position-found, position-further, position-none}
use Rattle.type_table.proofs.identifiers.identifier_place.Goals as goal

pub returns-then-identifies : goal.returns-then-identifies
returns-then-identifies c = λ models.
    position-found (identifies (record { shapes = c.args.shapes.now; models = models })) c.args.properties.now c.loop-place.place c.index-properties-place.result
    c.loop-place-test.true c.index-properties-place.is (sym (c.identifies.ensures models) ∙ c.if-identifies.true) (c.loop-place.invariant models)

pub loop-place-preserved : goal.loop-place-preserved
loop-place-preserved c = λ models.
    position-further (identifies (record { shapes = c.args.shapes.now; models = models })) c.args.properties.now c.loop-place.place c.index-properties-place.result
    c.index-properties-place.is c.loop-place-test.true (sym (c.identifies.ensures models) ∙ c.if-identifies.false) (c.loop-place.invariant models)

pub returns : goal.returns
returns c = λ models.
    position-none (identifies (record { shapes = c.args.shapes.now; models = models })) c.args.properties.now c.loop-place.place c.loop-place-test.false
    (c.loop-place.invariant models)
