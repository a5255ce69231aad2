use Rattle.patch_core.proofs.InPlace.{found, field_replaced}
use Rattle.patch_core.proofs.fields.replace_field.Goals as goal

pub returns-in_ok-set_value-in-Some-clause-outcome : goal.returns-in_ok-set_value-in-Some-clause-outcome
returns-in_ok-set_value-in-Some-clause-outcome c =
    let f = found c.args.key.now c.args.fields.now c.as_slice.result.now c.in-Some.at c.as_slice.ensures c.in-Some.ensures.within c.in-Some.ensures.key c.in-Some.ensures.found in
    field_replaced c.args.key.now c.args.value.now c.args.fields.now c.set_value.new.fields c.in-Some.at c.requires f c.in_ok-set_value-in-Some.ensures.ok
