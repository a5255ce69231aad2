use Rattle.std.proofs.Common.{Ok, ap}
use Rattle.patch_core.proofs.InPlace.{found, field_put}
use Rattle.patch_core.proofs.fields.add_field.Goals as goal

pub returns-in_ok-set_value-in-Ok-clause-outcome : goal.returns-in_ok-set_value-in-Ok-clause-outcome
returns-in_ok-set_value-in-Ok-clause-outcome c =
    let f = found c.args.key.now c.args.fields.now c.as_slice.result.now c.in-Ok.at c.as_slice.ensures c.in-Ok.ensures.within c.in-Ok.ensures.key c.in-Ok.ensures.found in
    ap Ok (field_put c.args.key.now c.args.value.now c.args.fields.now c.set_value.new.fields c.in-Ok.at c.requires f c.in_ok-set_value-in-Ok.ensures.ok)
