use Rattle.std.proofs.Common.{◌∙◌, Ok, sym, ap}
use Rattle.snap_core.specs.View.{fields_view}
use Rattle.patch_core.proofs.InPlace.{found, field_removed}
use Rattle.patch_core.proofs.fields.remove_field.Goals as goal

pub returns-in-Some-clause-outcome : goal.returns-in-Some-clause-outcome
returns-in-Some-clause-outcome c =
    let f = found c.args.key.now c.args.fields.now c.as_slice.result.now c.in-Some.at c.as_slice.ensures c.in-Some.ensures.within c.in-Some.ensures.key c.in-Some.ensures.found in
    field_removed c.args.key.now c.args.fields.now c.in-Some.at c.requires f ∙ ap (λ fs. Ok (fields_view fs)) (sym c.remove.ensures.rest)
