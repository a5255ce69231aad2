use Rattle.std.proofs.Common.{[], ◌∷◌, ◌∙◌, refl}
use Rattle.snap_core.specs.Value.{null}
use Rattle.type_table.specs.ScalarSets.{has}
use Rattle.type_table.proofs.TakenLemmas.{AreTaken-these, more-one}
use Rattle.type_table.proofs.taken.Taken.add_null.Goals as goal

pub returns : goal.returns
returns c = λ taken.
    let old = c.args.self.now in
    AreTaken-these old (record old { each = c.insert_null.new.self }) (null ∷ []) taken
    (record {
      each = λ v. c.insert_null.ensures v ∙ more-one v null (has old.each v);
      all_texts = refl;
      all_integers = refl;
      all_booleans = refl;
      text = refl;
      integer = refl;
      boolean = refl;
    })
