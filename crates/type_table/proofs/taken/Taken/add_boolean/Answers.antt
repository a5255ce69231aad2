use Rattle.std.proofs.Common.{[], ◌∷◌, ◌∙◌, refl, true}
use Rattle.snap_core.specs.Value.{boolean}
use Rattle.type_table.specs.ScalarSets.{has}
use Rattle.type_table.proofs.TakenLemmas.{AreTaken-these, more-one}
use Rattle.type_table.proofs.taken.Taken.add_boolean.Goals as goal

pub returns : goal.returns
returns c = λ taken.
    let old = c.args.self.now in
    AreTaken-these old (record old { each = c.insert_boolean.new.self; some_boolean = true }) (boolean c.args.b ∷ []) taken
    (record {
      each = λ v. c.insert_boolean.ensures v ∙ more-one v (boolean c.args.b) (has old.each v);
      all_texts = refl;
      all_integers = refl;
      all_booleans = refl;
      text = refl;
      integer = refl;
      boolean = refl;
    })
