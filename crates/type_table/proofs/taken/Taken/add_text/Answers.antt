use Rattle.std.proofs.Common.{[], ◌∷◌, ◌∙◌, refl, true}
use Rattle.snap_core.specs.Value.{text}
use Rattle.type_table.specs.ScalarSets.{has}
use Rattle.type_table.proofs.TakenLemmas.{AreTaken-these, more-one}
use Rattle.type_table.proofs.taken.Taken.add_text.Goals as goal

pub returns : goal.returns
returns c = λ taken.
    let old = c.args.self.now in
    AreTaken-these old (record old { each = c.insert_text.new.self; some_text = true }) (text c.args.given.now ∷ []) taken
    (record {
      each = λ v. c.in_ok-insert_text.ensures v ∙ more-one v (text c.args.given.now) (has old.each v);
      all_texts = refl;
      all_integers = refl;
      all_booleans = refl;
      text = refl;
      integer = refl;
      boolean = refl;
    })
