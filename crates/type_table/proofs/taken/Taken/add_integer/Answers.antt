use Rattle.std.proofs.Common.{◌≡◌, ℤ, [], ◌∷◌, ◌||◌, ◌∙◌, refl, true, subst, w64}
use Rattle.std.proofs.lemmas.Int.{to_z-of_z}
use Rattle.snap_core.specs.Value.{integer}
use Rattle.type_table.specs.ScalarSets.{has}
use Rattle.type_table.specs.Unions.{is_same}
use Rattle.type_table.proofs.TakenLemmas.{AreTaken-these, more-one}
use Rattle.type_table.proofs.taken.Taken.add_integer.Goals as goal

pub returns : goal.returns
returns c = λ taken.
    let old = c.args.self.now in
    AreTaken-these old (record old { each = c.insert_integer.new.self; some_integer = true }) (integer c.args.n ∷ []) taken
    (record {
      each = λ v. (let P : ℤ → Type 0 = λ z. has c.insert_integer.new.self v ≡ (is_same v (integer z) || has old.each v) in
          subst P (to_z-of_z w64 c.args.n c.ranges.n) (c.in_ok-insert_integer.ensures v)) ∙ more-one v (integer c.args.n) (has old.each v);
      all_texts = refl;
      all_integers = refl;
      all_booleans = refl;
      text = refl;
      integer = refl;
      boolean = refl;
    })
