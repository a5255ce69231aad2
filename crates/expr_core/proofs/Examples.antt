-- Numbers of views, computed: three models, of which the second has none and the others have one of the same name.
use Rattle.std.proofs.Common.{◌≡◌, ℕ, List, [], ◌∷◌, Some, None, refl}
use Rattle.std.specs.Prelude.{codes}
use Rattle.expr_core.specs.declared.numbering.Place.{Place}
use Rattle.expr_core.specs.Numbers.{number_of}
use Rattle.expr_core.specs.Numbering.{numbering_of}

-- a part of which nothing is left but its name
abbrev itself : List ℕ → List ℕ
itself name = name

abbrev some : List (List (List ℕ))
some = (codes "done" ∷ codes "size" ∷ []) ∷ [] ∷ (codes "done" ∷ []) ∷ []

abbrev place : ℕ → ℕ → Place
place model at = record { model = model; at = at }

first_model : number_of itself some 0 (codes "done") ≡ Some 0
first_model = refl

second_name : number_of itself some 0 (codes "size") ≡ Some 1
second_name = refl

-- the number of the first model's view of that name is another
last_model : number_of itself some 2 (codes "done") ≡ Some 2
last_model = refl

no_views : number_of itself some 1 (codes "done") ≡ None
no_views = refl

no_such_name : number_of itself some 2 (codes "size") ≡ None
no_such_name = refl

no_such_model : number_of itself some 3 (codes "done") ≡ None
no_such_model = refl

-- a model without views starts where the next one does
kept : numbering_of some ≡ record { starts = 0 ∷ 2 ∷ 2 ∷ []; places = place 0 0 ∷ place 0 1 ∷ place 2 0 ∷ [] }
kept = refl
