-- What is kept so that a number leads to its part at once.
use Rattle.std.specs.Prelude.{◌≡◌, ℕ, zero, suc, List, [], ◌∷◌, ◌++◌, length, map, All}
use Rattle.std.specs.List.{fold}
use Rattle.model_syntax.specs.Shown.{behaviour_shown, IsInOrder}
use Rattle.model_syntax.specs.declared.behaviour.Behaviour.{Behaviour}
use Rattle.expr_core.specs.Plain.{HavePlainConstants, HavePlainActions, HavePlainConditions}
use Rattle.expr_core.specs.declared.numbering.Place.{Place}
use Rattle.expr_core.specs.declared.numbering.Numbering.{Numbering}

-- the places of a model's first parts
abbrev pub own_places : ℕ → ℕ → List Place
own_places model zero = []
own_places model (suc n) = own_places model n ++ record { model = model; at = n } ∷ []

-- one model more, with so many parts
abbrev pub added : Numbering → ℕ → Numbering
added n count = record { starts = n.starts ++ length n.places ∷ []; places = n.places ++ own_places (length n.starts) count }

-- the numbering of the parts in these lists
abbrev pub numbering_of : {A : Type 0} → List (List A) → Numbering
numbering_of lists = fold (λ n parts. added n (length parts)) (record { starts = []; places = [] }) lists

-- the names of each model are in order, the constants in views, actions and conditions are plain, and the views and the actions of all models are numbered
pub record IsIndexed (behaviours : List Behaviour) (of_views of_actions : Numbering) : Type 0 where
  pub ordered : All (λ b. IsInOrder (behaviour_shown b)) behaviours
  pub plain : HavePlainConstants (map (λ b. (behaviour_shown b).views) behaviours)
  pub plain_actions : HavePlainActions (map behaviour_shown behaviours)
  pub plain_conditions : HavePlainConditions (map behaviour_shown behaviours)
  pub views : of_views ≡ numbering_of (map (λ b. (behaviour_shown b).views) behaviours)
  pub actions : of_actions ≡ numbering_of (map (λ b. (behaviour_shown b).actions) behaviours)
