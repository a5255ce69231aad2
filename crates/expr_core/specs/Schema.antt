-- What a schema holds, and what its views and actions are by their numbers.
use Rattle.std.specs.Prelude.{ℕ, List, length, map, slice_get, Option, option_map}
use Rattle.snap_core.specs.declared.number.ModelNo.{ModelNo}
use Rattle.expr_syntax.specs.declared.number.ViewNo.{ViewNo}
use Rattle.expr_syntax.specs.declared.number.ActionNo.{ActionNo}
use Rattle.model_syntax.specs.declared.behaviour.Behaviour.{Behaviour}
use Rattle.model_syntax.specs.Shown.{ShownView, ShownAction, ShownMiddleware, ShownBehaviour, behaviour_shown}
use Rattle.type_table.specs.Table.{Catalog}
use Rattle.expr_core.specs.Numbers.{joined, parts_of, number_of}

-- the types, how many changes a document's history keeps, and what each model has beside its properties
pub record Schema : Type 0 where
  pub types : Catalog
  pub history : ℕ
  pub behaviours : List Behaviour

-- what each model has beside its properties, as contracts see it
abbrev pub behaviours_shown : Schema → List ShownBehaviour
behaviours_shown s = map behaviour_shown s.behaviours

-- the views of each model, by what each model has
abbrev pub views_in : List ShownBehaviour → List (List ShownView)
views_in behaviours = map (λ b. b.views) behaviours

-- the views of each model
abbrev pub views_of : Schema → List (List ShownView)
views_of s = map (λ b. (behaviour_shown b).views) s.behaviours

abbrev pub view_count : Schema → ℕ
view_count s = length (joined (views_of s))

-- the view of a number, if there is one
abbrev pub view_at : Schema → ViewNo → Option ShownView
view_at s v = slice_get (joined (views_of s)) v.0

-- the number of a model's view of this name, if the model has one
abbrev pub numbered_view : List (List ShownView) → ModelNo → List ℕ → Option ViewNo
numbered_view views m name = option_map (λ number. record { 0 = number }) (number_of (λ v. v.name) views m.0 name)

abbrev pub view_no : Schema → ModelNo → List ℕ → Option ViewNo
view_no s m name = numbered_view (views_of s) m name

-- the actions of each model
abbrev pub actions_of : Schema → List (List ShownAction)
actions_of s = map (λ b. (behaviour_shown b).actions) s.behaviours

abbrev pub action_count : Schema → ℕ
action_count s = length (joined (actions_of s))

-- the action of a number, if there is one
abbrev pub action_at : Schema → ActionNo → Option ShownAction
action_at s a = slice_get (joined (actions_of s)) a.0

-- the number of a model's action of this name, if the model has one
abbrev pub action_no : Schema → ModelNo → List ℕ → Option ActionNo
action_no s m name = option_map (λ number. record { 0 = number }) (number_of (λ a. a.name) (actions_of s) m.0 name)

-- the middleware of a model; none where there is no such model
abbrev pub middleware_of : Schema → ModelNo → List ShownMiddleware
middleware_of s m = parts_of (map (λ b. (behaviour_shown b).middleware) s.behaviours) m.0
