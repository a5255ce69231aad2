-- Where the type expressions of a form stand in the file.
use Rattle.std.specs.Prelude.{◌≡◌, ℕ, ◌<◌, List, [], ◌∷◌, ◌++◌, length, map, codes, decimal, slice_get, Option, Some, None}
use Rattle.snap_core.specs.declared.number.TypeNo.{TypeNo}
use Rattle.snap_core.specs.declared.number.ModelNo.{ModelNo}
use Rattle.type_table.specs.declared.shape.Property.{Property}
use Rattle.pointer_core.specs.Path.{Path}
use Rattle.schema_form.specs.declared.form.Entry.{Entry}
use Rattle.schema_form.specs.declared.form.EntryNo.{EntryNo}
use Rattle.schema_form.specs.declared.form.ModelForm.{ModelForm}
use Rattle.schema_form.specs.declared.form.Expression.{Expression}
use Rattle.schema_form.specs.declared.form.Holder.{Holder}
use Rattle.schema_form.specs.declared.form.Holder.TheVariants.{Maybe, MaybeNull, Array, Map}
use Rattle.schema_form.specs.declared.form.Step.{Step}
use Rattle.schema_form.specs.declared.form.Step.TheVariants.{Held, Defaulted, Refined, Member}
use Rattle.schema_form.specs.declared.form.Place.{Place}
use Rattle.schema_form.specs.declared.form.Place.TheVariants as place

-- the key of a form that holds one type
abbrev pub holder_key : Holder → List ℕ
holder_key Maybe = codes "maybe"
holder_key MaybeNull = codes "maybeNull"
holder_key Array = codes "array"
holder_key Map = codes "map"

-- the tokens that lead from a type expression to a part of it
abbrev pub step_path : Step → Path
step_path (Held h) = holder_key h ∷ []
step_path Defaulted = codes "optional" ∷ codes "0" ∷ []
step_path Refined = codes "refinement" ∷ codes "0" ∷ []
step_path (Member i) = codes "union" ∷ decimal i ∷ []

-- those that lead from the file to an entry of its types
abbrev pub entry_path : List ℕ → Path
entry_path name = codes "types" ∷ name ∷ []

-- those that lead from a model to a property of it
abbrev pub property_path : List ℕ → Path
property_path name = codes "model" ∷ codes "properties" ∷ name ∷ []

-- and those that lead from a model to the type of a parameter of an action
abbrev pub param_path : List ℕ → ℕ → Path
param_path action j = codes "model" ∷ codes "actions" ∷ action ∷ codes "params" ∷ decimal j ∷ codes "1" ∷ []

-- the places of expressions
abbrev pub places_of : List Expression → List Place
places_of expressions = map (λ e. e.place) expressions

-- the pointer from the file to the expression of a number
pub data IsPointer (entries : List Entry) (models : List ModelForm) (places : List Place) : ℕ → Path → Type 0 where
  entry : (t : ℕ) (e : EntryNo) (one : Entry) → slice_get places t ≡ Some (place.Entry e) → slice_get entries e.0 ≡ Some one
      → IsPointer entries models places t (entry_path one.name)
  property : (t : ℕ) (m : ModelNo) (i : ℕ) (model : ModelForm) (p : Property) → slice_get places t ≡ Some (place.Property m i)
      → slice_get models m.0 ≡ Some model → slice_get model.properties i ≡ Some p
      → IsPointer entries models places t (entry_path model.name ++ property_path p.name)
  param : (t : ℕ) (m : ModelNo) (i j : ℕ) (model : ModelForm) (action : List ℕ) → slice_get places t ≡ Some (place.Param m i j)
      → slice_get models m.0 ≡ Some model → slice_get model.actions i ≡ Some action
      → IsPointer entries models places t (entry_path model.name ++ param_path action j)
  part : (t : ℕ) (u : TypeNo) (step : Step) (path : Path) → slice_get places t ≡ Some (place.Part u step)
      → IsPointer entries models places u.0 path → IsPointer entries models places t (path ++ step_path step)

-- there is a property of this index
abbrev pub HasProperty : Option ModelForm → ℕ → Type 0
HasProperty (Some model) i = i < length model.properties
HasProperty None i = ⊥

-- there is an action of this index
abbrev pub HasAction : Option ModelForm → ℕ → Type 0
HasAction (Some model) i = i < length model.actions
HasAction None i = ⊥

-- an expression of number n stands in an entry or in a model, or in an expression before it
abbrev pub IsPlaceAmong : List Entry → List ModelForm → ℕ → Place → Type 0
IsPlaceAmong entries models n (place.Entry e) = e.0 < length entries
IsPlaceAmong entries models n (place.Property m i) = HasProperty (slice_get models m.0) i
IsPlaceAmong entries models n (place.Param m i j) = HasAction (slice_get models m.0) i
IsPlaceAmong entries models n (place.Part u step) = u.0 < n

abbrev pub ArePlaces : List Entry → List ModelForm → List Place → Type 0
ArePlaces entries models places = (n : ℕ) (at : Place) → slice_get places n ≡ Some at → IsPlaceAmong entries models n at
