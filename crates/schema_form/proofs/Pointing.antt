-- Properties by their model and their index.
use Rattle.std.proofs.Common.{◌≡◌, ℕ, zero, suc, ◌<◌, List, [], ◌∷◌, length, Option, Some, None, slice_get, refl, arith}
use Rattle.std.proofs.lemmas.Option.{slice_get_within}
use Rattle.schema_form.specs.declared.form.ModelForm.{ModelForm}
use Rattle.schema_form.specs.Pointers.{HasProperty, HasAction}

by_model : (models : List ModelForm) (m i : ℕ) (o : Option ModelForm) → slice_get models m ≡ o → HasProperty o i → m < length models
by_model models m i (Some model) is has = slice_get_within models m model is
by_model models m i None is has = absurd has

pub has-model : (models : List ModelForm) (m i : ℕ) → HasProperty (slice_get models m) i → m < length models
has-model models m i has = by_model models m i (slice_get models m) refl has

by_action : (models : List ModelForm) (m i : ℕ) (o : Option ModelForm) → slice_get models m ≡ o → HasAction o i → m < length models
by_action models m i (Some model) is has = slice_get_within models m model is
by_action models m i None is has = absurd has

pub has-model-action : (models : List ModelForm) (m i : ℕ) → HasAction (slice_get models m) i → m < length models
has-model-action models m i has = by_action models m i (slice_get models m) refl has

pub some-at : {A : Type 0} (xs : List A) (i : ℕ) → i < length xs → (x : A) × (slice_get xs i ≡ Some x)
some-at [] i within = absurd (omega arith)
some-at (x ∷ xs) zero within = (x, refl)
some-at (x ∷ xs) (suc i) within = some-at xs i (omega arith)
