-- A schema with plain constants behaves plainly.
use Rattle.std.proofs.Common.{ℕ, zero, suc, List, [], ◌∷◌, map, Bool, true, false, Option, Some}
use Rattle.std.specs.Prelude.{All, IfSome, if◌then◌else◌}
use Rattle.std.specs.List.{find}
use Rattle.std.specs.Str.{bytes_eq}
use Rattle.std.proofs.lemmas.List.Elements.{All-nil, All-head, All-tail, All-map}
use Rattle.snap_core.specs.declared.number.ModelNo.{ModelNo}
use Rattle.model_syntax.specs.Shown.{ShownAction, ShownBehaviour}
use Rattle.expr_core.specs.Numbers.{parts_of}
use Rattle.expr_core.specs.Plain.{HasPlainAction, HavePlainActions}
use Rattle.expr_core.specs.Schema.{views_in}
use Rattle.schema_views.proofs.PlainBodies.{bodies-plain}
use Rattle.action_laws.specs.Schemas.{action_by, SchemasBehavePlainly}

either : {A : Type 0} (P : A → Type 0) (b : Bool) (x : A) (rest : Option A) → P x → IfSome rest P → IfSome (if b then Some x else rest) P
either P true x rest h g = h
either P false x rest h g = g

-- what is found among parts of which a fact holds
found : {A : Type 0} (P : A → Type 0) (test : A → Bool) (xs : List A) → All P xs → IfSome (find test xs) P
found P test [] all = tt
found P test (x ∷ xs) all = either P (test x) x (find test xs) (All-head P x xs all) (found P test xs (All-tail P x xs all))

-- the parts of one model
of-model : {A : Type 0} (P : A → Type 0) (lists : List (List A)) (m : ℕ) → All (All P) lists → All P (parts_of lists m)
of-model P [] m all = All-nil P
of-model P (xs ∷ lists) zero all = All-head (All P) xs lists all
of-model P (xs ∷ lists) (suc m) all = of-model P lists m (All-tail (All P) xs lists all)

action-plain : (behaviours : List ShownBehaviour) → HavePlainActions behaviours → (m : ModelNo) (name : List ℕ) → IfSome (action_by behaviours m name) HasPlainAction
action-plain behaviours all m name =
    found HasPlainAction (λ (a : ShownAction). bytes_eq name a.name) (parts_of (map (λ (b : ShownBehaviour). b.actions) behaviours) m.0)
    (of-model HasPlainAction (map (λ (b : ShownBehaviour). b.actions) behaviours) m.0 (All-map (All HasPlainAction) (λ (b : ShownBehaviour). b.actions) behaviours all))

pub schemas-plain : SchemasBehavePlainly
schemas-plain types behaviours sound views actions =
    record { sound = sound; views = bodies-plain types (views_in behaviours) views; actions = action-plain behaviours actions }
