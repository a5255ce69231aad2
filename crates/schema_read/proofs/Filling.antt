-- A draft gets its models, and its types their shapes, last one first.
use Rattle.std.proofs.Common.{◌≡◌, ◌≤◌, ◌+◌, ℕ, zero, suc, ◌<◌, List, [], ◌∷◌, ◌++◌, length, map, get_or, take, drop, replicate, slice_set, Option, Some, None, All, refl, sym, ap, ◌∙◌, subst, append_assoc, arith, length-append, drop-cons}
use Rattle.std.specs.Prelude.{IsSome}
use Rattle.std.proofs.lemmas.List.{map-append}
use Rattle.std.proofs.lemmas.List.Elements.{All-tail}
use Rattle.snap_core.specs.declared.number.ModelNo.{ModelNo}
use Rattle.type_table.specs.declared.shape.Shape.{Shape}
use Rattle.type_table.specs.declared.shape.Shape.TheVariants as shape
use Rattle.type_table.specs.declared.shape.ModelType.{ModelType}
use Rattle.type_table.specs.Table.{Plan}
use Rattle.schema_form.specs.declared.form.ModelForm.{ModelForm}
use Rattle.schema_read.specs.Types.{own_shapes, models_from}
use Rattle.schema_read.specs.Assembly.{IsFit}

-- the last of the types that have no shape gets one
defined_last : {X : Type 0} (all : List (Option X)) (n : ℕ) (x : Option X) → take (suc n) all ≡ replicate (suc n) None
    → (take n (slice_set all n x) ≡ replicate n None) × (drop n (slice_set all n x) ≡ x ∷ drop (suc n) all)
defined_last [] n x h = cc
defined_last (y ∷ all) zero x h = (refl, refl)
defined_last (y ∷ all) (suc n) x h =
    let rest : take (suc n) all ≡ replicate (suc n) None = cc in
    let first : y ≡ None = cc in
    let e = defined_last all n x rest in
    (ap (λ z. z ∷ take n (slice_set all n x)) first ∙ ap (λ zs. None ∷ zs) e.0, e.1)

-- one shape less is left
pub define_step : {K : Type 0} (f : K → Shape) (left new : List K) (k : K) (old : List (Option Shape)) → left ≡ new ++ k ∷ []
    → take (length left) old ≡ replicate (length left) None
    → (take (length new) (slice_set old (length new) (Some (f k))) ≡ replicate (length new) None)
    × (map Some (map f new) ++ drop (length new) (slice_set old (length new) (Some (f k))) ≡ map Some (map f left) ++ drop (length left) old)
define_step {K} f left new k old is undefined =
    let s : Shape = f k in
    let longer : length left ≡ suc (length new) = ap length is ∙ omega (arith, length-append new (k ∷ [])) in
    let e = defined_last old (length new) (Some s) (rw longer at undefined) in
    let shapes : map f left ≡ map f new ++ s ∷ [] = ap (map f) is ∙ map-append f new (k ∷ []) in
    let mapped : map Some (map f left) ≡ map Some (map f new) ++ Some s ∷ [] = ap (map Some) shapes ∙ map-append Some (map f new) (s ∷ []) in (
      e.0,
      ap (λ zs. map Some (map f new) ++ zs) (e.1 ∙ ap (λ n. Some s ∷ drop n old) (sym longer))
          ∙ sym (append_assoc (map Some (map f new)) (Some s ∷ []) (drop (length left) old))
          ∙ ap (λ zs. zs ++ drop (length left) old) (sym mapped),
    )

pub All-IsSome : {X : Type 0} (xs : List X) → All IsSome (map Some xs)
All-IsSome [] k d h = absurd (omega arith)
All-IsSome (x ∷ xs) zero d h = refl
All-IsSome (x ∷ xs) (suc k) d h = All-IsSome xs k d (omega arith)

-- what is left begins with the next one
pub drop-next : {X : Type 0} (xs : List X) (i : ℕ) (x : X) → i < length xs → x ≡ get_or xs i x → drop i xs ≡ x ∷ drop (i + 1) xs
drop-next xs i x lt is =
    let next : suc i ≡ i + 1 = omega arith in
    drop-cons xs i x lt ∙ ap (λ y. y ∷ drop (suc i) xs) (sym is) ∙ ap (λ n. x ∷ drop n xs) next

-- one model more
pub add_step : (count : ℕ) (old new : Plan) (model : ModelForm) (m : ModelNo) (left rest : List ModelForm) → left ≡ model ∷ rest
    → All (IsFit count) left → m.0 ≡ length old.models
    → new.models ≡ old.models ++ record { name = model.name; properties = model.properties; own = record { 0 = length old.shapes } } ∷ []
    → new.shapes ≡ old.shapes ++ Some (shape.Model m) ∷ []
    → (length old.shapes ≤ length new.shapes) × All (IsFit count) rest
    × (new.shapes ++ map Some (own_shapes (length new.models) rest) ≡ old.shapes ++ map Some (own_shapes (length old.models) left))
    × (new.models ++ models_from (length new.shapes) rest ≡ old.models ++ models_from (length old.shapes) left)
add_step count old new model m left rest is known number models shapes =
    let all : All (IsFit count) (model ∷ rest) = subst (λ ms. All (IsFit count) ms) is known in
    let own : ModelType = record { name = model.name; properties = model.properties; own = record { 0 = length old.shapes } } in
    let longer : length new.shapes ≡ length old.shapes + 1 = ap length shapes ∙ length-append old.shapes (Some (shape.Model m) ∷ []) in
    let more : length new.models ≡ length old.models + 1 = ap length models ∙ length-append old.models (own ∷ []) in (
      omega (arith, longer),
      All-tail (IsFit count) model rest all,
      rw (is, shapes, more, ← number) (append_assoc old.shapes (Some (shape.Model m) ∷ []) (map Some (own_shapes (m.0 + 1) rest))),
      rw (is, longer, models) (append_assoc old.models (own ∷ []) (models_from (length old.shapes + 1) rest)),
    )
