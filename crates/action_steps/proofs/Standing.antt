-- An action by its number is the one that is found by its name.
use Rattle.std.proofs.Common.{◌≡◌, ℕ, ◌+◌, List, length, take, Bool, true, false, Option, Some, None, slice_get, refl, sym, ◌∙◌, ap, cond, nat_lt, arith}
use Rattle.std.specs.List.{find, position, position_or_len}
use Rattle.std.specs.Option.{option_map, option_and_then}
use Rattle.std.specs.Str.{bytes_eq}
use Rattle.std.proofs.lemmas.Bool.Decides.{nat_tests}
use Rattle.std.proofs.lemmas.List.Folds.{find_at}
use Rattle.std.proofs.lemmas.Option.{slice_get_past}
use Rattle.snap_core.specs.declared.number.ModelNo.{ModelNo}
use Rattle.expr_syntax.specs.declared.number.ActionNo.{ActionNo}
use Rattle.model_syntax.specs.Shown.{ShownAction, ShownBehaviour, behaviour_shown}
use Rattle.expr_core.specs.Numbers.{joined, parts_of, number_of}
use Rattle.expr_core.specs.Schema.{Schema, behaviours_shown, actions_of, action_at, action_no}
use Rattle.expr_core.proofs.Lists.{slice_get-joined, map-map}
use Rattle.action_laws.specs.Schemas.{action_by}

-- the part of which the position is that of the first one that passes
found_at : {A : Type 0} (lists : List (List A)) (m : ℕ) (test : A → Bool)
    → option_and_then (λ at. slice_get (joined lists) (length (joined (take m lists)) + at)) (position test (parts_of lists m)) ≡ find test (parts_of lists m)
found_at {A} lists m test = by_test (nat_lt at (length parts)) refl
  where
    parts : List A
    parts = parts_of lists m

    at : ℕ
    at = position_or_len test parts

    by_test : (b : Bool) → nat_lt at (length parts) ≡ b
        → option_and_then (λ i. slice_get (joined lists) (length (joined (take m lists)) + i)) (cond b (Some at) None) ≡ find test parts
    by_test true e = slice_get-joined lists m at (grind (arith, nat_tests)) ∙ sym (find_at test parts)
    by_test false e = sym (find_at test parts ∙ slice_get_past parts at (grind (arith, nat_tests)))

moved : {A B : Type 0} (f : ℕ → B) (g : B → Option A) (o : Option ℕ) → option_and_then g (option_map f o) ≡ option_and_then (λ i. g (f i)) o
moved f g None = refl
moved f g (Some i) = refl

-- a model's action of a name, by the number that the name has
pub action-found : (s : Schema) (m : ModelNo) (name : List ℕ) → option_and_then (action_at s) (action_no s m name) ≡ action_by (behaviours_shown s) m name
action-found s m name =
    let lists : List (List ShownAction) = actions_of s in
    let test : ShownAction → Bool = λ a. bytes_eq name a.name in
    let numbered : ℕ → ActionNo = λ number. record { 0 = number } in
    moved numbered (action_at s) (number_of (λ (a : ShownAction). a.name) lists m.0 name)
    ∙ moved (λ at. length (joined (take m.0 lists)) + at) (λ i. slice_get (joined lists) i) (position test (parts_of lists m.0))
    ∙ found_at lists m.0 test
    ∙ ap (λ ls. find test (parts_of ls m.0)) (sym (map-map (λ (b : ShownBehaviour). b.actions) behaviour_shown s.behaviours))
