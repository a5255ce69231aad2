-- What an operation makes of a value where it fits, by the step that its token is.
use Rattle.std.proofs.Common.{◌≡◌, ℕ, ◌+◌, ◌≤◌, ◌<◌, List, true, Some, None, Ok, refl, sym, ap, subst, arith}
use Rattle.std.specs.Prelude.{codes, nat_lt, option_and_then}
use Rattle.std.specs.Option.{option_map}
use Rattle.std.proofs.lemmas.Bool.{lt-ltb}
use Rattle.snap_core.specs.Value.{Tree, list, dict, value_at}
use Rattle.snap_core.specs.Level.{Step, at_index, at_key, count_of, child, set_child, CanInsert, insert_child, remove_child}
use Rattle.snap_core.proofs.Levels.{same_key, item_at-within}
use Rattle.pointer_core.specs.Index.{index_of}
use Rattle.patch_core.specs.Place.{step_of, part_under, index_below, new_index}
use Rattle.patch_core.specs.Application.{edited}
use Rattle.patch_core.specs.declared.patch.PatchOp.TheVariants.{Add, Replace, Remove}

-- a token is the same step after a change of one level

pub step_of-set_child : {A : Type 0} (token : List ℕ) (step : Step) (v t : Tree A) → step_of token (set_child step v t) ≡ step_of token t
step_of-set_child token (at_index i) v (list a ps) = refl
step_of-set_child token (at_key key) v (dict a ms) = refl
step_of-set_child token step v t = refl

pub step_of-insert_child : {A : Type 0} (token : List ℕ) (step : Step) (v t : Tree A) → step_of token (insert_child step v t) ≡ step_of token t
step_of-insert_child token (at_index i) v (list a ps) = refl
step_of-insert_child token (at_key key) v (dict a ms) = refl
step_of-insert_child token step v t = refl

pub step_of-remove_child : {A : Type 0} (token : List ℕ) (step : Step) (t : Tree A) → step_of token (remove_child step t) ≡ step_of token t
step_of-remove_child token (at_index i) (list a ps) = refl
step_of-remove_child token (at_key key) (dict a ms) = refl
step_of-remove_child token step t = refl

-- the step of a part that is named
pub record StepTo {A : Type 0} (token : List ℕ) (t c : Tree A) : Type 0 where
  pub step : Step
  pub is : step_of token t ≡ Some step
  pub part : child step t ≡ Some c

pub step_to : {A : Type 0} (token : List ℕ) (t c : Tree A) → part_under token t ≡ Some c → StepTo token t c
step_to {A} token t c named = elim (step_of token t) as (λ o. step_of token t ≡ o → option_and_then (λ s. child s t) o ≡ Some c → StepTo token t c) [
  | None ↦ λ is found. cc
  | Some step ↦ λ is found. record { step = step; is = is; part = found }
] refl named

pub part_under-at : {A : Type 0} (token : List ℕ) (step : Step) (t c : Tree A) → step_of token t ≡ Some step → child step t ≡ Some c → part_under token t ≡ Some c
part_under-at token step t c is found = rw is found

-- what each operation makes of one level

is_below : (i bound : ℕ) (token : List ℕ) → index_of token ≡ Some i → i < bound → index_below bound token ≡ Some i
is_below i bound token is within = let below : nat_lt i bound ≡ true = lt-ltb i bound within in rw (is, below) refl

-- a token that is an index isn't `-`
is_new : (i length : ℕ) (token : List ℕ) → index_of token ≡ Some i → i ≤ length → new_index length token ≡ Some i
is_new i length token is within = same_key token (codes "-")
    (λ same e. let none : index_of token ≡ None = ap index_of same in cc)
    (λ e. rw e (is_below i (length + 1) token is (omega arith)))

index_step : (token : List ℕ) (step : Step) → option_map at_index (index_of token) ≡ Some step → (i : ℕ) × (index_of token ≡ Some i) × (step ≡ at_index i)
index_step token step is = elim (index_of token) as (λ o. index_of token ≡ o → option_map at_index o ≡ Some step → (i : ℕ) × (index_of token ≡ Some i) × (step ≡ at_index i)) [
  | None ↦ λ e h. cc
  | Some i ↦ λ e h. let same : at_index i ≡ step = cc in (i, e, sym same)
] refl is

pub edited-add : {A : Type 0} (token : List ℕ) (step : Step) (v t : Tree A) → step_of token t ≡ Some step → CanInsert step t → edited Add token v t ≡ Ok (insert_child step v t)
edited-add {A} token step v (list a ps) is room =
    let index = index_step token step is in
    let P : Step → Type 0 = λ s. CanInsert s (list a ps) in
    rw (index.2, is_new index.0 (count_of ps) token index.1 (subst P index.2 room)) refl
edited-add {A} token step v (dict a ms) is room =
    let same : at_key token ≡ step = cc in
    let P : Step → Type 0 = λ s. CanInsert s (dict a ms) in
    let absent : value_at token ms ≡ None = subst P (sym same) room in
    rw (sym same, absent) refl
edited-add token step v t is room = cc

pub edited-replace : {A : Type 0} (token : List ℕ) (step : Step) (v t c : Tree A) → step_of token t ≡ Some step → child step t ≡ Some c → edited Replace token v t ≡ Ok (set_child step v t)
edited-replace {A} token step v (list a ps) c is held =
    let index = index_step token step is in
    let P : Step → Type 0 = λ s. child s (list a ps) ≡ Some c in
    let within = item_at-within index.0 ps c (subst P index.2 held) in
    rw (index.2, is_below index.0 (count_of ps) token index.1 within) refl
edited-replace {A} token step v (dict a ms) c is held =
    let same : at_key token ≡ step = cc in
    let P : Step → Type 0 = λ s. child s (dict a ms) ≡ Some c in
    let present : value_at token ms ≡ Some c = subst P (sym same) held in
    rw (sym same, present) refl
edited-replace token step v t c is held = cc

pub edited-remove : {A : Type 0} (token : List ℕ) (step : Step) (v t c : Tree A) → step_of token t ≡ Some step → child step t ≡ Some c → edited Remove token v t ≡ Ok (remove_child step t)
edited-remove {A} token step v (list a ps) c is held =
    let index = index_step token step is in
    let P : Step → Type 0 = λ s. child s (list a ps) ≡ Some c in
    let within = item_at-within index.0 ps c (subst P index.2 held) in
    rw (index.2, is_below index.0 (count_of ps) token index.1 within) refl
edited-remove {A} token step v (dict a ms) c is held =
    let same : at_key token ≡ step = cc in
    let P : Step → Type 0 = λ s. child s (dict a ms) ≡ Some c in
    let present : value_at token ms ≡ Some c = subst P (sym same) held in
    rw (sym same, present) refl
edited-remove token step v t c is held = cc
