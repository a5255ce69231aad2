-- Copying plain answers one after the other, and what is left of answers.
use Rattle.std.proofs.Common.{◌≡◌, ℕ, zero, suc, List, [], ◌∷◌, ◌++◌, ◌<◌, ◌≤◌, ◌+◌, length, get_or, drop, drop-cons, add-one, Bool, true, false, is_some, Option, Some, None, refl, sym, ap, ◌∙◌, subst, if◌then◌else◌}
use Rattle.std.specs.Prelude.{slice_get}
use Rattle.std.specs.Option.{option_map, option_and_then}
use Rattle.std.proofs.lemmas.List.{drop_all}
use Rattle.snap_core.specs.Value.{Value, Items, no_parts, part}
use Rattle.snap_core.specs.declared.snap.Snap.{Snap}
use Rattle.snap_core.specs.View.{view, items_view}
use Rattle.edit_core.specs.Labelled as edits
use Rattle.node_core.specs.declared.labelled.Labelled.{Labelled}
use Rattle.node_core.specs.View.{labelled, items}
use Rattle.eval_core.specs.Answer.{Answer, AnswerList, answer}
use Rattle.answer_ops.specs.declared.value.Value as coded
use Rattle.answer_ops.specs.View.{answer_of, answers_of}
use Rattle.answer_writing.specs.Taking.{Aim, plain_in, plains_in}

-- the answers that are left begin with the one at the index
pub left : (xs : List coded.Value) (i : ℕ) (x : coded.Value) → i < length xs → x ≡ get_or xs i x
    → answers_of (drop i xs) ≡ answer (answer_of x) (answers_of (drop (i + 1) xs))
left xs i x within here = ap answers_of (whole within)
  where
    whole : i < length xs → drop i xs ≡ x ∷ drop (i + 1) xs
    whole within = rw (add-one, drop-cons xs i x, ← here)

-- plain values in front of what follows
abbrev pub one_before : Value → Option Items → Option Items
one_before v rest = option_map (λ ps. part v ps) rest

abbrev pub plain_before : List Snap → Option Items → Option Items
plain_before [] rest = rest
plain_before (s ∷ ss) rest = one_before (view s) (plain_before ss rest)

pub before-push : (ss : List Snap) (s : Snap) (rest : Option Items) → plain_before (ss ++ s ∷ []) rest ≡ plain_before ss (one_before (view s) rest)
before-push [] s rest = refl
before-push (r ∷ ss) s rest = ap (one_before (view r)) (before-push ss s rest)

pub before-all : (ss : List Snap) → plain_before ss (Some no_parts) ≡ Some (items_view ss)
before-all [] = refl
before-all (s ∷ ss) = ap (one_before (view s)) (before-all ss)

-- the first plain value, in front of the others
pub first-plain : (x : Answer) (xs : AnswerList) (v : Value) → plain_in x ≡ Some v → plains_in (answer x xs) ≡ one_before v (plains_in xs)
first-plain x xs v e = ap (λ (o : Option Value). option_and_then (λ w. option_map (λ qs. part w qs) (plains_in xs)) o) e

module _ (xs : List coded.Value) (i : ℕ) (made : List Snap) (so_far : plain_before made (plains_in (answers_of (drop i xs))) ≡ plains_in (answers_of xs)) where
  -- after the last one they are all
  pub all-copied : length xs ≤ i → plains_in (answers_of xs) ≡ Some (items_view made)
  all-copied past =
      let P : List coded.Value → Type 0 = λ ys. plain_before made (plains_in (answers_of ys)) ≡ plains_in (answers_of xs) in
      sym (subst P (drop_all i xs past) so_far) ∙ before-all made

  module _ (x : coded.Value) (within : i < length xs) (here : x ≡ get_or xs i x) (s : Snap) (copied : plain_in (answer_of x) ≡ Some (view s)) where
    split : plains_in (answers_of (drop i xs)) ≡ one_before (view s) (plains_in (answers_of (drop (i + 1) xs)))
    split = ap plains_in (left xs i x within here) ∙ first-plain (answer_of x) (answers_of (drop (i + 1) xs)) (view s) copied

    pub one-copied : plain_before (made ++ s ∷ []) (plains_in (answers_of (drop (i + 1) xs))) ≡ plains_in (answers_of xs)
    one-copied = before-push made s (plains_in (answers_of (drop (i + 1) xs))) ∙ ap (plain_before made) (sym split) ∙ so_far

    pub still-plain : is_some (plains_in (answers_of (drop i xs))) ≡ true → is_some (plains_in (answers_of (drop (i + 1) xs))) ≡ true
    still-plain h = same (plains_in (answers_of (drop (i + 1) xs))) ∙ sym (ap is_some split) ∙ h
      where
        same : (o : Option Items) → is_some o ≡ is_some (one_before (view s) o)
        same None = refl
        same (Some ps) = refl

-- what stands at an index is first of what is left
pub held_left : (held : List Labelled) (i : ℕ) → slice_get (drop i (items held)) 0 ≡ option_map labelled (slice_get held i)
held_left [] zero = refl
held_left [] (suc i) = refl
held_left (x ∷ xs) zero = refl
held_left (x ∷ xs) (suc i) = held_left xs i

pub held-aim : (aim : Aim) (t : ℕ) (b : Bool) (o p : Option edits.Labelled) → aim ≡ (if b then record { type = t; held = None } else record { type = t; held = o })
    → b ≡ false → o ≡ p → aim ≡ record { type = t; held = p }
held-aim aim t b o p e f g =
    let At : Bool → Option edits.Labelled → Aim = λ c q. if c then record { type = t; held = None } else record { type = t; held = q } in
    e ∙ ap (λ (c : Bool). At c o) f ∙ ap (At false) g
