-- What is made of several answers, by the elements of a loop over a copy of them.
use Rattle.std.proofs.Common.{◌≡◌, ℕ, ◌+◌, ◌<◌, ◌≤◌, List, [], ◌∷◌, ◌++◌, length, drop, drop_of_length-le, get_or, Result, Ok, Err, sym, ◌∙◌, subst}
use Rattle.std.specs.Prelude.{IsErrAnd}
use Rattle.snap_core.specs.Value.{Items}
use Rattle.snap_core.specs.View.{view, items_view}
use Rattle.snap_core.specs.declared.snap.Snap.{Snap}
use Rattle.pointer_core.specs.declared.refusal.Rule.{Rule}
use Rattle.eval_core.specs.declared.site.Site.{Site}
use Rattle.eval_core.specs.Sight.{Sight}
use Rattle.eval_core.specs.Run.{Fault}
use Rattle.eval_core.specs.Scope.{at_site}
use Rattle.eval_core.specs.Making.{made_value, made_values}
use Rattle.answer_ops.specs.View.{answer_of, answers_of}
use Rattle.answer_ops.specs.declared.value.Value.{Value}
use Rattle.view_engine.specs.declared.halt.Halt.{Halt}
use Rattle.view_engine.specs.Halts.{Answers}
use Rattle.view_engine.proofs.Lists.{element}
use Rattle.view_engine.proofs.Records.{with_parts, parts-step, parts-unmade, parts-end}

-- the element of a list, by that of its copy
pub copied-element : {X : Type 0} (items xs : List X) (i : ℕ) (x : X) → items ≡ xs → i < length items → x ≡ get_or items i x → drop i xs ≡ x ∷ drop (i + 1) xs
copied-element items xs i x same within is = subst (λ ys. drop i ys ≡ x ∷ drop (i + 1) ys) same (element items i x within is)

pub copied-end : {X : Type 0} (items xs : List X) (i : ℕ) → items ≡ xs → length items ≤ i → drop i xs ≡ []
copied-end items xs i same past = subst (λ ys. drop i ys ≡ []) same (drop_of_length-le items {i = i} past)

pub copied-is : {X : Type 0} (items xs : List X) (i : ℕ) (x : X) → items ≡ xs → x ≡ get_or items i x → x ≡ get_or xs i x
copied-is items xs i x same is = subst (λ ys. x ≡ get_or ys i x) same is

made-handed : {T A : Type 0} (seen : T → A) (halt : Halt) (r : Result T Halt) (o : Result A Fault) → IsErrAnd r (λ x. x ≡ halt) → Answers seen (Err halt) o → Answers seen r o
made-handed seen halt (Ok x) o is h = absurd is
made-handed {T} seen halt (Err other) o is h = subst (λ k. Answers {T = T} seen (Err k) o) (sym is) h

-- a value wasn't made
pub made-stops : (site : Site) (seen : Sight) (items vs : List Value) (i : ℕ) (v : Value) (xs : List Snap) (halt : Halt) (r : Result (List Snap) Halt) (whole : Result Items Rule)
    → items ≡ vs → i < length items → v ≡ get_or items i v
    → with_parts (items_view xs) (made_values seen (answers_of (drop i vs))) ≡ whole
    → IsErrAnd r (λ h. h ≡ halt) → Answers {T = Snap} view (Err halt) (at_site site (made_value seen (answer_of v)))
    → Answers items_view r (at_site site whole)
made-stops site seen items vs i v xs halt r whole same within is left handed h =
    made-handed items_view halt r (at_site site whole) handed
    (parts-unmade site seen (drop i vs) v (drop (i + 1) vs) xs halt whole (copied-element items vs i v same within is) left h)

-- a value more was made
pub made-goes_on : (site : Site) (seen : Sight) (items vs : List Value) (i : ℕ) (v : Value) (x : Snap) (xs after : List Snap) (whole : Result Items Rule)
    → items ≡ vs → i < length items → v ≡ get_or items i v
    → at_site site (made_value seen (answer_of v)) ≡ Ok (view x) → after ≡ xs ++ x ∷ []
    → with_parts (items_view xs) (made_values seen (answers_of (drop i vs))) ≡ whole
    → with_parts (items_view after) (made_values seen (answers_of (drop (i + 1) vs))) ≡ whole
made-goes_on site seen items vs i v x xs after whole same within is made pushed left =
    sym (parts-step site seen (drop i vs) v (drop (i + 1) vs) x xs after (copied-element items vs i v same within is) made pushed) ∙ left

-- all of them were made
pub made-ends : (site : Site) (seen : Sight) (items vs : List Value) (i : ℕ) (xs : List Snap) (whole : Result Items Rule) → items ≡ vs → length items ≤ i
    → with_parts (items_view xs) (made_values seen (answers_of (drop i vs))) ≡ whole → at_site site whole ≡ Ok (items_view xs)
made-ends site seen items vs i xs whole same past left = parts-end site seen (drop i vs) xs whole (copied-end items vs i same past) left
