-- Items of an answer one after the other: those that are done, in front of what the rest comes to.
use Rattle.std.proofs.Common.{◌≡◌, ℕ, zero, suc, List, [], ◌∷◌, ◌++◌, ◌<◌, ◌≤◌, ◌+◌, length, get_or, drop, add-one, false, is_some, Option, Some, None, Result, Ok, Err, IfSome, IsErrAnd, decimal, refl, sym, ap, ◌∙◌, subst}
use Rattle.std.proofs.lemmas.List.{drop_all}
use Rattle.snap_core.specs.Value.{Value, Items, ArePlain}
use Rattle.snap_core.specs.declared.snap.Snap.{Snap}
use Rattle.snap_core.specs.View.{view, items_view}
use Rattle.pointer_core.specs.declared.refusal.Rule.{Rule}
use Rattle.type_core.specs.Making.{Outcome, under, part_made, items_made}
use Rattle.type_core.specs.Made.{refused_as}
use Rattle.type_core.proofs.Items.{items_before, items_before-push, items_before-refused, items_before-all}
use Rattle.edit_core.specs.Labelled.{Labelled}
use Rattle.tree_core.specs.declared.error.TreeError.{TreeError}
use Rattle.tree_core.specs.declared.error.TreeError.TheVariants.{Memory, Refused}
use Rattle.tree_core.specs.Answers.{Answers}
use Rattle.plain_answers.specs.Plainness.{IsPlainAnswer, ArePlainAnswers}
use Rattle.eval_core.specs.Answer as answers
use Rattle.eval_core.specs.Answer.{Answer, answer, no_answers}
use Rattle.answer_ops.specs.declared.value.Value as coded
use Rattle.answer_ops.specs.View.{answer_of, answers_of}
use Rattle.answer_writing.specs.Taking.{Taking, Aim, plains_in, item_aim, or_later, fault_in, fault_among, answer_made, answers_made}
use Rattle.answer_writing.proofs.Copies.{left}
use Rattle.answer_writing.proofs.PlainValues.{values-plain}

-- what is left of a list, without its first one
drop-one : {A : Type 0} (i : ℕ) (xs : List A) → drop 1 (drop i xs) ≡ drop (suc i) xs
drop-one zero xs = refl
drop-one (suc i) [] = refl
drop-one (suc i) (x ∷ xs) = drop-one i xs

drop-next : {A : Type 0} (i : ℕ) (xs : List A) → drop 1 (drop i xs) ≡ drop (i + 1) xs
drop-next i xs = rw add-one (drop-one i xs)

-- each of plain answers is plain
plain-left : (i : ℕ) (xs : List coded.Value) → ArePlainAnswers (answers_of xs) → ArePlainAnswers (answers_of (drop i xs))
plain-left zero xs h = h
plain-left (suc i) [] h = h
plain-left (suc i) (x ∷ xs) h = plain-left i xs h.1

pub plain-at : (xs : List coded.Value) (i : ℕ) (x : coded.Value) → i < length xs → x ≡ get_or xs i x → ArePlainAnswers (answers_of xs) → IsPlainAnswer (answer_of x)
plain-at xs i x within here h =
    let both : ArePlainAnswers (answer (answer_of x) (answers_of (drop (i + 1) xs))) = subst ArePlainAnswers (left xs i x within here) (plain-left i xs h) in
    both.0

-- copies of plain answers are plain
pub copies-plain : (xs : List coded.Value) (ss : List Snap) → ArePlainAnswers (answers_of xs) → plains_in (answers_of xs) ≡ Some (items_view ss) → ArePlain (items_view ss)
copies-plain xs ss h e = subst (λ (o : Option Items). IfSome o ArePlain) e (values-plain (answers_of xs) h)

-- the first fault, where this item has none
no-fault : {A : Type 0} (o : Option A) → false ≡ is_some o → o ≡ None
no-fault None e = refl
no-fault (Some x) e = absurd (cc)

pub fault-next : (by : Taking) (xs : List coded.Value) (t : ℕ) (held : List Labelled) (i : ℕ) (x : coded.Value) → i < length xs → x ≡ get_or xs i x
    → (aim : Aim) → item_aim (answer_of x) t (drop i held) ≡ aim → (o : Option Rule) → o ≡ fault_in by (answer_of x) aim → false ≡ is_some o
    → fault_among by (answers_of (drop (i + 1) xs)) t (drop (i + 1) held) ≡ fault_among by (answers_of (drop i xs)) t (drop i held)
fault-next by xs t held i x within here aim at o is none =
    let fine : fault_in by (answer_of x) (item_aim (answer_of x) t (drop i held)) ≡ None = ap (fault_in by (answer_of x)) at ∙ sym is ∙ no-fault o none in
    sym (ap (λ (ys : answers.AnswerList). fault_among by ys t (drop i held)) (left xs i x within here)
    ∙ ap (λ (f : Option Rule). or_later f (fault_among by (answers_of (drop (i + 1) xs)) t (drop 1 (drop i held)))) fine
    ∙ ap (fault_among by (answers_of (drop (i + 1) xs)) t) (drop-next i held))

-- Making.
module _ (by : Taking) (t : ℕ) (xs : List coded.Value) (held : List Labelled) (i : ℕ) (made : List Snap)
    (so_far : items_before made (items_made i t (answers_made by (answers_of (drop i xs)) (drop i held))) ≡ items_made 0 t (answers_made by (answers_of xs) held)) where
  abbrev whole : Outcome Items
  whole = items_made 0 t (answers_made by (answers_of xs) held)

  -- after the last item they are all
  pub items-all : length xs ≤ i → items_made 0 t (answers_made by (answers_of xs) held) ≡ Ok (items_view made)
  items-all past =
      let P : List coded.Value → Type 0 = λ ys. items_before made (items_made i t (answers_made by (answers_of ys) (drop i held))) ≡ whole in
      sym (subst P (drop_all i xs past) so_far) ∙ items_before-all made

  module _ (x : coded.Value) (within : i < length xs) (here : x ≡ get_or xs i x) (aim : Aim) (at : item_aim (answer_of x) t (drop i held) ≡ aim) where
    abbrev one : Outcome Value
    one = under (decimal i) (answer_made by (answer_of x) aim)

    abbrev rest : Outcome Items
    rest = items_made (i + 1) t (answers_made by (answers_of (drop (i + 1) xs)) (drop (i + 1) held))

    next : items_before made (part_made one rest) ≡ whole
    next =
        let After : answers.AnswerList → Type 0 = λ ys. items_before made (items_made i t (answers_made by ys (drop i held))) ≡ whole in
        let At : Aim → Type 0 = λ a. items_before made (part_made (under (decimal i) (answer_made by (answer_of x) a)) (items_made (i + 1) t (answers_made by (answers_of (drop (i + 1) xs)) (drop 1 (drop i held))))) ≡ whole in
        let Held : List Labelled → Type 0 = λ hs. items_before made (part_made one (items_made (i + 1) t (answers_made by (answers_of (drop (i + 1) xs)) hs))) ≡ whole in
        subst Held (drop-next i held) (subst At at (subst After (left xs i x within here) so_far))

    -- a refused item refuses the whole
    item-refused : (e : TreeError) → Answers {T = Snap} view (Err e) one → Answers {T = List Snap} items_view (Err e) whole
    item-refused Memory h = tt
    item-refused (Refused r) h =
        let P : Outcome Value → Type 0 = λ o. items_before made (part_made o rest) ≡ whole in
        sym (subst P h next) ∙ items_before-refused made (refused_as r)

    -- so does one that `?` hands on
    pub item-handed_on : (e : TreeError) (result : Result (List Snap) TreeError) → IsErrAnd result (λ r. r ≡ e)
        → Answers {T = Snap} view (Err e) (under (decimal i) (answer_made by (answer_of x) aim))
        → Answers {T = List Snap} items_view result (items_made 0 t (answers_made by (answers_of xs) held))
    item-handed_on e (Ok made) is h = absurd is
    item-handed_on e (Err r) is h =
        let P : TreeError → Type 0 = λ r. Answers {T = List Snap} items_view (Err r) whole in subst P (sym is) (item-refused e h)

    -- a made value is one more item
    pub item-more : (v : Snap) → Answers {T = Snap} view (Ok v) (under (decimal i) (answer_made by (answer_of x) aim))
        → items_before (made ++ v ∷ []) (items_made (i + 1) t (answers_made by (answers_of (drop (i + 1) xs)) (drop (i + 1) held))) ≡ items_made 0 t (answers_made by (answers_of xs) held)
    item-more v h =
        let P : Outcome Value → Type 0 = λ o. items_before made (part_made o rest) ≡ whole in
        items_before-push made v rest ∙ subst P h next
