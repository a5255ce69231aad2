-- The numbers of a written value.
use Rattle.std.proofs.Common.{◌≡◌, ℕ, ◌+◌, ◌≤◌, List, [], ◌∷◌, map, Bool, true, false, Option, Some, None, refl, sym, ◌∙◌, ap, inl, inr, arith}
use Rattle.std.specs.Prelude.{sum_by, if◌then◌else◌}
use Rattle.std.proofs.lemmas.Bool.{cases_lt}
use Rattle.std.proofs.lemmas.List.Sums.{sum_by-cons}
use Rattle.snap_core.specs.Value.{Value, IsOrdered}
use Rattle.edit_core.specs.Labelled.{Labelled}
use Rattle.edit_core.specs.Typing.{Typing, Rules, seen}
use Rattle.edit_core.specs.Matching.{Slot, taken, all_taken, open_slot, pairwise, matched, first_matching, same_item}
use Rattle.edit_core.specs.Template.{Template, template, new_count}
use Rattle.edit_core.specs.Reconciling.{Setting, Written, reconciled}
use Rattle.edit_core.specs.Numbers.{AreNumbered, matched_sum, MatchesOnce, HasNumbers}
use Rattle.edit_core.specs.Laws.{IsWellNumbered}
use Rattle.edit_core.proofs.Drawing.{among-below, among-within, among-above, drawn-times}
use Rattle.edit_core.proofs.Keeping.{template-times}

pub has-numbers : (r : Rules) (s : Setting) → MatchesOnce r.matching → IsOrdered s.new → AreNumbered s.next s.old → HasNumbers s.next s.old (reconciled r s)
has-numbers r s once ordered numbered =
    let made : Template = template r s.type (Some s.old) s.new in
    record {
      kept = λ n low. omega (arith, drawn-times n s.next made, template-times r once n s.type (Some s.old) s.new ordered, among-below n s.next (new_count made) low);
      drawn = λ n low high. omega (arith, drawn-times n s.next made, template-times r once n s.type (Some s.old) s.new ordered, numbered.below n low, among-within n s.next (new_count made) low high);
      none = λ n high. omega (arith, drawn-times n s.next made, template-times r once n s.type (Some s.old) s.new ordered, numbered.below n (omega arith), among-above n s.next (new_count made) high);
    }

pub numbered-again : (next : ℕ) (old : Labelled) (w : Written) → AreNumbered next old → HasNumbers next old w → AreNumbered w.next w.value
numbered-again next old w numbered has = record {
  differ = λ n. elim (cases_lt n next) [
    | inl low ↦ omega (arith, has.kept n low, numbered.differ n)
    | inr high ↦ elim (cases_lt n w.next) [ inl within ↦ omega (arith, has.drawn n high within) | inr above ↦ omega (arith, has.none n above) ]
  ];
  below = has.none;
}

-- matching by the first that is the same uses each old item once

module _ (f : Labelled → ℕ) where
  abbrev pub slots_sum : List Slot → ℕ
  slots_sum slots = matched_sum f (map (λ slot. slot.old) slots)

  open-sum : (news : List Value) → slots_sum (map open_slot news) ≡ 0
  open-sum [] = refl
  open-sum (v ∷ vs) = open-sum vs

  all-sum : (olds : List Labelled) → matched_sum f (map Some olds) ≡ sum_by f olds
  all-sum [] = refl
  all-sum (x ∷ xs) = ap (λ s. f x + s) (all-sum xs) ∙ sym (sum_by-cons f x xs)

  module _ (same : Labelled → Value → Bool) where
    pub taken-sum : (old : Labelled) (slots : List Slot) → slots_sum (taken same old slots) ≤ f old + slots_sum slots
    taken-sum old [] = omega arith
    taken-sum old (slot ∷ slots) = go slot.new slot.old (taken-sum old slots) where
      go : (new : Value) (held : Option Labelled) → slots_sum (taken same old slots) ≤ f old + slots_sum slots
          → slots_sum (taken same old (record { new = new; old = held } ∷ slots)) ≤ f old + slots_sum (record { new = new; old = held } ∷ slots)
      go new (Some x) rest = omega arith
      go new None rest =
          elim (same old new) as (λ b. slots_sum (if b then record { new = new; old = Some old } ∷ slots else record { new = new; old = None } ∷ taken same old slots) ≤ f old + slots_sum slots) [
            | true ↦ omega arith
            | false ↦ rest
          ]

    all_taken-sum : (olds : List Labelled) (slots : List Slot) → slots_sum (all_taken same olds slots) ≤ sum_by f olds + slots_sum slots
    all_taken-sum [] slots = omega arith
    all_taken-sum (x ∷ xs) slots = omega (arith, all_taken-sum xs (taken same x slots), taken-sum x slots, sum_by-cons f x xs)

    matched-sum : (olds : List Labelled) (news : List Value) → matched_sum f (matched same olds news) ≤ sum_by f olds
    matched-sum olds news =
        elim (pairwise same olds news) as (λ b. matched_sum f (if b then map Some olds else map (λ slot. slot.old) (all_taken same olds (map open_slot news))) ≤ sum_by f olds) [
          | true ↦ omega (arith, all-sum olds)
          | false ↦ omega (arith, all_taken-sum olds (map open_slot news), open-sum news)
        ]

pub first-once : (r : Typing) → MatchesOnce (first_matching r)
first-once r t olds news f = matched-sum f (λ o n. same_item r t (seen o) n) olds news

pub numbering : (r : Rules) (s : Setting) → MatchesOnce r.matching → IsOrdered s.new → AreNumbered s.next s.old → IsWellNumbered s.next s.old (reconciled r s)
numbering r s once ordered numbered =
    let has : HasNumbers s.next s.old (reconciled r s) = has-numbers r s once ordered numbered in
    record { numbers = has; again = numbered-again s.next s.old (reconciled r s) numbered has }
