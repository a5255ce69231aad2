-- How often a number stands in a labelled snapshot.
use Rattle.std.specs.Prelude.{◌≡◌, ℕ, ◌+◌, ◌<◌, ◌≤◌, ◌==◌, List, [], ◌∷◌, Bool, Option, Some, None, sum_by, if◌then◌else◌}
use Rattle.snap_core.specs.Value.{Value}
use Rattle.edit_core.specs.Labelled.{Label, Labelled, Branches, Entries, leaf, many, keyed, no_branches, branch, no_entries, entry}
use Rattle.edit_core.specs.Typing.{Matching}
use Rattle.edit_core.specs.Reconciling.{Written}

abbrev pub one_where : Bool → ℕ
one_where b = if b then 1 else 0

abbrev mutual
  -- how many nodes have a number
  pub times : ℕ → Labelled → ℕ
  times n (leaf v) = 0
  times n (many l bs) = one_where (l.number == n) + times_in_items n bs
  times n (keyed l es) = one_where (l.number == n) + times_in_entries n es

  pub times_in_items : ℕ → Branches Label → ℕ
  times_in_items n no_branches = 0
  times_in_items n (branch x bs) = times n x + times_in_items n bs

  pub times_in_entries : ℕ → Entries Label → ℕ
  times_in_entries n no_entries = 0
  times_in_entries n (entry k x es) = times n x + times_in_entries n es

-- no two nodes have one number, and each number is below the next one
pub record AreNumbered (next : ℕ) (x : Labelled) : Type 0 where
  pub differ : (n : ℕ) → times n x ≤ 1
  pub below : (n : ℕ) → next ≤ n → times n x ≡ 0

-- the sum of a quantity over the old items that are matched
abbrev pub matched_sum : (Labelled → ℕ) → List (Option Labelled) → ℕ
matched_sum f [] = 0
matched_sum f (Some x ∷ slots) = f x + matched_sum f slots
matched_sum f (None ∷ slots) = matched_sum f slots

-- Each old item is matched at most once: whatever is summed up over items, the matched ones come to no more than all.
abbrev pub MatchesOnce : Matching → Type 0
MatchesOnce matching =
    (t : ℕ) (olds : List Labelled) (news : List Value) (f : Labelled → ℕ) → matched_sum f (matching t olds news) ≤ sum_by f olds

-- Which numbers a written value has: below the next one those of the old value, each at most as often, and from
-- it on each that was drawn, once.
pub record HasNumbers (next : ℕ) (old : Labelled) (w : Written) : Type 0 where
  pub kept : (n : ℕ) → n < next → times n w.value ≤ times n old
  pub drawn : (n : ℕ) → next ≤ n → n < w.next → times n w.value ≡ 1
  pub none : (n : ℕ) → w.next ≤ n → times n w.value ≡ 0
