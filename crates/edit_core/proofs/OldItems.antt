-- Old items and their numbers: each number stands at one item alone.
use Rattle.std.proofs.Common.{◌≡◌, ℕ, suc, ◌+◌, ◌<◌, ◌≤◌, List, [], ◌∷◌, ◌++◌, length, map, true, false, Option, Some, refl, sym, ◌∙◌, ap, subst, arith, inl, inr, length-append}
use Rattle.std.specs.Prelude.{sum_by}
use Rattle.std.proofs.lemmas.Bool.{cases_lt}
use Rattle.std.proofs.lemmas.List.Sums.{sum_by-cons}
use Rattle.snap_core.specs.Value.{IsOrdered}
use Rattle.edit_core.specs.Labelled.{Label, Labelled, Branches, no_branches, branch, items_in, bare, bare_items}
use Rattle.edit_core.specs.Between.{OldPart, edits_between, olds_in}
use Rattle.edit_core.specs.Typing.{label_of}
use Rattle.edit_core.specs.Template.{values_in}
use Rattle.edit_core.specs.Numbers.{times, AreNumbered}
use Rattle.edit_core.proofs.RuleLinks.{has, is_number, number-itself}
use Rattle.edit_core.proofs.RuleMatching.{NoneHave, has-times, none-have}

-- an old item, and the edits from it
abbrev pub as_old : Labelled → OldPart
as_old x = record { value = x; edits = edits_between x }

abbrev pub old_parts : List Labelled → List OldPart
old_parts xs = map as_old xs

pub olds-parts : (bs : Branches Label) → olds_in bs ≡ old_parts (items_in bs)
olds-parts no_branches = refl
olds-parts (branch x bs) = ap (λ os. as_old x ∷ os) (olds-parts bs)

pub values-bare : (bs : Branches Label) → values_in (bare_items bs) ≡ map bare (items_in bs)
values-bare no_branches = refl
values-bare (branch x bs) = ap (λ vs. bare x ∷ vs) (values-bare bs)

abbrev pub AllNumbered : ℕ → List Labelled → Type 0
AllNumbered next [] = Unit {0}
AllNumbered next (x ∷ xs) = AreNumbered next x × AllNumbered next xs

abbrev pub AllOrdered : List Labelled → Type 0
AllOrdered [] = Unit {0}
AllOrdered (x ∷ xs) = IsOrdered (bare x) × AllOrdered xs

pub numbered-more : (next further : ℕ) (x : Labelled) → next ≤ further → AreNumbered next x → AreNumbered further x
numbered-more next further x le h = record { differ = h.differ; below = λ n above. h.below n (omega arith) }

pub all-numbered-more : (next further : ℕ) (xs : List Labelled) → next ≤ further → AllNumbered next xs → AllNumbered further xs
all-numbered-more next further [] le h = tt
all-numbered-more next further (x ∷ xs) le h = (numbered-more next further x le h.0, all-numbered-more next further xs le h.1)

pub length-next : (done : List Labelled) (x : Labelled) (i : ℕ) → length done ≡ i → length (done ++ x ∷ []) ≡ suc i
length-next done x i h = omega (arith, length-append done (x ∷ []))

-- numbers stand at one item alone

abbrev pub AllSame : Labelled → Label → List Labelled → Type 0
AllSame o l [] = Unit {0}
AllSame o l (x ∷ xs) = (has l.number (Some x) ≡ true → x ≡ o) × AllSame o l xs

abbrev pub AllSameFor : List Labelled → List Labelled → Type 0
AllSameFor [] xs = Unit {0}
AllSameFor (o ∷ os) xs = ((l : Label) → label_of o ≡ Some l → AllSame o l xs) × AllSameFor os xs

pub none-same : (o : Labelled) (l : Label) (xs : List Labelled) → NoneHave l.number xs → AllSame o l xs
none-same o l [] none = tt
none-same o l (x ∷ xs) none = (λ h. absurd (let no : false ≡ true = sym none.0 ∙ h in cc no), none-same o l xs none.1)

pub own-number : (o : Labelled) (l : Label) → label_of o ≡ Some l → has l.number (Some o) ≡ true
own-number o l named = let P : Option Label → Type 0 = λ k. is_number l.number k ≡ true in subst P (sym named) (number-itself l.number)

pub own-times : (o : Labelled) (l : Label) → label_of o ≡ Some l → 1 ≤ times l.number o
own-times o l named = has-times l.number o (own-number o l named)

-- a number that stands in a value is below the next one
pub low-number : (next : ℕ) (o : Labelled) (l : Label) → label_of o ≡ Some l → AreNumbered next o → l.number < next
low-number next o l named numbers = elim (cases_lt l.number next) [
  | inl low ↦ low
  | inr high ↦ let none : times l.number o ≡ 0 = numbers.below l.number high in let one : 1 ≤ times l.number o = own-times o l named in absurd (omega arith)
]

pub same-more : (o : Labelled) (ys xs : List Labelled) → ((n : ℕ) → times n o + sum_by (times n) ys ≤ 1) → AllSameFor ys xs → AllSameFor ys (o ∷ xs)
same-more o [] xs once h = tt
same-more o (y ∷ ys) xs once h = (
  (λ l named. (
    λ has_o.
        let one : 1 ≤ times l.number y = own-times y l named in
        let other : 1 ≤ times l.number o = has-times l.number o has_o in
        let sum : sum_by (times l.number) (y ∷ ys) ≡ times l.number y + sum_by (times l.number) ys = sum_by-cons (times l.number) y ys in
        let most : times l.number o + sum_by (times l.number) (y ∷ ys) ≤ 1 = once l.number in
        absurd (omega arith),
    h.0 l named,
  )),
  same-more o ys xs (λ n. omega (arith, once n, sum_by-cons (times n) y ys)) h.1,
)

pub same-all : (xs : List Labelled) → ((n : ℕ) → sum_by (times n) xs ≤ 1) → AllSameFor xs xs
same-all [] once = tt
same-all (o ∷ os) once = (
  (λ l named. (
    λ h. refl,
    none-same o l os (none-have l.number os
        (omega (arith, once l.number, sum_by-cons (times l.number) o os, own-times o l named))),
  )),
  same-more o os os (λ n. omega (arith, once n, sum_by-cons (times n) o os)) (same-all os (λ n. omega (arith, once n, sum_by-cons (times n) o os))),
)
