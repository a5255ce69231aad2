-- Which numbers stand in a template once its new ones are drawn.
use Rattle.std.proofs.Common.{◌≡◌, ℕ, zero, suc, ◌+◌, ◌<◌, ◌≤◌, Option, Some, None, refl, sym, ◌∙◌, ap, arith, inl, inr}
use Rattle.std.specs.Prelude.{◌==◌}
use Rattle.std.proofs.Math.Nat.{zero-add, add-zero, suc-add}
use Rattle.std.proofs.lemmas.Bool.Decides.{eqb_tells}
use Rattle.edit_core.specs.declared.kind.Kind.{Kind}
use Rattle.edit_core.specs.Labelled.{Branches, Entries, leaf, many, keyed, no_branches, branch, no_entries, entry}
use Rattle.edit_core.specs.Template.{NewLabel, Template, drawn, draws, new_count, new_count_items, new_count_entries, numbered, numbered_items, numbered_entries}
use Rattle.edit_core.specs.Numbers.{one_where, times, times_in_items, times_in_entries}

-- whether a label keeps a number
abbrev pub keeps : ℕ → Option ℕ → ℕ
keeps n (Some m) = one_where (m == n)
keeps n None = 0

abbrev mutual
  -- how many nodes of a template keep a number
  pub kept_times : ℕ → Template → ℕ
  kept_times n (leaf v) = 0
  kept_times n (many l bs) = keeps n l.number + kept_in_items n bs
  kept_times n (keyed l es) = keeps n l.number + kept_in_entries n es

  pub kept_in_items : ℕ → Branches NewLabel → ℕ
  kept_in_items n no_branches = 0
  kept_in_items n (branch x bs) = kept_times n x + kept_in_items n bs

  pub kept_in_entries : ℕ → Entries NewLabel → ℕ
  kept_in_entries n no_entries = 0
  kept_in_entries n (entry k x es) = kept_times n x + kept_in_entries n es

-- how often a number is among so many from another one on
abbrev pub among : ℕ → ℕ → ℕ → ℕ
among n next zero = 0
among n next (suc count) = one_where (next == n) + among n (suc next) count

not-where : (a b : ℕ) → (a ≡ b → ⊥) → one_where (a == b) ≡ 0
not-where a b differ = elim (eqb_tells a b) [ inl h ↦ absurd (differ h.1) | inr h ↦ ap one_where h.0 ]

pub among-below : (n next count : ℕ) → n < next → among n next count ≡ 0
among-below n next zero h = refl
among-below n next (suc count) h =
    let e : one_where (next == n) ≡ 0 = not-where next n (λ same. omega arith) in
    let rest : among n (suc next) count ≡ 0 = among-below n (suc next) count (omega arith) in
    omega arith

pub among-above : (n next count : ℕ) → next + count ≤ n → among n next count ≡ 0
among-above n next zero h = refl
among-above n next (suc count) h =
    let e : one_where (next == n) ≡ 0 = not-where next n (λ same. omega arith) in
    let rest : among n (suc next) count ≡ 0 = among-above n (suc next) count (omega arith) in
    omega arith

pub among-within : (n next count : ℕ) → next ≤ n → n < next + count → among n next count ≡ 1
among-within n next zero h g = absurd (omega arith)
among-within n next (suc count) h g = elim (eqb_tells next n) [
  | inl here ↦
      let e : one_where (next == n) ≡ 1 = ap one_where here.0 in
      let rest : among n (suc next) count ≡ 0 = among-below n (suc next) count (omega (arith, here.1)) in
      omega arith
  | inr there ↦
      let e : one_where (next == n) ≡ 0 = ap one_where there.0 in
      let rest : among n (suc next) count ≡ 1 = among-within n (suc next) count (omega (arith, there.1)) (omega arith) in
      omega arith
]

pub among-joined : (n next c d : ℕ) → among n next (c + d) ≡ among n next c + among n (next + c) d
among-joined n next zero d =
    ap (among n next) (zero-add d) ∙ sym (zero-add (among n next d)) ∙ ap (λ a. 0 + among n a d) (sym (add-zero next))
among-joined n next (suc c) d =
    let further : among n (suc next) (c + d) ≡ among n (suc next) c + among n (suc next + c) d = among-joined n (suc next) c d in
    let same : suc next + c ≡ next + suc c = omega arith in
    let there : among n (suc next + c) d ≡ among n (next + suc c) d = ap (λ a. among n a d) same in
    let here : among n next (suc (c + d)) ≡ among n next (suc c) + among n (next + suc c) d = omega arith in
    ap (among n next) (suc-add c d) ∙ here

label-times : (n next : ℕ) (l : NewLabel) → one_where ((drawn next l).number == n) ≡ keeps n l.number + among n next (draws l)
label-times n next l = go l.number l.kind where
  go : (number : Option ℕ) (kind : Kind)
      → one_where ((drawn next record { number = number; kind = kind }).number == n) ≡ keeps n number + among n next (draws record { number = number; kind = kind })
  go (Some m) kind = omega arith
  go None kind = omega arith

mutual
  pub drawn-times : (n next : ℕ) (t : Template) → times n (numbered next t) ≡ kept_times n t + among n next (new_count t)
  drawn-times n next (leaf v) = refl
  drawn-times n next (many l bs) =
      omega (arith, label-times n next l, drawn-times_items n (next + draws l) bs, among-joined n next (draws l) (new_count_items bs))
  drawn-times n next (keyed l es) =
      omega (arith, label-times n next l, drawn-times_entries n (next + draws l) es, among-joined n next (draws l) (new_count_entries es))

  drawn-times_items : (n next : ℕ) (bs : Branches NewLabel) → times_in_items n (numbered_items next bs) ≡ kept_in_items n bs + among n next (new_count_items bs)
  drawn-times_items n next no_branches = refl
  drawn-times_items n next (branch x bs) =
      omega (arith, drawn-times n next x, drawn-times_items n (next + new_count x) bs, among-joined n next (new_count x) (new_count_items bs))

  drawn-times_entries : (n next : ℕ) (es : Entries NewLabel) → times_in_entries n (numbered_entries next es) ≡ kept_in_entries n es + among n next (new_count_entries es)
  drawn-times_entries n next no_entries = refl
  drawn-times_entries n next (entry k x es) =
      omega (arith, drawn-times n next x, drawn-times_entries n (next + new_count x) es, among-joined n next (new_count x) (new_count_entries es))
