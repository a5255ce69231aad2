-- Marks that are set one after another say which types were marked.
use Rattle.std.proofs.Common.{◌≡◌, ℕ, zero, suc, ◌<◌, ◌≤◌, ◌+◌, ◌||◌, List, [], ◌∷◌, ◌++◌, length, get_or, slice_get, slice_set, replicate, drop, drop-cons, add-one, Bool, true, false, Some, eqb, refl, sym, ap, ◌∙◌, subst, arith, length-set, inl, inr}
use Rattle.std.specs.Prelude.{◌⊎◌, ◌≢◌}
use Rattle.std.proofs.lemmas.Bool.Decides.{eqb_tells}
use Rattle.std.proofs.lemmas.List.{drop_all}
use Rattle.snap_core.specs.declared.number.TypeNo.{TypeNo}
use Rattle.type_table.specs.declared.shape.Property.{Property}
use Rattle.type_table.specs.declared.shape.ModelType.{ModelType}
use Rattle.type_table.specs.declared.shape.Shape.{Shape}
use Rattle.type_table.specs.Table.{Table}
use Rattle.type_table.specs.Identifiers.{has_number, types_in, property_types, part_type, part_types, later_identifiers, second_types}
use Rattle.type_table.specs.Marks.{marked, AreMarks}

-- where no type of a number is, no mark is set
set-past : (marks : List Bool) (t : ℕ) → length marks ≤ t → slice_set marks t true ≡ marks
set-past [] t past = refl
set-past (m ∷ ms) zero past = absurd (omega arith)
set-past (m ∷ ms) (suc t) past = ap (λ ns. m ∷ ns) (set-past ms t (omega arith))

pub marked-past : (marks : List Bool) (t : TypeNo) → length marks ≤ t.0 → marks ≡ marked marks (t ∷ [])
marked-past marks t past = sym (set-past marks t.0 past)

pub marked-append : (marks : List Bool) (ts us : List TypeNo) → marked (marked marks ts) us ≡ marked marks (ts ++ us)
marked-append marks [] us = refl
marked-append marks (t ∷ ts) us = marked-append (slice_set marks t.0 true) ts us

marked-length : (marks : List Bool) (ts : List TypeNo) → length (marked marks ts) ≡ length marks
marked-length marks [] = refl
marked-length marks (t ∷ ts) = marked-length (slice_set marks t.0 true) ts ∙ length-set marks t.0 true

-- a mark that is set stands at its type alone
set-here : (marks : List Bool) (t : ℕ) (mark : Bool) → slice_get marks t ≡ Some mark → slice_get (slice_set marks t true) t ≡ Some true
set-here [] t mark h = cc
set-here (m ∷ ms) zero mark h = refl
set-here (m ∷ ms) (suc t) mark h = set-here ms t mark h

set-elsewhere : (marks : List Bool) (u t : ℕ) (mark : Bool) → t ≢ u → slice_get marks t ≡ Some mark → slice_get (slice_set marks u true) t ≡ Some mark
set-elsewhere [] u t mark ne h = cc
set-elsewhere (m ∷ ms) zero zero mark ne h = absurd (ne refl)
set-elsewhere (m ∷ ms) zero (suc t) mark ne h = h
set-elsewhere (m ∷ ms) (suc u) zero mark ne h = h
set-elsewhere (m ∷ ms) (suc u) (suc t) mark ne h = set-elsewhere ms u t mark (λ e. ne (ap (λ (n : ℕ). suc n) e)) h

set-read : (marks : List Bool) (u t : ℕ) (mark : Bool) → slice_get marks t ≡ Some mark → slice_get (slice_set marks u true) t ≡ Some (eqb t u || mark)
set-read marks u t mark h = by_test (eqb_tells t u)
  where
    by_test : ((eqb t u ≡ true) × (t ≡ u)) ⊎ ((eqb t u ≡ false) × (t ≢ u)) → slice_get (slice_set marks u true) t ≡ Some (eqb t u || mark)
    by_test (inl is) =
        let P : ℕ → Type 0 = λ n. slice_get (slice_set marks n true) t ≡ Some true in
        rw is.0 (subst P is.1 (set-here marks t mark h))
    by_test (inr is) = rw is.0 (set-elsewhere marks u t mark is.1 h)

or-turned : (a b c : Bool) → ((a || b) || c) ≡ (b || (a || c))
or-turned true true c = refl
or-turned true false c = refl
or-turned false b c = refl

pub marked-read : (marks : List Bool) (ts : List TypeNo) (t : ℕ) (mark : Bool) → slice_get marks t ≡ Some mark
    → slice_get (marked marks ts) t ≡ Some (mark || has_number t ts)
marked-read marks [] t true h = h
marked-read marks [] t false h = h
marked-read marks (u ∷ ts) t mark h =
    marked-read (slice_set marks u.0 true) ts t (eqb t u.0 || mark) (set-read marks u.0 t mark h) ∙ ap Some (or-turned (eqb t u.0) mark (has_number t ts))

-- marks that begin with none
none-read : (n t : ℕ) (mark : Bool) → slice_get (replicate n false) t ≡ Some mark → mark ≡ false
none-read zero t mark h = cc
none-read (suc n) zero mark h = cc
none-read (suc n) (suc t) mark h = none-read n t mark h

length-none : (n : ℕ) → length (replicate n false) ≡ n
length-none zero = refl
length-none (suc n) = ap (λ k. suc k) (length-none n)

read-some : (marks : List Bool) (t : ℕ) → t < length marks → (mark : Bool) × (slice_get marks t ≡ Some mark)
read-some [] t within = absurd (omega arith)
read-some (m ∷ ms) zero within = (m, refl)
read-some (m ∷ ms) (suc t) within = read-some ms t (omega arith)

read-within : (marks : List Bool) (t : ℕ) (mark : Bool) → slice_get marks t ≡ Some mark → t < length marks
read-within [] t mark h = cc
read-within (m ∷ ms) zero mark h = omega arith
read-within (m ∷ ms) (suc t) mark h = let rest = read-within ms t mark h in omega arith

pub AreMarks-all : (n : ℕ) (marks : List Bool) (ts : List TypeNo) → marks ≡ marked (replicate n false) ts → AreMarks marks ts
AreMarks-all n marks ts e t mark h =
    let P : List Bool → Type 0 = λ ms. slice_get ms t ≡ Some mark in
    let here = subst P e h in
    let within = read-within (marked (replicate n false) ts) t mark here in
    let old = read-some (replicate n false) t (omega (arith, within, marked-length (replicate n false) ts)) in
    let none = none-read n t old.0 old.1 in
    let P : Bool → Type 0 = λ b. slice_get (marked (replicate n false) ts) t ≡ Some (b || has_number t ts) in
    let read : slice_get (marked (replicate n false) ts) t ≡ Some (has_number t ts) = subst P none (marked-read (replicate n false) ts t old.0 old.1) in
    let both : Some mark ≡ Some (has_number t ts) = sym here ∙ read in
    cc

pub length-all : (n : ℕ) (marks : List Bool) (ts : List TypeNo) → marks ≡ marked (replicate n false) ts → length marks ≡ n
length-all n marks ts e = ap (λ (ms : List Bool). length ms) e ∙ marked-length (replicate n false) ts ∙ length-none n

-- one property after another
pub properties-next : (marks : List Bool) (ps : List Property) (i : ℕ) (p : Property) (whole : List Bool) → i < length ps → p ≡ get_or ps i p
    → marked marks (types_in (drop i ps)) ≡ whole → marked (marked marks (p.of ∷ [])) (types_in (drop (i + 1) ps)) ≡ whole
properties-next marks ps i p whole within here so_far =
    let left : drop i ps ≡ p ∷ drop (i + 1) ps = rw (add-one, drop-cons ps i p, ← here) in
    let P : List Property → Type 0 = λ qs. marked marks (types_in qs) ≡ whole in
    subst P left so_far

pub properties-done : (marks : List Bool) (ps : List Property) (i : ℕ) (whole : List Bool) → length ps ≤ i → marked marks (types_in (drop i ps)) ≡ whole → marks ≡ whole
properties-done marks ps i whole past so_far =
    let P : List Property → Type 0 = λ qs. marked marks (types_in qs) ≡ whole in
    subst P (drop_all i ps past) so_far

-- one model after another
pub models-next : (marks : List Bool) (ms : List ModelType) (i : ℕ) (m : ModelType) (whole : List Bool) → i < length ms → m ≡ get_or ms i m
    → marked marks (property_types (drop i ms)) ≡ whole → marked (marked marks (types_in m.properties)) (property_types (drop (i + 1) ms)) ≡ whole
models-next marks ms i m whole within here so_far =
    let left : drop i ms ≡ m ∷ drop (i + 1) ms = rw (add-one, drop-cons ms i m, ← here) in
    let P : List ModelType → Type 0 = λ ns. marked marks (property_types ns) ≡ whole in
    marked-append marks (types_in m.properties) (property_types (drop (i + 1) ms)) ∙ subst P left so_far

pub models-done : (marks : List Bool) (ms : List ModelType) (i : ℕ) (whole : List Bool) → length ms ≤ i → marked marks (property_types (drop i ms)) ≡ whole → marks ≡ whole
models-done marks ms i whole past so_far =
    let P : List ModelType → Type 0 = λ ns. marked marks (property_types ns) ≡ whole in
    subst P (drop_all i ms past) so_far

-- one shape after another
pub shapes-next : (marks : List Bool) (ss : List Shape) (i : ℕ) (s : Shape) (whole : List Bool) → i < length ss → s ≡ get_or ss i s
    → marked marks (part_types (drop i ss)) ≡ whole → marked (marked marks (part_type s)) (part_types (drop (i + 1) ss)) ≡ whole
shapes-next marks ss i s whole within here so_far =
    let left : drop i ss ≡ s ∷ drop (i + 1) ss = rw (add-one, drop-cons ss i s, ← here) in
    let P : List Shape → Type 0 = λ rs. marked marks (part_types rs) ≡ whole in
    marked-append marks (part_type s) (part_types (drop (i + 1) ss)) ∙ subst P left so_far

pub shapes-done : (marks : List Bool) (ss : List Shape) (i : ℕ) (whole : List Bool) → length ss ≤ i → marked marks (part_types (drop i ss)) ≡ whole → marks ≡ whole
shapes-done marks ss i whole past so_far =
    let P : List Shape → Type 0 = λ rs. marked marks (part_types rs) ≡ whole in
    subst P (drop_all i ss past) so_far

pub seconds-next : (table : Table) (marks : List Bool) (ms : List ModelType) (i : ℕ) (m : ModelType) (whole : List Bool) → i < length ms → m ≡ get_or ms i m
    → marked marks (second_types table (drop i ms)) ≡ whole
    → marked (marked marks (types_in (later_identifiers table m.properties))) (second_types table (drop (i + 1) ms)) ≡ whole
seconds-next table marks ms i m whole within here so_far =
    let left : drop i ms ≡ m ∷ drop (i + 1) ms = rw (add-one, drop-cons ms i m, ← here) in
    let P : List ModelType → Type 0 = λ ns. marked marks (second_types table ns) ≡ whole in
    marked-append marks (types_in (later_identifiers table m.properties)) (second_types table (drop (i + 1) ms)) ∙ subst P left so_far

pub seconds-done : (table : Table) (marks : List Bool) (ms : List ModelType) (i : ℕ) (whole : List Bool) → length ms ≤ i
    → marked marks (second_types table (drop i ms)) ≡ whole → marks ≡ whole
seconds-done table marks ms i whole past so_far =
    let P : List ModelType → Type 0 = λ ns. marked marks (second_types table ns) ≡ whole in
    subst P (drop_all i ms past) so_far
