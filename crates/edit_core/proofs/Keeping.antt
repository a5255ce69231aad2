-- A template keeps each number at most as often as it stands in the old value.
use Rattle.std.proofs.Common.{◌≡◌, ℕ, ◌+◌, ◌≤◌, List, [], ◌∷◌, Bool, true, false, Option, Some, None, refl, sym, ◌∙◌, ap, subst, arith}
use Rattle.std.specs.Prelude.{sum_by, if◌then◌else◌}
use Rattle.std.specs.declared.cmp.Ordering.TheVariants.{Less}
use Rattle.std.specs.Str.{bytes_eq}
use Rattle.std.proofs.lemmas.Cmp.{nat_list_cmp_total}
use Rattle.std.proofs.lemmas.List.Sums.{sum_by-cons}
use Rattle.std.proofs.lemmas.Slice.Eq.{bytes_eq-Decides}
use Rattle.snap_core.specs.Value.{Value, null, boolean, integer, text, list, dict, no_parts, part, no_members, member, Items, Fields, ComesBefore, IsOrdered, AreOrdered, AreOrderedMembers, keys_of}
use Rattle.snap_core.proofs.Finding.{key_cmp, bytes_eq-Less}
use Rattle.edit_core.specs.declared.kind.Kind.{Kind}
use Rattle.edit_core.specs.declared.kind.Kind.TheVariants.{Model, Array, Map}
use Rattle.edit_core.specs.Labelled.{Label, Labelled, Entry, Branches, Entries, leaf, many, keyed, no_branches, branch, no_entries, entry, items_in, entries_in, bare}
use Rattle.edit_core.specs.Comparing.{is_equal}
use Rattle.edit_core.specs.Typing.{Typing, Rules, seen, stays_as}
use Rattle.edit_core.specs.Template.{NewLabel, Template, kept, kept_branches, kept_entries, standing, label_for, items_under, entries_under, entry_at, values_in, unless_equal, array_template, record_template, template, item_templates, field_templates}
use Rattle.edit_core.specs.Numbers.{times, times_in_items, times_in_entries, matched_sum, MatchesOnce}
use Rattle.edit_core.proofs.Drawing.{keeps, kept_times, kept_in_items, kept_in_entries}

mutual
  kept-all : (n : ℕ) (x : Labelled) → kept_times n (kept x) ≡ times n x
  kept-all n (leaf v) = refl
  kept-all n (many l bs) = omega (arith, kept-all_items n bs)
  kept-all n (keyed l es) = omega (arith, kept-all_entries n es)

  kept-all_items : (n : ℕ) (bs : Branches Label) → kept_in_items n (kept_branches bs) ≡ times_in_items n bs
  kept-all_items n no_branches = refl
  kept-all_items n (branch x bs) = omega (arith, kept-all n x, kept-all_items n bs)

  kept-all_entries : (n : ℕ) (es : Entries Label) → kept_in_entries n (kept_entries es) ≡ times_in_entries n es
  kept-all_entries n no_entries = refl
  kept-all_entries n (entry k x es) = omega (arith, kept-all n x, kept-all_entries n es)

-- how often a number stands in an old value, if there is one, and in old entries

abbrev times_if : ℕ → Option Labelled → ℕ
times_if n (Some x) = times n x
times_if n None = 0

abbrev pub times_each : ℕ → List Entry → ℕ
times_each n [] = 0
times_each n (e ∷ es) = times n e.1 + times_each n es

pub each-entries : (n : ℕ) (es : Entries Label) → times_each n (entries_in es) ≡ times_in_entries n es
each-entries n no_entries = refl
each-entries n (entry k x es) = omega (arith, each-entries n es)

pub sum-items : (n : ℕ) (bs : Branches Label) → sum_by (times n) (items_in bs) ≡ times_in_items n bs
sum-items n no_branches = refl
sum-items n (branch x bs) = sum_by-cons (times n) x (items_in bs) ∙ ap (λ s. times n x + s) (sum-items n bs)

kept-unless_equal : (n : ℕ) (old : Option Labelled) (v : Value) (other : Template) → kept_times n other ≤ times_if n old → kept_times n (unless_equal old v other) ≤ times_if n old
kept-unless_equal n None v other h = h
kept-unless_equal n (Some old) v other h =
    elim (is_equal (bare old) v) as (λ b. kept_times n (if b then kept old else other) ≤ times n old) [ true ↦ omega (arith, kept-all n old) | false ↦ h ]

standing-times : (n : ℕ) (r : Typing) (kind : Kind) (old : Option Labelled) (v : Value) → times_if n (standing r kind old v) ≤ times_if n old
standing-times n r kind None v = omega arith
standing-times n r kind (Some old) v = elim (stays_as r kind (seen old) v) as (λ b. times_if n (if b then Some old else None) ≤ times n old) [ true ↦ omega arith | false ↦ omega arith ]

items-times : (n : ℕ) (kind : Kind) (old : Option Labelled) → keeps n (label_for kind old).number + sum_by (times n) (items_under old) ≤ times_if n old
items-times n kind None = omega arith
items-times n kind (Some (leaf v)) = omega arith
items-times n kind (Some (many l bs)) = omega (arith, sum-items n bs)
items-times n kind (Some (keyed l es)) = omega arith

entries-times : (n : ℕ) (kind : Kind) (old : Option Labelled) → keeps n (label_for kind old).number + times_each n (entries_under old) ≤ times_if n old
entries-times n kind None = omega arith
entries-times n kind (Some (leaf v)) = omega arith
entries-times n kind (Some (many l bs)) = omega arith
entries-times n kind (Some (keyed l es)) = omega (arith, each-entries n es)

kept-array : (n : ℕ) (r : Rules) (kind : Option Kind) (old : Option Labelled) (ps : Items) (making : ℕ → List (Option Labelled) → Branches NewLabel)
    → MatchesOnce r.matching → ((t : ℕ) (slots : List (Option Labelled)) → kept_in_items n (making t slots) ≤ matched_sum (times n) slots)
    → kept_times n (array_template r kind old ps making) ≤ times_if n old
kept-array n r None old ps making once h = omega arith
kept-array n r (Some (Map t)) old ps making once h = omega arith
kept-array n r (Some (Model m)) old ps making once h = omega arith
kept-array n r (Some (Array t)) old ps making once h =
    let stays : Option Labelled = standing r.typing (Array t) old (list tt ps) in
    let slots : List (Option Labelled) = r.matching t.0 (items_under stays) (values_in ps) in
    omega (arith, h t.0 slots, once t.0 (items_under stays) (values_in ps) (times n), items-times n (Array t) stays, standing-times n r.typing (Array t) old (list tt ps))

kept-record : (n : ℕ) (r : Rules) (kind : Option Kind) (old : Option Labelled) (ms : Fields) (making : Kind → List Entry → Entries NewLabel)
    → ((k : Kind) (olds : List Entry) → kept_in_entries n (making k olds) ≤ times_each n olds) → kept_times n (record_template r kind old ms making) ≤ times_if n old
kept-record n r None old ms making h = omega arith
kept-record n r (Some (Array t)) old ms making h = omega arith
kept-record n r (Some (Map t)) old ms making h =
    let stays : Option Labelled = standing r.typing (Map t) old (dict tt ms) in
    omega (arith, h (Map t) (entries_under stays), entries-times n (Map t) stays, standing-times n r.typing (Map t) old (dict tt ms))
kept-record n r (Some (Model m)) old ms making h =
    let stays : Option Labelled = standing r.typing (Model m) old (dict tt ms) in
    omega (arith, h (Model m) (entries_under stays), entries-times n (Model m) stays, standing-times n r.typing (Model m) old (dict tt ms))

-- each old entry is used for one key alone

abbrev without : List ℕ → List Entry → List Entry
without k [] = []
without k (e ∷ es) = if bytes_eq k e.0 then es else e ∷ without k es

taken-times : (n : ℕ) (k : List ℕ) (olds : List Entry) → times_if n (entry_at k olds) + times_each n (without k olds) ≡ times_each n olds
taken-times n k [] = refl
taken-times n k (e ∷ es) =
    elim (bytes_eq k e.0) as (λ b. times_if n (if b then Some e.1 else entry_at k es) + times_each n (if b then es else e ∷ without k es) ≡ times n e.1 + times_each n es) [
      | true ↦ refl
      | false ↦ omega (arith, taken-times n k es)
    ]

-- a key comes before all these
abbrev ComesFirst : List ℕ → Fields → Type 0
ComesFirst k no_members = Unit {0}
ComesFirst k (member j v ms) = (key_cmp k j ≡ Less) × ComesFirst k ms

first-further : (j k : List ℕ) (ms : Fields) → key_cmp j k ≡ Less → ComesFirst k ms → ComesFirst j ms
first-further j k no_members less h = tt
first-further j k (member i v ms) less h = (nat_list_cmp_total.trans j k i less h.0, first-further j k ms less h.1)

comes-first : (k : List ℕ) (ms : Fields) → ComesBefore k (keys_of ms) → AreOrderedMembers ms → ComesFirst k ms
comes-first k no_members before ordered = tt
comes-first k (member j v ms) before ordered = (before, first-further k j ms before (comes-first j ms ordered.1 ordered.2))

other-found : (j k : List ℕ) (olds : List Entry) → key_cmp k j ≡ Less → entry_at j (without k olds) ≡ entry_at j olds
other-found j k [] less = refl
other-found j k (e ∷ es) less = go (bytes_eq k e.0) refl (other-found j k es less) where
  go : (b : Bool) → bytes_eq k e.0 ≡ b → entry_at j (without k es) ≡ entry_at j es → entry_at j (if b then es else e ∷ without k es) ≡ entry_at j (e ∷ es)
  go true here further =
      let same : k ≡ e.0 = (bytes_eq-Decides k e.0).0 here in
      let P : List ℕ → Type 0 = λ i. bytes_eq j i ≡ false in
      let other : bytes_eq j e.0 ≡ false = subst P same (bytes_eq-Less j k less) in
      sym (ap (λ b. if b then Some e.1 else entry_at j es) other)
  go false there further = ap (λ rest. if bytes_eq j e.0 then Some e.1 else rest) further

module _ (r : Rules) where
  fields-without : (ms : Fields) (kind : Kind) (k : List ℕ) (olds : List Entry) → ComesFirst k ms → field_templates r ms kind (without k olds) ≡ field_templates r ms kind olds
  fields-without no_members kind k olds h = refl
  fields-without (member j v ms) kind k olds h =
      let here : template r (r.typing.type_under kind j) (entry_at j (without k olds)) v ≡ template r (r.typing.type_under kind j) (entry_at j olds) v =
      ap (λ old. template r (r.typing.type_under kind j) old v) (other-found j k olds h.0) in
      let rest : field_templates r ms kind (without k olds) ≡ field_templates r ms kind olds = fields-without ms kind k olds h.1 in
      cc

  module _ (once : MatchesOnce r.matching) (n : ℕ) where
    mutual
      pub template-times : (t : ℕ) (old : Option Labelled) (v : Value) → IsOrdered v → kept_times n (template r t old v) ≤ times_if n old
      template-times t old null ordered = omega arith
      template-times t old (boolean b) ordered = omega arith
      template-times t old (integer z) ordered = omega arith
      template-times t old (text s) ordered = omega arith
      template-times t old (list a ps) ordered =
          kept-unless_equal n old (list a ps) (array_template r (r.typing.kind_of t (list a ps)) old ps (item_templates r ps))
          (kept-array n r (r.typing.kind_of t (list a ps)) old ps (item_templates r ps) once (λ u slots. items-kept ps u slots ordered))
      template-times t old (dict a ms) ordered =
          kept-unless_equal n old (dict a ms) (record_template r (r.typing.kind_of t (dict a ms)) old ms (field_templates r ms))
          (kept-record n r (r.typing.kind_of t (dict a ms)) old ms (field_templates r ms) (λ kind olds. fields-kept ms kind olds ordered))

      items-kept : (ps : Items) (t : ℕ) (slots : List (Option Labelled)) → AreOrdered ps → kept_in_items n (item_templates r ps t slots) ≤ matched_sum (times n) slots
      items-kept no_parts t slots ordered = omega arith
      items-kept (part v ps) t [] ordered = omega (arith, template-times t None v ordered.0, items-kept ps t [] ordered.1)
      items-kept (part v ps) t (Some old ∷ slots) ordered = omega (arith, template-times t (Some old) v ordered.0, items-kept ps t slots ordered.1)
      items-kept (part v ps) t (None ∷ slots) ordered = omega (arith, template-times t None v ordered.0, items-kept ps t slots ordered.1)

      fields-kept : (ms : Fields) (kind : Kind) (olds : List Entry) → AreOrderedMembers ms → kept_in_entries n (field_templates r ms kind olds) ≤ times_each n olds
      fields-kept no_members kind olds ordered = omega arith
      fields-kept (member k v ms) kind olds ordered =
          let P : Entries NewLabel → Type 0 = λ es. kept_in_entries n es ≤ times_each n (without k olds) in
          let rest : P (field_templates r ms kind olds) = subst P (fields-without ms kind k olds (comes-first k ms ordered.1 ordered.2)) (fields-kept ms kind (without k olds) ordered.2) in
          omega (arith, template-times (r.typing.type_under kind k) (entry_at k olds) v ordered.0, rest, taken-times n k olds)
