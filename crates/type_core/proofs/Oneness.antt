-- Sound types are fixed by their table and their root.
use Rattle.std.proofs.Common.{◌≡◌, ℕ, zero, suc, ◌<◌, ◌≤◌, List, [], ◌∷◌, length, slice_get, Option, Some, None, Ok, IsSome, inl, inr, refl, sym, ap, ◌∙◌, subst, arith}
use Rattle.std.specs.Prelude.{◌⊎◌}
use Rattle.std.proofs.lemmas.Bool.{cases_lt}
use Rattle.snap_core.specs.Value.{Value}
use Rattle.snap_core.specs.View.{view}
use Rattle.snap_core.specs.Unview.{snap_of}
use Rattle.snap_core.specs.declared.snap.Snap.{Snap}
use Rattle.snap_core.specs.declared.number.ModelNo.{ModelNo}
use Rattle.snap_core.proofs.Views.{snap_of-view}
use Rattle.type_table.specs.Table.{Table, default_at}
use Rattle.type_core.specs.Makes.{Makes}
use Rattle.type_core.specs.Sound.{IsSound, TypesAreOne}
use Rattle.type_core.proofs.Laws.{made_by-complete}

-- lists that are equal at each index
same-lists : (xs ys : List (Option Snap)) → length xs ≡ length ys → ((t : ℕ) → slice_get xs t ≡ slice_get ys t) → xs ≡ ys
same-lists [] [] long h = refl
same-lists [] (y ∷ ys) long h = cc
same-lists (x ∷ xs) [] long h = cc
same-lists (x ∷ xs) (y ∷ ys) long h =
    let first : Some x ≡ Some y = h zero in
    let same : x ≡ y = cc in
    let rest : xs ≡ ys = same-lists xs ys (omega (arith, long)) (λ t. h (suc t)) in
    rw (same, rest) refl

-- what stands at an index below the length, and at one past it
read-at : (xs : List (Option Snap)) (t : ℕ) → t < length xs → (x : Option Snap) × (slice_get xs t ≡ Some x)
read-at [] t within = absurd (omega arith)
read-at (x ∷ xs) zero within = (x, refl)
read-at (x ∷ xs) (suc t) within = read-at xs t (omega arith)

read-past : (xs : List (Option Snap)) (t : ℕ) → length xs ≤ t → slice_get xs t ≡ None
read-past [] t past = refl
read-past (x ∷ xs) zero past = absurd (omega arith)
read-past (x ∷ xs) (suc t) past = read-past xs t (omega arith)

module _ (table : Table) (root : ModelNo) (d e : List (Option Snap)) (first : IsSound (record { table = table; root = root; defaults = d }))
    (second : IsSound (record { table = table; root = root; defaults = e })) where
  -- what a type makes where no value is given is one value
  made-one : (t : ℕ) (v w : Value) → Makes table t None v → Makes table t None w → v ≡ w
  made-one t v w one other =
      let both : Ok v ≡ Ok w = sym (made_by-complete table d first.loopless first.all t None v one) ∙ made_by-complete table d first.loopless first.all t None w other in
      cc

  same-default : (t : ℕ) (x y : Option Snap) → slice_get d t ≡ Some x → slice_get e t ≡ Some y → x ≡ y
  same-default t None None f g = refl
  same-default t (Some r) (Some s) f g =
      let v : default_at d t ≡ Some (view r) = rw f refl in
      let w : default_at e t ≡ Some (view s) = rw g refl in
      let same : view r ≡ view s = made-one t (view r) (view s) (first.defaults.made t (view r) v) (second.defaults.made t (view s) w) in
      ap Some (sym (snap_of-view r) ∙ ap snap_of same ∙ snap_of-view s)
  same-default t (Some r) None f g =
      let v : default_at d t ≡ Some (view r) = rw f refl in
      let optional = first.defaults.only t (view r) v in
      let none : default_at e t ≡ None = rw g refl in
      let some : IsSome (default_at e t) = second.defaults.known t optional.0 optional.1 optional.2 in
      let no_value = rw none at some in
      cc
  same-default t None (Some s) f g =
      let w : default_at e t ≡ Some (view s) = rw g refl in
      let optional = second.defaults.only t (view s) w in
      let none : default_at d t ≡ None = rw f refl in
      let some : IsSome (default_at d t) = first.defaults.known t optional.0 optional.1 optional.2 in
      let no_value = rw none at some in
      cc

  same-read : (t : ℕ) → slice_get d t ≡ slice_get e t
  same-read t = by_length (cases_lt t (length d))
    where
      by_length : (t < length d) ⊎ (length d ≤ t) → slice_get d t ≡ slice_get e t
      by_length (inl within) =
          let x = read-at d t within in
          let y = read-at e t (omega (arith, within, first.defaults.count, second.defaults.count)) in
          x.1 ∙ ap Some (same-default t x.0 y.0 x.1 y.1) ∙ sym y.1
      by_length (inr past) = read-past d t past ∙ sym (read-past e t (omega (arith, past, first.defaults.count, second.defaults.count)))

  same-defaults : d ≡ e
  same-defaults = same-lists d e (first.defaults.count ∙ sym second.defaults.count) same-read

pub types_are_one : TypesAreOne
types_are_one a b first second table root =
    let P : Table → Type 0 = λ x. IsSound (record { table = x; root = b.root; defaults = b.defaults }) in
    let Q : ModelNo → Type 0 = λ x. IsSound (record { table = a.table; root = x; defaults = b.defaults }) in
    let second_of : IsSound (record { table = a.table; root = a.root; defaults = b.defaults }) = subst Q (sym root) (subst P (sym table) second) in
    let defaults : a.defaults ≡ b.defaults = same-defaults a.table a.root a.defaults b.defaults first second_of in
    λ i. record { table = table i; root = root i; defaults = defaults i }
