-- What calls that change a list or a record in place answer.
use Rattle.std.proofs.Common.{◌≡◌, ℕ, zero, suc, ◌≤◌, ◌<◌, List, [], ◌∷◌, length, true, false, Option, Some, None, Result, Ok, Err, slice_get, refl, sym, ◌∙◌, ap, subst, inl, inr, arith}
use Rattle.std.specs.Prelude.{insert, remove, slice_set, nat_lt, option_and_then, OnErr, if◌then◌else◌}
use Rattle.std.specs.Option.{option_map}
use Rattle.std.proofs.lemmas.Bool.{lt-ltb, cases_lt}
use Rattle.std.proofs.lemmas.Option.{slice_get_past}
use Rattle.snap_core.specs.Value.{Value, Fields, Items, list, dict, value_at, AreKeyed, IsOrdered, AreOrdered, AreOrderedMembers}
use Rattle.snap_core.specs.View.{view, items_view, fields_view}
use Rattle.snap_core.specs.Level.{at_index, item_at, insert_item, set_item, remove_item, set_field, remove_field}
use Rattle.snap_core.specs.declared.snap.Snap.{Snap}
use Rattle.snap_core.specs.declared.snap.Field.{Field}
use Rattle.snap_core.proofs.Levels.{AreKeyed-of, IsOrdered-item_at}
use Rattle.snap_core.proofs.Keys.{IsOrdered-value_at}
use Rattle.snap_core.proofs.InPlace.{item_at-items_view, items_view-set, items_view-insert, items_view-remove, fields_view-set, fields_view-remove}
use Rattle.pointer_core.specs.Path.{Path}
use Rattle.pointer_core.specs.Index.{index_of}
use Rattle.patch_core.specs.Place.{index_below}
use Rattle.patch_core.specs.Application.{with_index, where_held, put_field, changed, inside, inside_at, outcome_map}
use Rattle.patch_core.specs.Outcome.{Answers}
use Rattle.patch_core.specs.declared.error.PatchError.{PatchError}
use Rattle.patch_core.specs.declared.error.PatchError.TheVariants as error
use Rattle.patch_core.specs.declared.patch.PatchOp.{PatchOp}

pub keyed_from_ordered : (ms : Fields) → AreOrderedMembers ms → AreKeyed ms
keyed_from_ordered ms ordered = AreKeyed-of ms ordered

Answers-map : {X Y T : Type 0} (f : X → Y) (r : Result T PatchError) (outcome : Result X PatchError) (now : X) → Answers r outcome now → Answers r (outcome_map f outcome) (f now)
Answers-map f (Ok done) outcome now h = ap (outcome_map f) h
Answers-map f (Err e) outcome now h = λ other. ap (outcome_map f) (h other)

set_kept : {X : Type 0} (xs : List X) (at : ℕ) (x : X) → slice_get xs at ≡ Some x → slice_set xs at x ≡ xs
set_kept [] at x here = refl
set_kept {X} (y ∷ ys) zero x here = let same : y ≡ x = cc in ap (λ (z : X). z ∷ ys) (sym same)
set_kept (y ∷ ys) (suc at) x here = ap (λ zs. y ∷ zs) (set_kept ys at x here)

past_bound : (i bound : ℕ) → (if nat_lt i bound then Some i else None) ≡ None → bound ≤ i
past_bound i bound e = elim (cases_lt i bound) [
  | inl below ↦ let test : nat_lt i bound ≡ true = lt-ltb i bound below in let some : Some i ≡ None = rw test at e in cc
  | inr above ↦ above
]

-- items

pub item_added : (value : Snap) (vs : List Snap) (at : ℕ) (place : Option ℕ) → place ≡ Some at → at ≤ length vs
    → with_index (λ i. insert_item i (view value) (items_view vs)) place ≡ Ok (items_view (insert vs at value))
item_added value vs at place is within = rw is (ap Ok (sym (items_view-insert at value vs within)))

pub item_replaced : (value : Snap) (vs : List Snap) (at : ℕ) (place : Option ℕ) → place ≡ Some at
    → with_index (λ i. set_item i (view value) (items_view vs)) place ≡ Ok (items_view (slice_set vs at value))
item_replaced value vs at place is = rw is (ap Ok (sym (items_view-set at value vs)))

pub item_removed : (vs : List Snap) (at : ℕ) (place : Option ℕ) → place ≡ Some at
    → with_index (λ i. remove_item i (items_view vs)) place ≡ Ok (items_view (remove vs at))
item_removed vs at place is = rw is (ap Ok (sym (items_view-remove at vs)))

-- the index of a token that is below a bound
below_is : (bound i : ℕ) (token : List ℕ) → index_below bound token ≡ Some i → index_of token ≡ Some i
below_is bound i token h =
    elim (index_of token) as (λ o. option_and_then (λ (k : ℕ). if nat_lt k bound then Some k else None) o ≡ Some i → o ≡ Some i) [
      | None ↦ λ e. cc
      | Some j ↦ λ e. elim (nat_lt j bound) as (λ b. (if b then Some j else None) ≡ Some i → Some j ≡ Some i) [ true ↦ λ f. f | false ↦ λ f. cc ] e
    ] h

-- a change of the item at an index
pub in_item : (token : List ℕ) (vs : List Snap) (at : ℕ) (v new : Snap) (change : Value → Result Value PatchError) (r : Result (Unit {0}) PatchError)
    → index_below (length vs) token ≡ Some at → slice_get vs at ≡ Some v
    → Answers r (change (view v)) (view new)
    → Answers r (inside_at token change (list tt (items_view vs))) (list tt (items_view (slice_set vs at new)))
in_item token vs at v new change r is here answers =
    let found : item_at at (items_view vs) ≡ Some (view v) = item_at-items_view at vs ∙ ap (option_map view) here in
    let put : Value → Value = λ c. list tt (set_item at c (items_view vs)) in
    let P : Items → Type 0 = λ ps. Answers r (outcome_map put (change (view v))) (list tt ps) in
    rw (below_is (length vs) at token is, found) (subst P (sym (items_view-set at new vs)) (Answers-map put r (change (view v)) (view new) answers))

-- a token that is no item's index
pub no_item : (token : List ℕ) (vs : List Snap) (change : Value → Result Value PatchError)
    → index_below (length vs) token ≡ None → inside_at token change (list tt (items_view vs)) ≡ Err error.Path
no_item token vs change none =
    elim (index_of token) as (λ o. option_and_then (λ (k : ℕ). if nat_lt k (length vs) then Some k else None) o ≡ None → inside (option_map at_index o) change (list tt (items_view vs)) ≡ Err error.Path) [
      | None ↦ λ e. refl
      | Some i ↦ λ e.
          let past : item_at i (items_view vs) ≡ None = item_at-items_view i vs ∙ ap (option_map view) (slice_get_past vs i (past_bound i (length vs) e)) in
          rw past refl
    ] none

pub item_kept : (vs : List Snap) (at : ℕ) (v new : Snap) (r : Result (Unit {0}) PatchError) → slice_get vs at ≡ Some v → OnErr r (new ≡ v) → OnErr r (slice_set vs at new ≡ vs)
item_kept vs at v new (Ok done) here same = tt
item_kept vs at v new (Err e) here same = ap (slice_set vs at) same ∙ set_kept vs at v here

-- fields

pub held_value : (key : List ℕ) (ms after : Fields) (v : Value) → value_at key ms ≡ Some v → where_held key ms after ≡ Ok after
held_value key ms after v held = rw held refl

pub not_held : (key : List ℕ) (ms after : Fields) → value_at key ms ≡ None → where_held key ms after ≡ Err error.Path
not_held key ms after absent = rw absent refl

-- a change of the field at an index
pub in_field : (key : List ℕ) (fs : List Field) (at : ℕ) (f : Field) (new : Snap) (change : Value → Result Value PatchError) (r : Result (Unit {0}) PatchError)
    → AreKeyed (fields_view fs) → slice_get fs at ≡ Some f → f.key ≡ key → value_at key (fields_view fs) ≡ Some (view f.value)
    → Answers r (change (view f.value)) (view new)
    → Answers r (inside_at key change (dict tt (fields_view fs))) (dict tt (fields_view (slice_set fs at (record f { value = new }))))
in_field key fs at f new change r keyed here has held answers =
    let put : Value → Value = λ c. dict tt (set_field key c (fields_view fs)) in
    let P : Fields → Type 0 = λ ms. Answers r (outcome_map put (change (view f.value))) (dict tt ms) in
    rw held (subst P (sym (fields_view-set key new fs at f keyed here has)) (Answers-map put r (change (view f.value)) (view new) answers))

-- a key that isn't held
pub no_field : (key : List ℕ) (ms : Fields) (change : Value → Result Value PatchError) → value_at key ms ≡ None → inside_at key change (dict tt ms) ≡ Err error.Path
no_field key ms change absent = rw absent refl

pub field_kept : (fs : List Field) (at : ℕ) (f : Field) (new : Snap) (r : Result (Unit {0}) PatchError) → slice_get fs at ≡ Some f → OnErr r (new ≡ f.value) → OnErr r (slice_set fs at (record f { value = new }) ≡ fs)
field_kept fs at f new (Ok done) here same = tt
field_kept fs at f new (Err e) here same = ap (λ (v : Snap). slice_set fs at (record f { value = v })) same ∙ set_kept fs at f here

-- a path of more than one token leads into a part
pub deeper : (op : PatchOp) (token : List ℕ) (rest : Path) (v t : Value) → 0 < length rest → changed op (token ∷ rest) v t ≡ inside_at token (changed op rest v) t
deeper op token [] v t more = absurd (omega arith)
deeper op token (next ∷ rest) v t more = refl

-- the field that a search found
pub record Found (key : List ℕ) (fs : List Field) (at : ℕ) : Type 0 where
  pub field : Field
  pub here : slice_get fs at ≡ Some field
  pub has : field.key ≡ key
  pub held : value_at key (fields_view fs) ≡ Some (view field.value)

key_found : (key : List ℕ) (fs gs : List Field) (at : ℕ) (field : Field) → gs ≡ fs → slice_get fs at ≡ Some field
    → ((f : Field) → slice_get gs at ≡ Some f → f.key ≡ key) → field.key ≡ key
key_found key fs gs at field same here keys =
    let P : List Field → Type 0 = λ hs. (f : Field) → slice_get hs at ≡ Some f → f.key ≡ key in
    subst P same keys field here

value_found : (key : List ℕ) (fs gs : List Field) (at : ℕ) (field : Field) → gs ≡ fs → slice_get fs at ≡ Some field
    → ((f : Field) → slice_get gs at ≡ Some f → value_at key (fields_view gs) ≡ Some (view f.value)) → value_at key (fields_view fs) ≡ Some (view field.value)
value_found key fs gs at field same here values =
    let Q : List Field → Type 0 = λ hs. (f : Field) → slice_get hs at ≡ Some f → value_at key (fields_view hs) ≡ Some (view f.value) in
    subst Q same values field here

-- a change of the field that a search found
pub in_found_field : (key : List ℕ) (fs gs : List Field) (at : ℕ) (f : Field) (new : Snap) (change : Value → Result Value PatchError) (r : Result (Unit {0}) PatchError)
    → AreOrderedMembers (fields_view fs) → gs ≡ fs → slice_get fs at ≡ Some f
    → ((g : Field) → slice_get gs at ≡ Some g → g.key ≡ key)
    → ((g : Field) → slice_get gs at ≡ Some g → value_at key (fields_view gs) ≡ Some (view g.value))
    → Answers r (change (view f.value)) (view new)
    → Answers r (inside_at key change (dict tt (fields_view fs))) (dict tt (fields_view (slice_set fs at (record f { value = new }))))
in_found_field key fs gs at f new change r ordered same here keys values answers =
    in_field key fs at f new change r (keyed_from_ordered _ ordered) here (key_found key fs gs at f same here keys) (value_found key fs gs at f same here values) answers

pub item_ordered : (vs : List Snap) (at : ℕ) (v : Snap) → AreOrdered (items_view vs) → slice_get vs at ≡ Some v → IsOrdered (view v)
item_ordered vs at v ordered here = IsOrdered-item_at at (items_view vs) (view v) ordered (item_at-items_view at vs ∙ ap (option_map view) here)

pub field_ordered : (key : List ℕ) (fs gs : List Field) (at : ℕ) (f : Field) → AreOrderedMembers (fields_view fs) → gs ≡ fs → slice_get fs at ≡ Some f
    → ((g : Field) → slice_get gs at ≡ Some g → value_at key (fields_view gs) ≡ Some (view g.value)) → IsOrdered (view f.value)
field_ordered key fs gs at f ordered same here values = IsOrdered-value_at key (fields_view fs) (view f.value) ordered (value_found key fs gs at f same here values)

standing : {X : Type 0} (xs : List X) (at : ℕ) → at < length xs → (x : X) × (slice_get xs at ≡ Some x)
standing [] at within = absurd (omega arith)
standing (x ∷ xs) zero within = (x, refl)
standing (x ∷ xs) (suc at) within = standing xs at (omega arith)

pub found : (key : List ℕ) (fs gs : List Field) (at : ℕ) → gs ≡ fs → at < length gs
    → ((f : Field) → slice_get gs at ≡ Some f → f.key ≡ key)
    → ((f : Field) → slice_get gs at ≡ Some f → value_at key (fields_view gs) ≡ Some (view f.value))
    → Found key fs at
found key fs gs at same within keys values =
    let stands = standing fs at (omega (arith, ap length same)) in
    record { field = stands.0; here = stands.1; has = key_found key fs gs at stands.0 same stands.1 keys; held = value_found key fs gs at stands.0 same stands.1 values }

pub field_replaced : (key : List ℕ) (value : Snap) (fs new : List Field) (at : ℕ) → AreKeyed (fields_view fs) → Found key fs at
    → ((old : Field) → slice_get fs at ≡ Some old → new ≡ slice_set fs at (record old { value = value }))
    → where_held key (fields_view fs) (set_field key (view value) (fields_view fs)) ≡ Ok (fields_view new)
field_replaced key value fs new at keyed f set =
    held_value key (fields_view fs) _ (view f.field.value) f.held
    ∙ ap Ok (sym (ap fields_view (set f.field f.here) ∙ fields_view-set key value fs at f.field keyed f.here f.has))

pub field_put : (key : List ℕ) (value : Snap) (fs new : List Field) (at : ℕ) → AreKeyed (fields_view fs) → Found key fs at
    → ((old : Field) → slice_get fs at ≡ Some old → new ≡ slice_set fs at (record old { value = value }))
    → put_field key (view value) (fields_view fs) ≡ fields_view new
field_put key value fs new at keyed f set =
    let done : fields_view new ≡ set_field key (view value) (fields_view fs) = ap fields_view (set f.field f.here) ∙ fields_view-set key value fs at f.field keyed f.here f.has in
    rw f.held (sym done)

pub field_removed : (key : List ℕ) (fs : List Field) (at : ℕ) → AreKeyed (fields_view fs) → Found key fs at
    → where_held key (fields_view fs) (remove_field key (fields_view fs)) ≡ Ok (fields_view (remove fs at))
field_removed key fs at keyed f =
    held_value key (fields_view fs) _ (view f.field.value) f.held ∙ ap Ok (sym (fields_view-remove key fs at f.field keyed f.here f.has))
