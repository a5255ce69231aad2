-- Keys stay in ascending order, whatever patch is applied.
use Rattle.std.proofs.Common.{◌≡◌, ℕ, List, [], ◌∷◌, Option, Some, None, Result, Ok, Err, refl, sym, subst}
use Rattle.std.specs.Prelude.{is_some, OnErr, if◌then◌else◌}
use Rattle.std.specs.Option.{option_map}
use Rattle.snap_core.specs.View.{view}
use Rattle.snap_core.specs.declared.snap.Snap.{Snap}
use Rattle.patch_core.specs.Outcome.{Answers}
use Rattle.snap_core.specs.Value.{Value, Tree, TreeItems, TreeFields, list, dict, value_at, IsOrdered, AreOrdered, AreOrderedMembers}
use Rattle.snap_core.specs.Level.{Step, count_of, child, set_child, set_field, insert_field, remove_field}
use Rattle.snap_core.proofs.Levels.{AreOrdered-set_item, AreOrdered-insert_item, AreOrdered-remove_item, AreOrderedMembers-set_field, AreOrderedMembers-insert_field, AreOrderedMembers-remove_field, IsOrdered-child, IsOrdered-set_child}
use Rattle.pointer_core.specs.Path.{Path}
use Rattle.patch_core.specs.Place.{step_of}
use Rattle.patch_core.specs.Application.{index_for, with_index, items_changed, items_after, where_held, fields_after, edited, outcome_map, inside, after_part, changed}
use Rattle.patch_core.specs.declared.error.PatchError.{PatchError}
use Rattle.patch_core.specs.declared.error.PatchError.TheVariants as error
use Rattle.patch_core.specs.declared.patch.PatchOp.{PatchOp}
use Rattle.patch_core.specs.declared.patch.PatchOp.TheVariants.{Add, Replace, Remove}

-- what an outcome holds, where it holds something
abbrev pub Holds : {X : Type 0} → (X → Type 0) → Result X PatchError → Type 0
Holds P (Ok x) = P x
Holds P (Err e) = Unit {0}

pub Holds-map : {X Y : Type 0} (P : X → Type 0) (Q : Y → Type 0) (f : X → Y) → ((x : X) → P x → Q (f x)) → (r : Result X PatchError) → Holds P r → Holds Q (outcome_map f r)
Holds-map P Q f carries (Ok x) h = carries x h
Holds-map P Q f carries (Err e) h = tt

item_ordered : {A : Type 0} (op : PatchOp) (i : ℕ) (v : Tree A) (ps : TreeItems A) → IsOrdered v → AreOrdered ps → AreOrdered (items_changed op i v ps)
item_ordered Add i v ps one all = AreOrdered-insert_item i v ps one all
item_ordered Replace i v ps one all = AreOrdered-set_item i v ps one all
item_ordered Remove i v ps one all = AreOrdered-remove_item i ps all

held_ordered : {A : Type 0} (key : List ℕ) (ms after : TreeFields A) → AreOrderedMembers after → Holds (λ ns. AreOrderedMembers ns) (where_held key ms after)
held_ordered {A} key ms after all = elim (value_at key ms) as (λ o. Holds (λ (ns : TreeFields A). AreOrderedMembers ns) (if is_some o then Ok after else Err error.Path)) [
  | None ↦ tt
  | Some w ↦ all
]

items_ordered : {A : Type 0} (op : PatchOp) (token : List ℕ) (v : Tree A) (ps : TreeItems A) → IsOrdered v → AreOrdered ps → Holds (λ qs. AreOrdered qs) (items_after op token v ps)
items_ordered {A} op token v ps one all = elim (index_for op (count_of ps) token) as (λ o. Holds (λ (qs : TreeItems A). AreOrdered qs) (with_index (λ i. items_changed op i v ps) o)) [
  | None ↦ tt
  | Some i ↦ item_ordered op i v ps one all
]

fields_ordered : {A : Type 0} (op : PatchOp) (key : List ℕ) (v : Tree A) (ms : TreeFields A) → IsOrdered v → AreOrderedMembers ms → Holds (λ ns. AreOrderedMembers ns) (fields_after op key v ms)
fields_ordered {A} Add key v ms one all =
    elim (value_at key ms) as (λ o. value_at key ms ≡ o → AreOrderedMembers (if is_some o then set_field key v ms else insert_field key v ms)) [
      | None ↦ λ absent. AreOrderedMembers-insert_field key v ms absent one all
      | Some w ↦ λ held. AreOrderedMembers-set_field key v ms one all
    ] refl
fields_ordered Replace key v ms one all = held_ordered key ms (set_field key v ms) (AreOrderedMembers-set_field key v ms one all)
fields_ordered Remove key v ms one all = held_ordered key ms (remove_field key ms) (AreOrderedMembers-remove_field key ms all)

edited_ordered : {A : Type 0} (op : PatchOp) (token : List ℕ) (v t : Tree A) → IsOrdered v → IsOrdered t → Holds (λ u. IsOrdered u) (edited op token v t)
edited_ordered op token v (list a ps) one ordered = Holds-map (λ qs. AreOrdered qs) (λ u. IsOrdered u) (list a) (λ qs h. h) _ (items_ordered op token v ps one ordered)
edited_ordered op token v (dict a ms) one ordered = Holds-map (λ ns. AreOrderedMembers ns) (λ u. IsOrdered u) (dict a) (λ ns h. h) _ (fields_ordered op token v ms one ordered)
edited_ordered op token v t one ordered = tt

inside_ordered : {A : Type 0} (change : Tree A → Result (Tree A) PatchError) (step : Option Step) (t : Tree A)
    → ((c : Tree A) → IsOrdered c → Holds (λ u. IsOrdered u) (change c)) → IsOrdered t → Holds (λ u. IsOrdered u) (inside step change t)
inside_ordered change None t keeps ordered = tt
inside_ordered {A} change (Some step) t keeps ordered =
    elim (child step t) as (λ o. child step t ≡ o → Holds (λ (u : Tree A). IsOrdered u) (after_part step t (option_map change o))) [
      | None ↦ λ absent. tt
      | Some c ↦ λ held. Holds-map (λ (d : Tree A). IsOrdered d) (λ (u : Tree A). IsOrdered u) (λ d. set_child step d t) (λ d h. IsOrdered-set_child step d t h ordered) (change c) (keeps c (IsOrdered-child step t c ordered held))
    ] refl

pub changed_ordered : {A : Type 0} (op : PatchOp) (path : Path) (v t : Tree A) → IsOrdered v → IsOrdered t → Holds (λ u. IsOrdered u) (changed op path v t)
changed_ordered op [] v t one ordered = tt
changed_ordered op (token ∷ []) v t one ordered = edited_ordered op token v t one ordered
changed_ordered op (token ∷ next ∷ rest) v t one ordered =
    inside_ordered (changed op (next ∷ rest) v) (step_of token t) t (λ c h. changed_ordered op (next ∷ rest) v c one h) ordered

-- the value that a change leads to
pub IsOrdered-changed : {A : Type 0} (op : PatchOp) (path : Path) (v t u : Tree A) → IsOrdered v → IsOrdered t → changed op path v t ≡ Ok u → IsOrdered u
IsOrdered-changed {A} op path v t u one ordered leads =
    let P : Result (Tree A) PatchError → Type 0 = λ r. Holds (λ (x : Tree A). IsOrdered x) r in
    subst P leads (changed_ordered op path v t one ordered)

-- a value that was changed in place, or left as it was
pub stays_ordered : (r : Result (Unit {0}) PatchError) (outcome : Result Value PatchError) (s t : Snap) → Holds (λ u. IsOrdered u) outcome
    → Answers r outcome (view t) → OnErr r (t ≡ s) → IsOrdered (view s) → IsOrdered (view t)
stays_ordered (Ok done) outcome s t holds answers kept ordered = let P : Result Value PatchError → Type 0 = λ o. Holds (λ (u : Value). IsOrdered u) o in subst P answers holds
stays_ordered (Err e) outcome s t holds answers kept ordered = let P : Snap → Type 0 = λ x. IsOrdered (view x) in subst P (sym kept) ordered
