-- What a patch makes of a value.
use Rattle.std.specs.Prelude.{ℕ, List, [], ◌∷◌, Option, Some, None, unwrap_or, Result, Ok, Err, is_some, IsSome, if◌then◌else◌}
use Rattle.std.specs.Option.{option_map}
use Rattle.snap_core.specs.Value.{Value, Tree, TreeItems, TreeFields, null, list, dict, value_at}
use Rattle.snap_core.specs.View.{view}
use Rattle.snap_core.specs.Level.{Step, count_of, set_item, insert_item, remove_item, set_field, insert_field, remove_field, child, set_child}
use Rattle.pointer_core.specs.Path.{Path}
use Rattle.patch_core.specs.Place.{step_of, index_below, new_index}
use Rattle.patch_core.specs.declared.error.PatchError.{PatchError}
use Rattle.patch_core.specs.declared.error.PatchError.TheVariants as error
use Rattle.patch_core.specs.declared.patch.PatchOp.{PatchOp}
use Rattle.patch_core.specs.declared.patch.PatchOp.TheVariants.{Add, Replace, Remove}
use Rattle.patch_core.specs.declared.patch.Patch.{Patch}

-- an outcome, with a change of its value
abbrev pub outcome_map : {T U : Type 0} → (T → U) → Result T PatchError → Result U PatchError
outcome_map f (Ok x) = Ok (f x)
outcome_map f (Err e) = Err e

-- the index that an operation takes a token for, in a list of a length
abbrev pub index_for : PatchOp → ℕ → List ℕ → Option ℕ
index_for Add length token = new_index length token
index_for Replace length token = index_below length token
index_for Remove length token = index_below length token

-- what comes of an index, where there is one
abbrev pub with_index : {X : Type 0} → (ℕ → X) → Option ℕ → Result X PatchError
with_index change None = Err error.Index
with_index change (Some i) = Ok (change i)

-- the items after an operation at an index
abbrev pub items_changed : {A : Type 0} → PatchOp → ℕ → Tree A → TreeItems A → TreeItems A
items_changed Add i v ps = insert_item i v ps
items_changed Replace i v ps = set_item i v ps
items_changed Remove i v ps = remove_item i ps

-- a list's items after an operation at a token
abbrev pub items_after : {A : Type 0} → PatchOp → List ℕ → Tree A → TreeItems A → Result (TreeItems A) PatchError
items_after op token v ps = with_index (λ i. items_changed op i v ps) (index_for op (count_of ps) token)

-- what comes of a key, where it is held
abbrev pub where_held : {A : Type 0} → List ℕ → TreeFields A → TreeFields A → Result (TreeFields A) PatchError
where_held key ms after = if is_some (value_at key ms) then Ok after else Err error.Path

-- the fields with a value under a key, be it held or not
abbrev pub put_field : {A : Type 0} → List ℕ → Tree A → TreeFields A → TreeFields A
put_field key v ms = if is_some (value_at key ms) then set_field key v ms else insert_field key v ms

-- a record's fields after an operation at a key
abbrev pub fields_after : {A : Type 0} → PatchOp → List ℕ → Tree A → TreeFields A → Result (TreeFields A) PatchError
fields_after Add key v ms = Ok (put_field key v ms)
fields_after Replace key v ms = where_held key ms (set_field key v ms)
fields_after Remove key v ms = where_held key ms (remove_field key ms)

-- a value after an operation on the part that a token names
abbrev pub edited : {A : Type 0} → PatchOp → List ℕ → Tree A → Tree A → Result (Tree A) PatchError
edited op token v (list a ps) = outcome_map (list a) (items_after op token v ps)
edited op token v (dict a ms) = outcome_map (dict a) (fields_after op token v ms)
edited op token v _ = Err error.Path

-- a value after a change of its part at a step
abbrev pub after_part : {A : Type 0} → Step → Tree A → Option (Result (Tree A) PatchError) → Result (Tree A) PatchError
after_part step t None = Err error.Path
after_part step t (Some outcome) = outcome_map (λ c. set_child step c t) outcome

abbrev pub inside : {A : Type 0} → Option Step → (Tree A → Result (Tree A) PatchError) → Tree A → Result (Tree A) PatchError
inside None change t = Err error.Path
inside (Some step) change t = after_part step t (option_map change (child step t))

-- a value after a change of the part that a token names
abbrev pub inside_at : {A : Type 0} → List ℕ → (Tree A → Result (Tree A) PatchError) → Tree A → Result (Tree A) PatchError
inside_at token change t = inside (step_of token t) change t

-- a value after an operation at a path, with the value that is written
abbrev pub changed : {A : Type 0} → PatchOp → Path → Tree A → Tree A → Result (Tree A) PatchError
changed op [] v t = Err error.Path
changed op (token ∷ []) v t = edited op token v t
changed op (token ∷ next ∷ rest) v t = inside_at token (changed op (next ∷ rest) v) t

-- an operation that writes has the value that it writes
abbrev pub HasWritten : {X : Type 0} → PatchOp → Option X → Type 0
HasWritten Add value = IsSome value
HasWritten Replace value = IsSome value
HasWritten Remove value = Unit {0}

abbrev pub HasValue : Patch → Type 0
HasValue p = HasWritten p.op p.value

-- the value that a patch writes; a removal writes nothing, and null stands for that
abbrev pub written : Patch → Value
written p = unwrap_or (option_map view p.value) null

-- a value after a patch
abbrev pub applied : Patch → Value → Result Value PatchError
applied p s = changed p.op p.path (written p) s
