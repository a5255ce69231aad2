-- The rules of reconciling over plain values: which patches lead from an old value to a new one of the same type.
use Rattle.std.specs.Prelude.{ℕ, suc, List, [], ◌∷◌, ◌++◌, map, Bool, Option, Some, None, decimal, if◌then◌else◌}
use Rattle.std.specs.List.{list_any}
use Rattle.std.specs.Str.{bytes_eq}
use Rattle.snap_core.specs.Value.{Value, list, dict, no_parts, part, no_members, member, value_at, Items, Fields}
use Rattle.snap_core.specs.Unview.{snap_of}
use Rattle.pointer_core.specs.Path.{Path}
use Rattle.patch_core.specs.declared.patch.Patch.{Patch}
use Rattle.patch_core.specs.declared.patch.PatchOp.TheVariants.{Add, Replace, Remove}
use Rattle.edit_core.specs.declared.kind.Kind.{Kind}
use Rattle.edit_core.specs.declared.kind.Kind.TheVariants.{Array}
use Rattle.edit_core.specs.Comparing.{is_equal}
use Rattle.edit_core.specs.Typing.{Typing, Typed, stays_as}
use Rattle.edit_core.specs.Matching.{same_item, pairwise}
use Rattle.edit_core.specs.Template.{values_in}

abbrev pub added : Path → Value → Patch
added path new = record { op = Add; path = path; value = Some (snap_of new); old = None }

abbrev pub removed : Path → Value → Patch
removed path old = record { op = Remove; path = path; value = None; old = Some (snap_of old) }

abbrev pub replaced : Path → Value → Value → Patch
replaced path old new = record { op = Replace; path = path; value = Some (snap_of new); old = Some (snap_of old) }

-- a part's patches, as those of what holds it
abbrev pub inside : List ℕ → Patch → Patch
inside token p = record p { path = token ∷ p.path }

abbrev pub all_inside : List ℕ → List Patch → List Patch
all_inside token ps = map (inside token) ps

-- a new part, and the patches that lead to it from an old value of a type
pub record NewPart : Type 0 where
  pub value : Value
  pub patches : ℕ → Value → List Patch

-- a value and the kind that its type gives it
abbrev pub typed : Typing → ℕ → Value → Typed
typed typing t v = record { kind = typing.kind_of t v; value = v }

-- The array rule, for items of a type.

-- where the items are the same at each index, each becomes the new one there, by rising index
abbrev pub at_indices : ℕ → ℕ → List Value → List NewPart → List Patch
at_indices t i (o ∷ os) (n ∷ ns) = all_inside (decimal i) (n.patches t o) ++ at_indices t (suc i) os ns
at_indices t i _ _ = []

-- the new item that an old one is matched with, if any, and those that are left for others
pub record Taking : Type 0 where
  pub match : Option NewPart
  pub left : List (Option NewPart)

-- an old item takes the first new one that is the same and not yet matched
abbrev pub taking : (Value → Value → Bool) → Value → List (Option NewPart) → Taking
taking same old [] = record { match = None; left = [] }
taking same old (None ∷ news) = record { match = (taking same old news).match; left = None ∷ (taking same old news).left }
taking same old (Some new ∷ news) =
    if same old new.value
    then record { match = Some new; left = None ∷ news }
    else record { match = (taking same old news).match; left = Some new ∷ (taking same old news).left }

-- each old item in turn
abbrev pub matches : (Value → Value → Bool) → List Value → List (Option NewPart) → List (Option NewPart)
matches same [] news = []
matches same (old ∷ olds) news = (taking same old news).match ∷ matches same olds (taking same old news).left

-- the items that are matched, at their old indexes, by rising index
abbrev pub patches_to : ℕ → Value → Option NewPart → List Patch
patches_to t old (Some new) = new.patches t old
patches_to t old None = []

abbrev pub in_place : ℕ → ℕ → List Value → List (Option NewPart) → List Patch
in_place t i (o ∷ os) (m ∷ ms) = all_inside (decimal i) (patches_to t o m) ++ in_place t (suc i) os ms
in_place t i _ _ = []

-- what then stands in the place of each old item
abbrev pub value_now : Value → Option NewPart → Value
value_now old (Some new) = new.value
value_now old None = old

abbrev pub values_now : List Value → List (Option NewPart) → List Value
values_now (o ∷ os) (m ∷ ms) = value_now o m ∷ values_now os ms
values_now _ _ = []

-- all removed from the last to the first, and all new ones added from the first to the last
abbrev pub all_removed : ℕ → List Value → List Patch
all_removed i [] = []
all_removed i (v ∷ vs) = all_removed (suc i) vs ++ removed (decimal i ∷ []) v ∷ []

abbrev pub all_added : ℕ → List NewPart → List Patch
all_added i [] = []
all_added i (n ∷ ns) = added (decimal i ∷ []) n.value ∷ all_added (suc i) ns

abbrev pub rewritten : ℕ → List Value → List NewPart → List (Option NewPart) → List Patch
rewritten t olds news ms = in_place t 0 olds ms ++ (all_removed 0 (values_now olds ms) ++ all_added 0 news)

abbrev pub same_values : Typing → ℕ → Value → Value → Bool
same_values typing t old new = same_item typing t (typed typing t old) new

abbrev pub array_rule : Typing → ℕ → List Value → List NewPart → List Patch
array_rule typing t olds news =
    if pairwise (same_values typing t) olds (map (λ n. n.value) news)
    then at_indices t 0 olds news
    else rewritten t olds news (matches (same_values typing t) olds (map Some news))

-- The rule of maps and models.

-- a key of the new value: the patches of its value where it is held, and an addition where it isn't
abbrev pub set_at : List ℕ → ℕ → Option Value → NewPart → List Patch
set_at key t (Some old) new = all_inside key (new.patches t old)
set_at key t None new = added (key ∷ []) new.value ∷ []

abbrev pub all_set : Typing → Kind → Fields → List (List ℕ × NewPart) → List Patch
all_set typing kind olds [] = []
all_set typing kind olds (n ∷ ns) = set_at n.0 (typing.type_under kind n.0) (value_at n.0 olds) n.1 ++ all_set typing kind olds ns

-- the keys that only the old value has
abbrev pub all_cleared : List (List ℕ) → Fields → List Patch
all_cleared keys no_members = []
all_cleared keys (member k old ms) = if list_any (bytes_eq k) keys then all_cleared keys ms else removed (k ∷ []) old ∷ all_cleared keys ms

abbrev pub record_rule : Typing → Kind → Fields → List (List ℕ × NewPart) → List Patch
record_rule typing kind olds news = all_set typing kind olds news ++ all_cleared (map (λ n. n.0) news) olds

-- The items and the fields of a value that is a list or a record.
abbrev pub items_of : Value → List Value
items_of (list a ps) = values_in ps
items_of v = []

abbrev pub fields_of : Value → Fields
fields_of (dict a ms) = ms
fields_of v = no_members

-- where the node stays, the rule of its kind, and otherwise one replacement
abbrev pub array_patches : Typing → Option Kind → Typed → Value → List NewPart → List Patch
array_patches typing (Some (Array t)) old new news =
    if stays_as typing (Array t) old new then array_rule typing t.0 (items_of old.value) news else replaced [] old.value new ∷ []
array_patches typing _ old new news = replaced [] old.value new ∷ []

abbrev pub record_patches : Typing → Option Kind → Typed → Value → List (List ℕ × NewPart) → List Patch
record_patches typing None old new news = replaced [] old.value new ∷ []
record_patches typing (Some (Array t)) old new news = replaced [] old.value new ∷ []
record_patches typing (Some kind) old new news =
    if stays_as typing kind old new then record_rule typing kind (fields_of old.value) news else replaced [] old.value new ∷ []

-- where both are equal, none
abbrev pub unless_same : Value → Value → List Patch → List Patch
unless_same old new patches = if is_equal old new then [] else patches

abbrev mutual
  -- the patches that lead from an old value of a type to a new one
  pub patches_by_rules : Typing → ℕ → Value → Value → List Patch
  patches_by_rules typing t old (list a ps) = unless_same old (list a ps) (array_patches typing (typing.kind_of t (list a ps)) (typed typing t old) (list a ps) (new_items typing ps))
  patches_by_rules typing t old (dict a ms) = unless_same old (dict a ms) (record_patches typing (typing.kind_of t (dict a ms)) (typed typing t old) (dict a ms) (new_fields typing ms))
  patches_by_rules typing t old new = unless_same old new (replaced [] old new ∷ [])

  pub new_items : Typing → Items → List NewPart
  new_items typing no_parts = []
  new_items typing (part v ps) = record { value = v; patches = λ t old. patches_by_rules typing t old v } ∷ new_items typing ps

  pub new_fields : Typing → Fields → List (List ℕ × NewPart)
  new_fields typing no_members = []
  new_fields typing (member k v ms) = (k, record { value = v; patches = λ t old. patches_by_rules typing t old v }) ∷ new_fields typing ms

-- the patches of an item that is set alone: by the rules where it is the same as the old one, otherwise one replacement
abbrev pub item_patches : Typing → ℕ → Value → Value → List Patch
item_patches typing t old new = if same_values typing t old new then patches_by_rules typing t old new else replaced [] old new ∷ []
