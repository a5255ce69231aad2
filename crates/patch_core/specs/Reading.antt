-- Patches as they are read: the shapes of all first, then their paths.
use Rattle.std.specs.Prelude.{◌≡◌, ℕ, List, [], ◌∷◌, codes, map, Option, Some, None, IsSome, IsSomeAnd, All, Any, if◌then◌else◌}
use Rattle.std.specs.Option.{option_map}
use Rattle.std.specs.Str.{bytes_eq}
use Rattle.snap_core.specs.Value.{Value, Items, text, list, dict, no_parts, part, value_at}
use Rattle.snap_core.specs.View.{view}
use Rattle.pointer_core.specs.Path.{printed}
use Rattle.pointer_core.specs.Spelling.{pointer_fault}
use Rattle.patch_core.specs.declared.error.PatchError.{PatchError}
use Rattle.patch_core.specs.declared.error.PatchError.TheVariants as error
use Rattle.patch_core.specs.declared.patch.PatchOp.{PatchOp}
use Rattle.patch_core.specs.declared.patch.PatchOp.TheVariants.{Add, Replace, Remove}
use Rattle.patch_core.specs.declared.patch.Patch.{Patch}

-- a patch whose path is still a text
pub record Spelling : Type 0 where
  pub op : PatchOp
  pub path : List ℕ
  pub value : Option Value

-- the operation of a name
abbrev pub op_named : List ℕ → Option PatchOp
op_named name =
    if bytes_eq name (codes "add") then Some Add
    else if bytes_eq name (codes "replace") then Some Replace
    else if bytes_eq name (codes "remove") then Some Remove
    else None

-- an operation at a path, with the value that it needs; what a removal is given as one is ignored
abbrev pub spelled : Option PatchOp → List ℕ → Option Value → Option Spelling
spelled (Some Add) path (Some v) = Some (record { op = Add; path = path; value = Some v })
spelled (Some Replace) path (Some v) = Some (record { op = Replace; path = path; value = Some v })
spelled (Some Remove) path value = Some (record { op = Remove; path = path; value = None })
spelled _ _ _ = None

-- a text, where the value is one
abbrev pub text_in : Option Value → Option (List ℕ)
text_in (Some (text t)) = Some t
text_in _ = None

-- an operation's name and a path, where both are texts
abbrev pub spelled_texts : Option (List ℕ) → Option (List ℕ) → Option Value → Option Spelling
spelled_texts (Some name) (Some path) value = spelled (op_named name) path value
spelled_texts _ _ _ = None

-- what a record spells; keys of other names are ignored
abbrev pub spelling_of : Value → Option Spelling
spelling_of (dict a ms) = spelled_texts (text_in (value_at (codes "op") ms)) (text_in (value_at (codes "path") ms)) (value_at (codes "value") ms)
spelling_of _ = None

-- both, where both are there
abbrev pub both : {T : Type 0} → Option T → Option (List T) → Option (List T)
both (Some x) (Some xs) = Some (x ∷ xs)
both _ _ = None

-- what the items spell, where each spells a patch
abbrev pub spellings_of : Items → Option (List Spelling)
spellings_of no_parts = Some []
spellings_of (part v ps) = both (spelling_of v) (spellings_of ps)

-- what a value spells, where it is a list of records of the right shape
abbrev pub spelled_list : Value → Option (List Spelling)
spelled_list (list a ps) = spellings_of ps
spelled_list _ = None

-- how a patch is spelled, its old value aside
abbrev pub spelling_for : Patch → Spelling
spelling_for p = record { op = p.op; path = printed p.path; value = option_map view p.value }

-- a patch that can be applied, and not taken back
abbrev pub without_old : Patch → Patch
without_old p = record p { old = None }

-- what is spelled is these patches, without old values
abbrev pub IsReadAs : Option (List Spelling) → List Patch → Type 0
IsReadAs spellings ps = (spellings ≡ Some (map spelling_for ps)) × All (λ p. p.old ≡ None) ps

-- a value spells these patches
abbrev pub Reads : Value → List Patch → Type 0
Reads v ps = IsReadAs (spelled_list v) ps

-- a path that is no pointer
abbrev pub HasNoPointer : Spelling → Type 0
HasNoPointer spelling = IsSome (pointer_fault spelling.path)

-- a text isn't read as a path
abbrev pub IsPathRefused : List ℕ → PatchError → Type 0
IsPathRefused path error.Memory = Unit {0}
IsPathRefused path error.Pointer = IsSome (pointer_fault path)
IsPathRefused path _ = ⊥

-- why something isn't read: nothing is spelled, or what is spelled is bad
abbrev pub IsRefusedAs : {T : Type 0} → (T → Type 0) → Option T → PatchError → Type 0
IsRefusedAs bad spellings error.Memory = Unit {0}
IsRefusedAs bad spellings error.Shape = spellings ≡ None
IsRefusedAs bad spellings error.Pointer = IsSomeAnd spellings bad
IsRefusedAs bad spellings _ = ⊥

-- a value spells no patches, for this reason: a wrong shape anywhere comes before any path that is no pointer
abbrev pub Refuses : Value → PatchError → Type 0
Refuses v e = IsRefusedAs (Any HasNoPointer) (spelled_list v) e
