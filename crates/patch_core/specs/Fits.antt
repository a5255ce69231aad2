-- Which patches fit a value: each names what it changes, as it is.
use Rattle.std.specs.Prelude.{◌≡◌, ℕ, List, [], ◌∷◌, Option, Some, None, Ok}
use Rattle.std.specs.Option.{option_map}
use Rattle.snap_core.specs.Value.{Value, Tree}
use Rattle.snap_core.specs.View.{view}
use Rattle.snap_core.specs.Level.{Step, CanInsert}
use Rattle.pointer_core.specs.Path.{Path}
use Rattle.patch_core.specs.Place.{step_of, part_under}
use Rattle.patch_core.specs.Application.{applied}
use Rattle.patch_core.specs.declared.patch.PatchOp.{PatchOp}
use Rattle.patch_core.specs.declared.patch.PatchOp.TheVariants.{Add, Replace, Remove}
use Rattle.patch_core.specs.declared.patch.Patch.{Patch}

-- a value is written by `Add` and `Replace`, an old one is known of `Replace` and `Remove`
abbrev pub HasValues : {X : Type 0} → PatchOp → Option X → Option X → Type 0
HasValues Add (Some v) None = Unit {0}
HasValues Replace (Some v) (Some old) = Unit {0}
HasValues Remove None (Some old) = Unit {0}
HasValues _ _ _ = ⊥

-- a patch has exactly the values of its operation
abbrev pub IsComplete : Patch → Type 0
IsComplete p = HasValues p.op p.value p.old

-- a new part can stand at a token: an index up to the length, or a key that isn't held
abbrev pub IsNewPlace : {A : Type 0} → List ℕ → Tree A → Type 0
IsNewPlace token t = (step : Step) × (step_of token t ≡ Some step) × CanInsert step t

-- an old value stands at a token
abbrev pub IsHeld : {A : Type 0} → List ℕ → Option (Tree A) → Tree A → Type 0
IsHeld token None t = ⊥
IsHeld token (Some old) t = part_under token t ≡ Some old

-- what an operation finds at a token
abbrev pub FitsPart : {A : Type 0} → PatchOp → List ℕ → Option (Tree A) → Tree A → Type 0
FitsPart Add token old t = IsNewPlace token t
FitsPart Replace token old t = IsHeld token old t
FitsPart Remove token old t = IsHeld token old t

-- what an operation finds at a path
abbrev pub FitsAt : {A : Type 0} → PatchOp → Path → Option (Tree A) → Tree A → Type 0
FitsAt op [] old t = ⊥
FitsAt op (token ∷ []) old t = FitsPart op token old t
FitsAt {A} op (token ∷ next ∷ rest) old t = (c : Tree A) × (part_under token t ≡ Some c) × FitsAt op (next ∷ rest) old c

-- a patch has its values, its path isn't empty, and what it adds is new and what it replaces or removes is its old value
abbrev pub Fits : Patch → Value → Type 0
Fits p s = IsComplete p × FitsAt p.op p.path (option_map view p.old) s

-- from one value, each patch fits in its turn, and the list leads to another
abbrev pub LeadsTo : List Patch → Value → Value → Type 0
LeadsTo [] s t = s ≡ t
LeadsTo (p ∷ ps) s t = (next : Value) × Fits p s × (applied p s ≡ Ok next) × LeadsTo ps next t
