-- Which old item of an array each new one is matched with.
use Rattle.std.specs.Prelude.{ℕ, List, [], ◌∷◌, map, Bool, true, false, ◌&&◌, ◌||◌, Option, Some, None, if◌then◌else◌}
use Rattle.snap_core.specs.Value.{Value}
use Rattle.edit_core.specs.declared.kind.Kind.{Kind}
use Rattle.edit_core.specs.declared.kind.Kind.TheVariants.{Model}
use Rattle.edit_core.specs.Labelled.{Labelled}
use Rattle.edit_core.specs.Comparing.{is_equal}
use Rattle.edit_core.specs.Typing.{Typing, Matching, Rules, Typed, seen, is_kind, equal_under}

-- one model with an identifier made both, and their identifiers are equal
abbrev pub identified : Typing → Option Kind → Typed → Value → Bool
identified typing (Some (Model m)) old new = is_kind old.kind (Model m) && equal_under (typing.identifier_of m) old.value new
identified typing _ old new = false

-- an old item and a new one of a type are the same
abbrev pub same_item : Typing → ℕ → Typed → Value → Bool
same_item typing t old new = is_equal old.value new || identified typing (typing.kind_of t new) old new

-- a new item, and the old one that it is matched with, if any
pub record Slot : Type 0 where
  pub new : Value
  pub old : Option Labelled

abbrev pub is_open : Option Labelled → Bool
is_open None = true
is_open (Some old) = false

-- an old item takes the first new one that is the same and not yet matched
abbrev pub taken : (Labelled → Value → Bool) → Labelled → List Slot → List Slot
taken same old [] = []
taken same old (slot ∷ slots) =
    if is_open slot.old && same old slot.new
    then record { new = slot.new; old = Some old } ∷ slots
    else slot ∷ taken same old slots

-- each old item in turn
abbrev pub all_taken : (Labelled → Value → Bool) → List Labelled → List Slot → List Slot
all_taken same [] slots = slots
all_taken same (old ∷ olds) slots = all_taken same olds (taken same old slots)

abbrev pub open_slot : Value → Slot
open_slot new = record { new = new; old = None }

-- there are as many items, and the items at each index are the same
abbrev pub pairwise : {X : Type 0} → (X → Value → Bool) → List X → List Value → Bool
pairwise same [] [] = true
pairwise same (old ∷ olds) (new ∷ news) = same old new && pairwise same olds news
pairwise same _ _ = false

abbrev pub matched : (Labelled → Value → Bool) → List Labelled → List Value → List (Option Labelled)
matched same olds news =
    if pairwise same olds news then map Some olds else map (λ slot. slot.old) (all_taken same olds (map open_slot news))

-- items that are the same at each index stay there; otherwise each old item is matched with the first new one that is the same
abbrev pub first_matching : Typing → Matching
first_matching typing t olds news = matched (λ old new. same_item typing t (seen old) new) olds news

abbrev pub by_first : Typing → Rules
by_first typing = record { typing = typing; matching = first_matching typing }
