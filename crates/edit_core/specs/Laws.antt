-- What holds of edits and of reconciling.
use Rattle.std.specs.Prelude.{◌≡◌, ℕ, List, ◌∷◌, [], map, None, IsTrue}
use Rattle.snap_core.specs.Value.{Value, IsOrdered}
use Rattle.patch_core.specs.Fits.{LeadsTo}
use Rattle.edit_core.specs.Labelled.{Labelled, bare}
use Rattle.edit_core.specs.Edit.{Edit, Leads, LeadInTurn, inverse_of}
use Rattle.edit_core.specs.Application.{Fits, after_edit, FitInTurn, after_edits, back}
use Rattle.edit_core.specs.Around.{Around, standing_in, seen_from}
use Rattle.edit_core.specs.Between.{stays, edits_between}
use Rattle.edit_core.specs.Logged.{logged, after_logged, before_logged, patch_of_logged, after_log, before_log}
use Rattle.edit_core.specs.LoggedBetween.{logged_between}
use Rattle.edit_core.specs.Plain.{IsShort, patch_of}
use Rattle.edit_core.specs.Typing.{Typing, Rules, seen}
use Rattle.edit_core.specs.Matching.{first_matching, by_first, same_item}
use Rattle.edit_core.specs.Template.{template, numbered}
use Rattle.edit_core.specs.Labelling.{IsSuited, IsLabelledBy}
use Rattle.edit_core.specs.Rules.{patches_by_rules, item_patches}
use Rattle.edit_core.specs.Numbers.{AreNumbered, MatchesOnce, HasNumbers}
use Rattle.edit_core.specs.Reconciling.{Setting, Written, reconciled, item_set}

-- an edit that leads from a labelled snapshot leads to one alone, which is what the edit makes of it
pub record EditsLeadToOne : Type 0 where
  pub fits : (x y : Labelled) (e : Edit) → Leads x e y → Fits e x × (after_edit e x ≡ y)
  pub in_turn : (x y : Labelled) (es : List Edit) → LeadInTurn x es y → FitInTurn es x × (after_edits es x ≡ y)

-- where an edit leads from one labelled snapshot to another, its inverse leads back, with all labels; likewise
-- the inverses of many, last first
pub record EditsAreTakenBack : Type 0 where
  pub one : (x y : Labelled) (e : Edit) → Leads x e y → Leads y (inverse_of e) x
  pub many : (x y : Labelled) (es : List Edit) → LeadInTurn x es y → LeadInTurn y (back es) x

-- the edits between two labelled snapshots, whichever they are, lead from the one to the other
abbrev pub EditsLeadAcross : Type 0
EditsLeadAcross = (old new : Labelled) → LeadInTurn old (edits_between old new) new

-- What reconciling leaves of a value that is set, whatever the types say and however items are matched.
pub record LeadsToTheNew (s : Setting) (w : Written) : Type 0 where
  -- the edits lead from the old labelled value to the written one
  pub leads : LeadInTurn s.old w.edits w.value
  -- which is, without its labels, the value that is set
  pub given : bare w.value ≡ s.new

abbrev pub ReconcilingLeadsToTheNew : Type 0
ReconcilingLeadsToTheNew = (rules : Rules) (s : Setting) → LeadsToTheNew s (reconciled rules s)

-- each place of a value has a path: keys ascend, and indices are tokens
pub record HasPaths (v : Value) : Type 0 where
  pub ordered : IsOrdered v
  pub short : IsShort v

-- Without labels: from a value that holds the old one at a place, each patch fits in turn, and after them the new
-- value stands at the place, and all around it is as before.
pub record ReconcilingIsPatching (s : Setting) (w : Written) : Type 0 where
  pub inside : (a : Around) (around : List Around) → HasPaths (bare (standing_in (a ∷ around) s.old)) → HasPaths s.new
      → LeadsTo (map (λ e. patch_of (seen_from (a ∷ around) e)) w.edits)
      (bare (standing_in (a ∷ around) s.old)) (bare (standing_in (a ∷ around) w.value))
  -- at the root, where the node stays
  pub at_root : HasPaths (bare s.old) → HasPaths s.new → IsTrue (stays s.old w.value) → LeadsTo (map patch_of w.edits) (bare s.old) s.new

abbrev pub PatchesLeadToTheNew : Type 0
PatchesLeadToTheNew = (rules : Rules) (s : Setting) → ReconcilingIsPatching s (reconciled rules s)

-- a written value has the numbers that it is to have, and no two of its nodes have one number
pub record IsWellNumbered (next : ℕ) (old : Labelled) (w : Written) : Type 0 where
  pub numbers : HasNumbers next old w
  pub again : AreNumbered w.next w.value

abbrev pub NumbersDiffer : Type 0
NumbersDiffer =
    (rules : Rules) (s : Setting) → MatchesOnce rules.matching → IsOrdered s.new → AreNumbered s.next s.old
    → IsWellNumbered s.next s.old (reconciled rules s)

-- the first new item that is the same is matched with one old item alone
abbrev pub FirstMatchesOnce : Type 0
FirstMatchesOnce = (typing : Typing) → MatchesOnce (first_matching typing)

-- an old item that is the same as a new one keeps its node where it is matched with it
abbrev pub MatchedItemsStay : Type 0
MatchedItemsStay =
    (typing : Typing) → IsSuited typing → (s : Setting) → IsLabelledBy typing s.type s.old → IsTrue (same_item typing s.type (seen s.old) s.new)
    → IsTrue (stays s.old (reconciled (by_first typing) s).value)

-- an equal value changes nothing, and where there are no edits, nothing is changed
pub record ChangesNothing (s : Setting) (w : Written) : Type 0 where
  pub equal : s.new ≡ bare s.old → w ≡ record { value = s.old; edits = []; next = s.next }
  pub no_edits : w.edits ≡ [] → w.value ≡ s.old

abbrev pub EqualChangesNothing : Type 0
EqualChangesNothing = (rules : Rules) (s : Setting) → ChangesNothing s (reconciled rules s)

-- labels are those that the types give: of a new value, and of one that is set in the place of an old one
pub record LabelsAreTyped (typing : Typing) : Type 0 where
  pub anew : (next t : ℕ) (v : Value) → IsLabelledBy typing t (numbered next (template (by_first typing) t None v))
  pub again : (s : Setting) → IsLabelledBy typing s.type s.old → IsLabelledBy typing s.type (reconciled (by_first typing) s).value

abbrev pub LabelsFollowTypes : Type 0
LabelsFollowTypes = (typing : Typing) → IsSuited typing → LabelsAreTyped typing

-- a value can be set: the old one is labelled as its type says, with numbers that differ and are below the next
-- one, and the keys of both values ascend
pub record CanBeSet (typing : Typing) (s : Setting) : Type 0 where
  pub suited : IsSuited typing
  pub labelled : IsLabelledBy typing s.type s.old
  pub numbered : AreNumbered s.next s.old
  pub ordered : IsOrdered (bare s.old)
  pub new_ordered : IsOrdered s.new

-- without labels, the edits are exactly the patches that the rules give for the two plain values
abbrev pub ReconcilingFollowsTheRules : Type 0
ReconcilingFollowsTheRules =
    (typing : Typing) (s : Setting) → CanBeSet typing s
    → map patch_of (reconciled (by_first typing) s).edits ≡ patches_by_rules typing s.type (bare s.old) s.new

-- an item that is set alone: its edits lead to the new value, and are, without labels, the patches of its rule
pub record SetsOneItem (typing : Typing) (s : Setting) : Type 0 where
  pub leads : LeadsToTheNew s (item_set (by_first typing) s)
  pub patches : CanBeSet typing s → map patch_of (item_set (by_first typing) s).edits ≡ item_patches typing s.type (bare s.old) s.new

abbrev pub ItemsAreSetAlone : Type 0
ItemsAreSetAlone = (typing : Typing) (s : Setting) → SetsOneItem typing s

-- A logged edit says all that its edit says: what stands around the place is no part of the log.
pub record LoggedEditsSayAll : Type 0 where
  -- applied to the snapshot before, it gives the one after, and taken back from that, the one before
  pub after : (x y : Labelled) (e : Edit) → Leads x e y → after_logged (logged e) x ≡ y
  pub before : (x y : Labelled) (e : Edit) → Leads x e y → before_logged (logged e) y ≡ x
  pub patch : (e : Edit) → patch_of_logged (logged e) ≡ patch_of e
  -- likewise many
  pub all_after : (x y : Labelled) (es : List Edit) → LeadInTurn x es y → after_log (map logged es) x ≡ y
  pub all_before : (x y : Labelled) (es : List Edit) → LeadInTurn x es y → before_log (map logged es) y ≡ x

-- the edits between two labelled snapshots, told by index alone, are those that the log keeps of them
abbrev pub LoggedBetweenIsBetween : Type 0
LoggedBetweenIsBetween = (old new : Labelled) → logged_between old new ≡ map logged (edits_between old new)
