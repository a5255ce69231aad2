-- Values in order without a fault in their numbers are plain.
use Rattle.std.proofs.Common.{◌≡◌, ℕ, ◌+◌, [], decimal, sym, subst}
use Rattle.snap_core.specs.Value.{Value, null, boolean, integer, text, list, dict, no_parts, part, no_members, member, is_whole, IsPlain, ArePlain, ArePlainMembers, IsOrdered, AreOrdered, AreOrderedMembers, Items, Fields}
use Rattle.snap_core.specs.View.{view}
use Rattle.snap_core.specs.Unview.{snap_of}
use Rattle.snap_core.proofs.Views.{view-snap_of}
use Rattle.pointer_core.specs.declared.schema_rule.SchemaRule.TheVariants.{Shape}
use Rattle.schema_form.specs.Faults.{under, number_faults, items_numbers, members_numbers}
use Rattle.schema_form.proofs.NoFaults.{append_none, under_none, unless_none}

mutual
  pub IsPlain-ordered : (v : Value) → IsOrdered v → number_faults v ≡ [] → IsPlain v
  IsPlain-ordered null ordered h = tt
  IsPlain-ordered (boolean b) ordered h = tt
  IsPlain-ordered (integer z) ordered h = unless_none (is_whole z) Shape h
  IsPlain-ordered (text s) ordered h = tt
  IsPlain-ordered (list a ps) ordered h = ArePlain-ordered 0 ps ordered h
  IsPlain-ordered (dict a ms) ordered h = ArePlainMembers-ordered ms ordered h

  ArePlain-ordered : (i : ℕ) (ps : Items) → AreOrdered ps → items_numbers i ps ≡ [] → ArePlain ps
  ArePlain-ordered i no_parts ordered h = tt
  ArePlain-ordered i (part v ps) ordered h =
      let none = append_none (under (decimal i) (number_faults v)) (items_numbers (i + 1) ps) h in
      (IsPlain-ordered v ordered.0 (under_none (decimal i) (number_faults v) none.0), ArePlain-ordered (i + 1) ps ordered.1 none.1)

  ArePlainMembers-ordered : (ms : Fields) → AreOrderedMembers ms → members_numbers ms ≡ [] → ArePlainMembers ms
  ArePlainMembers-ordered no_members ordered h = tt
  ArePlainMembers-ordered (member k v ms) ordered h =
      let none = append_none (under k (number_faults v)) (members_numbers ms) h in
      (IsPlain-ordered v ordered.0 (under_none k (number_faults v) none.0), ordered.1, ArePlainMembers-ordered ms ordered.2 none.1)

-- so is what its `Snap` stands for
pub IsPlain-snap_of : (v : Value) → IsOrdered v → number_faults v ≡ [] → IsPlain (view (snap_of v))
IsPlain-snap_of v ordered h = let P : Value → Type 0 = IsPlain in subst P (sym (view-snap_of v)) (IsPlain-ordered v ordered h)
