-- What records with ascending keys have, and what stands under a key of theirs.
use Rattle.std.proofs.Common.{◌≡◌, ℕ, List, true, false, Some, if◌then◌else◌, subst}
use Rattle.std.specs.Str.{bytes_eq}
use Rattle.snap_core.specs.Value.{Value, no_members, member, IsPlain, IsOrdered, ArePlainMembers, AreKeyed, AreOrderedMembers, value_at, Fields}

pub AreKeyed-ascending : (ms : Fields) → ArePlainMembers ms → AreKeyed ms
AreKeyed-ascending no_members h = tt
AreKeyed-ascending (member k v ms) h = (h.1, AreKeyed-ascending ms h.2)

pub AreKeyed-ordered : (ms : Fields) → AreOrderedMembers ms → AreKeyed ms
AreKeyed-ordered no_members h = tt
AreKeyed-ordered (member k v ms) h = (h.1, AreKeyed-ordered ms h.2)

-- each value in a record is as the record is
pub IsPlain-value_at : (key : List ℕ) (ms : Fields) (v : Value) → ArePlainMembers ms → value_at key ms ≡ Some v → IsPlain v
IsPlain-value_at key no_members v plain h = cc
IsPlain-value_at key (member k w ms) v plain h =
    elim (bytes_eq key k) as (λ b. (if b then Some w else value_at key ms) ≡ Some v → IsPlain v) [
      | true ↦ λ e. let same : w ≡ v = cc e in let P : Value → Type 0 = IsPlain in subst P same plain.0
      | false ↦ λ e. IsPlain-value_at key ms v plain.2 e
    ] h

pub IsOrdered-value_at : (key : List ℕ) (ms : Fields) (v : Value) → AreOrderedMembers ms → value_at key ms ≡ Some v → IsOrdered v
IsOrdered-value_at key no_members v ordered h = cc
IsOrdered-value_at key (member k w ms) v ordered h =
    elim (bytes_eq key k) as (λ b. (if b then Some w else value_at key ms) ≡ Some v → IsOrdered v) [
      | true ↦ λ e. let same : w ≡ v = cc e in let P : Value → Type 0 = IsOrdered in subst P same ordered.0
      | false ↦ λ e. IsOrdered-value_at key ms v ordered.2 e
    ] h
