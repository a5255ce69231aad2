-- What is read of JSON can be looked through.
use Rattle.std.proofs.Common.{◌≡◌, ℕ, List, Some, sym}
use Rattle.snap_core.specs.Value.{Value, Fields, IsPlain, IsOrdered, ArePlainMembers, AreKeyed, value_at}
use Rattle.snap_core.proofs.PlainLevels.{IsOrdered-of}
use Rattle.snap_core.proofs.Keys.{AreKeyed-ascending, IsPlain-value_at}

pub keyed : (ms : Fields) → ArePlainMembers ms → AreKeyed ms
keyed ms plain = AreKeyed-ascending ms plain

pub plain_at : (key : List ℕ) (ms : Fields) (v : Value) → ArePlainMembers ms → Some v ≡ value_at key ms → IsPlain v
plain_at key ms v plain found = IsPlain-value_at key ms v plain (sym found)

pub ordered : (v : Value) → IsPlain v → IsOrdered v
ordered v plain = IsOrdered-of v plain
