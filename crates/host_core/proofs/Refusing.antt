-- What isn't read of a request is refused.
use Rattle.std.proofs.Common.{◌≡◌, List, Option, Some, None, Ok, Err, inl, inr, ⊎_elim, refl, subst}
use Rattle.pointer_core.specs.declared.refusal.Rule.TheVariants as rule
use Rattle.snap_core.specs.Value.{Value}
use Rattle.snap_json.specs.Reading.{Reading, value, unwhole, syntax}
use Rattle.http_front.specs.Reply.{Reply}
use Rattle.host_replies.specs.Replies.{rule_reply, place_reply}
use Rattle.host_core.specs.Calling.{CallText, CallsBy, CallsIn, call_text}
use Rattle.host_core.specs.Reading.{Read, ListsIn, value_read}
use Rattle.host_core.specs.Sound.{IsRefusalReply}

-- a body that spells no value
pub value-refused : (r : Reading) (reply : Reply) → value_read r ≡ Err reply → IsRefusalReply reply
value-refused (value v) reply e = absurd (cc)
value-refused (unwhole path) reply e = let same : reply ≡ place_reply rule.Whole path = cc in (rule.Whole, inr (path, same))
value-refused syntax reply e = let same : reply ≡ rule_reply rule.Syntax = cc in (rule.Syntax, inl same)

-- a body that spells no patches
pub list-refused : (given : Read Value) → ((reply : Reply) → given ≡ Err reply → IsRefusalReply reply)
    → (reply : Reply) → ListsIn given (Err reply) → IsRefusalReply reply
list-refused (Ok v) refused reply spells = ⊎_elim (λ shape. (rule.Shape, inl shape.1)) (λ pointer. (rule.Pointer, inl pointer.1)) spells
list-refused (Err other) refused reply is = let same : other ≡ reply = cc in subst IsRefusalReply same (refused other refl)

-- a body that spells no call
pub call-refused : (given : Read Value) → ((reply : Reply) → given ≡ Err reply → IsRefusalReply reply)
    → (reply : Reply) → CallsIn given (Err reply) → IsRefusalReply reply
call-refused (Ok v) refused reply calls = by (call_text v) calls where
  by : (spelled : Option CallText) → CallsBy spelled (Err reply) → IsRefusalReply reply
  by None is = let same : reply ≡ rule_reply rule.Shape = cc in (rule.Shape, inl same)
  by (Some spelled) is = (rule.Pointer, inl is.1)
call-refused (Err other) refused reply is = let same : other ≡ reply = cc in subst IsRefusalReply same (refused other refl)
