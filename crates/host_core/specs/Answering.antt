-- What requests on one document come to: a reply, and the snapshot after it.
use Rattle.std.specs.Prelude.{ℕ, List, Option, Some, None, Ok, Err}
use Rattle.snap_core.specs.Value.{Value}
use Rattle.pointer_core.specs.Path.{Path}
use Rattle.patch_core.specs.declared.patch.Patch.{Patch}
use Rattle.type_table.specs.Table.{Catalog}
use Rattle.type_core.specs.Making.{Outcome, Refused}
use Rattle.edit_core.specs.Labelled.{bare}
use Rattle.tree_core.specs.Asking.{led_from, shown}
use Rattle.tree_core.specs.State.{State, patches_of}
use Rattle.model_syntax.specs.Shown.{ShownView, ShownBehaviour}
use Rattle.doc_core.specs.Acting.{Acted, acted_on}
use Rattle.doc_core.specs.Changing.{patched, replaced, tried}
use Rattle.doc_core.specs.Viewing.{viewed}
use Rattle.http_front.specs.Reply.{Reply}
use Rattle.host_replies.specs.Replies.{place_reply, snapshot_reply, node_reply, answer_reply, change_reply, refused_change_reply}
use Rattle.host_core.specs.Calling.{Call}
use Rattle.host_core.specs.Reading.{Read}

-- a reply, and the document's snapshot after it
pub record Done : Type 0 where
  pub reply : Reply
  pub snapshot : Value

-- the reply to a refusal
abbrev pub refusal_reply : Refused → Reply
refusal_reply refusal = place_reply refusal.rule refusal.path

-- a reply that leaves a document as it is
abbrev pub stays : State → Reply → Done
stays s reply = record { reply = reply; snapshot = bare s.tree }

-- the reply that shows a value, or to its refusal
abbrev pub value_reply : Outcome Value → Reply
value_reply (Ok v) = snapshot_reply 200 v
value_reply (Err refusal) = refusal_reply refusal

-- trying a value changes nothing
abbrev pub trying : Catalog → Read Value → Reply
trying types (Ok v) = value_reply (tried types v)
trying types (Err reply) = reply

-- the value at a pointer
abbrev pub showing : State → Read Path → Reply
showing s (Ok path) = value_reply (shown path s.tree)
showing s (Err reply) = reply

-- where the reference at a pointer leads
abbrev pub target_reply : Outcome (Option Path) → Reply
target_reply (Ok target) = node_reply target
target_reply (Err refusal) = refusal_reply refusal

abbrev pub resolving : Catalog → State → Read Path → Reply
resolving types s (Ok path) = target_reply (led_from types path s.tree)
resolving types s (Err reply) = reply

-- what a view of the node at a pointer answers
abbrev pub answer_of : Outcome Value → Reply
answer_of (Ok v) = answer_reply v
answer_of (Err refusal) = refusal_reply refusal

abbrev pub viewing : Catalog → List (List ShownView) → State → List ℕ → Read Path → Reply
viewing types views s name (Ok path) = answer_of (viewed types views path name s.tree)
viewing types views s name (Err reply) = reply

-- a change with its patches, or its refusal, which leaves all as it is
abbrev pub change_done : State → Outcome State → Done
change_done s (Ok after) = record { reply = change_reply (patches_of after); snapshot = bare after.tree }
change_done s (Err refusal) = stays s (refusal_reply refusal)

abbrev pub patching : Catalog → State → Read (List Patch) → Done
patching types s (Ok patches) = change_done s (patched types patches s)
patching types s (Err reply) = stays s reply

abbrev pub replacing : Catalog → State → Read Value → Done
replacing types s (Ok v) = change_done s (replaced types v s)
replacing types s (Err reply) = stays s reply

-- the patches that stay, and beside them the refusal of an action that left them
abbrev pub acted_reply : Option Refused → List Patch → Reply
acted_reply None patches = change_reply patches
acted_reply (Some refusal) patches = refused_change_reply refusal.rule refusal.path patches

-- an action with its patches, refused or not, or a refusal that leaves all as it is
abbrev pub act_done : State → Outcome Acted → Done
act_done s (Ok acted) = record { reply = acted_reply acted.fault (patches_of acted.after); snapshot = bare acted.after.tree }
act_done s (Err refusal) = stays s (refusal_reply refusal)

abbrev pub acting : Catalog → List ShownBehaviour → State → Read Call → Done
acting types behaviours s (Ok call) = act_done s (acted_on types behaviours call.path call.name call.given s)
acting types behaviours s (Err reply) = stays s reply
