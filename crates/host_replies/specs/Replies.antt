-- The replies of a host: a status, and a value whose JSON text is the body.
use Rattle.std.specs.Prelude.{ℕ, List, [], ◌∷◌, ◌++◌, codes, map, Option, Some, None}
use Rattle.snap_core.specs.Value.{Value, null, text, list, dict}
use Rattle.snap_core.specs.View.{parts_of, members_of}
use Rattle.pointer_core.specs.Path.{Path, printed}
use Rattle.pointer_core.specs.Rule.{rule_name, rule_status}
use Rattle.pointer_core.specs.declared.refusal.Rule.{Rule}
use Rattle.pointer_core.specs.declared.refusal.Rule.TheVariants.{Method, Thrown}
use Rattle.patch_core.specs.declared.patch.Patch.{Patch}
use Rattle.patch_core.specs.Inverse.{inverse_of}
use Rattle.patch_core.specs.Printing.{printed_patches}
use Rattle.snap_json.specs.Printing.{json_text}
use Rattle.http_front.specs.Reply.{Reply}

-- a record of these entries, and a record of one entry
abbrev pub record_of : List (List ℕ × Value) → Value
record_of entries = dict tt (members_of entries)

abbrev pub only : List ℕ → Value → Value
only key v = record_of ((key, v) ∷ [])

-- a reply whose body is the text of a value
abbrev pub reply_of : ℕ → Value → Reply
reply_of status body = record { status = status; allow = None; body = json_text body }

-- the reply that names a rule alone, and the one that names a rule and a place
abbrev pub rule_reply : Rule → Reply
rule_reply rule = reply_of (rule_status rule) (only (codes "error") (text (rule_name rule)))

-- the entry of the reason that an action gave, where it ended itself
abbrev pub reason_of : Rule → List (List ℕ × Value)
reason_of (Thrown reason) = (codes "reason", text reason) ∷ []
reason_of rule = []

abbrev pub place_body : Rule → Path → Value
place_body rule path = record_of ((codes "error", text (rule_name rule)) ∷ (codes "path", text (printed path)) ∷ reason_of rule)

abbrev pub place_reply : Rule → Path → Reply
place_reply rule path = reply_of (rule_status rule) (place_body rule path)

-- the reply to another method than these
abbrev pub method_reply : List ℕ → Reply
method_reply methods = record (rule_reply Method) { allow = Some methods }

-- the reply that shows a snapshot
abbrev pub snapshot_reply : ℕ → Value → Reply
snapshot_reply status v = reply_of status (only (codes "snapshot") v)

-- the reply that says what a view answers
abbrev pub answer_reply : Value → Reply
answer_reply v = reply_of 200 (only (codes "answer") v)

-- the reply that lists names
abbrev pub names_reply : List (List ℕ) → Reply
names_reply names = reply_of 200 (only (codes "docs") (list tt (parts_of (map text names))))

-- the reply to the removal of a document
abbrev pub removed_reply : List ℕ → Reply
removed_reply name = reply_of 200 (only (codes "removed") (text name))

-- the reply that says where a reference leads; null where it holds null
abbrev pub node_value : Option Path → Value
node_value None = null
node_value (Some path) = text (printed path)

abbrev pub node_reply : Option Path → Reply
node_reply target = reply_of 200 (only (codes "node") (node_value target))

-- The reply to a change: its patches in order, and the inverse of each in the same order.
abbrev pub change_of : List Patch → List (List ℕ × Value)
change_of patches =
    (codes "inverse", printed_patches (map inverse_of patches)) ∷ (codes "patches", printed_patches patches) ∷ []

abbrev pub change_body : List Patch → Value
change_body patches = record_of (change_of patches)

abbrev pub change_reply : List Patch → Reply
change_reply patches = reply_of 200 (change_body patches)

-- the reply to a refused action that kept patches: the status of the refusal, and its entries and those of the change
abbrev pub refused_change_body : Rule → Path → List Patch → Value
refused_change_body rule path patches =
    record_of ((codes "error", text (rule_name rule)) ∷ change_of patches ++ (codes "path", text (printed path)) ∷ reason_of rule)

abbrev pub refused_change_reply : Rule → Path → List Patch → Reply
refused_change_reply rule path patches = reply_of (rule_status rule) (refused_change_body rule path patches)
