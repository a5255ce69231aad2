-- What requests bring: pointers in queries, and values and lists of patches in bodies. What isn't read gets a reply.
use Rattle.std.specs.Prelude.{◌≡◌, ◌⊎◌, ℕ, List, [], codes, IsSome, unwrap_or, Result, Ok, Err}
use Rattle.snap_core.specs.Value.{Value}
use Rattle.pointer_core.specs.Path.{Path, printed}
use Rattle.pointer_core.specs.Spelling.{pointer_fault}
use Rattle.pointer_core.specs.declared.refusal.Rule.TheVariants as rule
use Rattle.patch_core.specs.declared.error.PatchError.TheVariants as patch
use Rattle.patch_core.specs.declared.patch.Patch.{Patch}
use Rattle.patch_core.specs.Reading.{Reads, Refuses}
use Rattle.snap_json.specs.Reading.{Reading, reading, value, unwhole, syntax}
use Rattle.http_front.specs.Query.{query_value}
use Rattle.http_front.specs.Reply.{Reply}
use Rattle.host_replies.specs.Replies.{rule_reply, place_reply}

-- what was read, or the reply to what can't be read
abbrev pub Read : Type 0 → Type 0
Read A = Result A Reply

-- the text of a query's pointer: the value of the first pair named `path`, or nothing
abbrev pub pointer_text : List ℕ → List ℕ
pointer_text query = unwrap_or (query_value query (codes "path")) []

-- the path that a query's pointer spells, or the refusal of a text that spells none
abbrev pub Points : List ℕ → Read Path → Type 0
Points query (Ok path) = printed path ≡ pointer_text query
Points query (Err reply) = IsSome (pointer_fault (pointer_text query)) × (reply ≡ rule_reply rule.Pointer)

-- the value that a body spells, or its refusal
abbrev pub value_read : Reading → Read Value
value_read (value v) = Ok v
value_read (unwhole path) = Err (place_reply rule.Whole path)
value_read syntax = Err (rule_reply rule.Syntax)

abbrev pub value_in : List ℕ → Read Value
value_in body = value_read (reading body)

-- the patches that a value spells; a wrong shape anywhere comes before any path that is no pointer
abbrev pub Spells : Value → Read (List Patch) → Type 0
Spells v (Ok patches) = Reads v patches
Spells v (Err reply) =
    (Refuses v patch.Shape × (reply ≡ rule_reply rule.Shape)) ⊎ (Refuses v patch.Pointer × (reply ≡ rule_reply rule.Pointer))

-- the patches that a body spells, or its refusal
abbrev pub ListsIn : Read Value → Read (List Patch) → Type 0
ListsIn (Ok v) found = Spells v found
ListsIn (Err reply) found = found ≡ Err reply

abbrev pub Lists : List ℕ → Read (List Patch) → Type 0
Lists body found = ListsIn (value_in body) found
