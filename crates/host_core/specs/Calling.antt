-- Bodies that call an action: a record of its name, and where they stand there, of its node's pointer and of what it is given.
use Rattle.std.specs.Prelude.{◌≡◌, ℕ, List, [], codes, Bool, ◌||◌, Option, Some, None, IsSome, Ok, Err, if◌then◌else◌}
use Rattle.std.specs.List.{list_all}
use Rattle.std.specs.Str.{bytes_eq}
use Rattle.snap_core.specs.Value.{Value, Items, Fields, list, dict, no_parts, keys_of, value_at}
use Rattle.snap_core.specs.View.{items_view}
use Rattle.pointer_core.specs.Path.{Path, printed}
use Rattle.pointer_core.specs.Spelling.{pointer_fault}
use Rattle.pointer_core.specs.declared.refusal.Rule.TheVariants as rule
use Rattle.patch_core.specs.Reading.{text_in}
use Rattle.host_replies.specs.Replies.{rule_reply}
use Rattle.host_core.specs.declared.calling.Call as declared
use Rattle.host_core.specs.declared.calling.CallText as declared_text
use Rattle.host_core.specs.Reading.{Read, value_in}

-- an action that is called: of the node at a path, by its name, given these values
pub record Call : Type 0 where
  pub path : Path
  pub name : List ℕ
  pub given : Items

-- a call whose path is still a text
pub record CallText : Type 0 where
  pub path : List ℕ
  pub name : List ℕ
  pub given : Items

-- the keys that such a record may have
abbrev pub is_call_key : List ℕ → Bool
is_call_key key = bytes_eq key (codes "args") || bytes_eq key (codes "name") || bytes_eq key (codes "path")

-- the empty text where there is no value, and otherwise the text that the value has to be
abbrev pub path_in : Option Value → Option (List ℕ)
path_in None = Some []
path_in (Some v) = text_in (Some v)

-- nothing where there is no value, and otherwise the items of the list that the value has to be
abbrev pub given_in : Option Value → Option Items
given_in None = Some no_parts
given_in (Some (list a vs)) = Some vs
given_in (Some v) = None

-- a call, where each of its parts is there
abbrev pub call_of : Option (List ℕ) → Option (List ℕ) → Option Items → Option CallText
call_of (Some path) (Some name) (Some given) = Some (record { path = path; name = name; given = given })
call_of _ _ _ = None

-- what the fields of a record spell
abbrev pub call_among : Fields → Option CallText
call_among ms =
    if list_all is_call_key (keys_of ms)
    then call_of (path_in (value_at (codes "path") ms)) (text_in (value_at (codes "name") ms)) (given_in (value_at (codes "args") ms))
    else None

-- what a value spells
abbrev pub call_text : Value → Option CallText
call_text (dict a ms) = call_among ms
call_text v = None

-- the call of a text, or the refusal of a path that is no pointer
abbrev pub IsCallOf : CallText → Read Call → Type 0
IsCallOf spelled (Ok call) =
    (printed call.path ≡ spelled.path) × (call.name ≡ spelled.name) × (call.given ≡ spelled.given)
IsCallOf spelled (Err reply) = IsSome (pointer_fault spelled.path) × (reply ≡ rule_reply rule.Pointer)

-- what is spelled is a call, or has no such shape
abbrev pub CallsBy : Option CallText → Read Call → Type 0
CallsBy None found = found ≡ Err (rule_reply rule.Shape)
CallsBy (Some spelled) found = IsCallOf spelled found

-- the call that a body spells, or its refusal
abbrev pub CallsIn : Read Value → Read Call → Type 0
CallsIn (Ok v) found = CallsBy (call_text v) found
CallsIn (Err reply) found = found ≡ Err reply

abbrev pub Calls : List ℕ → Read Call → Type 0
Calls body found = CallsIn (value_in body) found

-- For private clauses.

-- a call as the program has it
abbrev pub seen_text : declared_text.CallText → CallText
seen_text call = record { path = call.path.now; name = call.name.now; given = items_view call.given.now }

abbrev pub seen_call : declared.Call → Call
seen_call call = record { path = call.path; name = call.name.now; given = items_view call.given.now }
