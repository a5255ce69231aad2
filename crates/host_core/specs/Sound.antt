-- What changes tell of sound documents.
use Rattle.std.specs.Prelude.{◌≡◌, ◌<◌, ◌^◌, ◌⊎◌, List, length, Option, Ok}
use Rattle.snap_core.specs.Value.{Value, IsPlain}
use Rattle.pointer_core.specs.Path.{Path}
use Rattle.pointer_core.specs.declared.refusal.Rule.{Rule}
use Rattle.patch_core.specs.Fits.{LeadsTo}
use Rattle.patch_core.specs.Inverse.{back}
use Rattle.patch_core.specs.declared.patch.Patch.{Patch}
use Rattle.type_table.specs.Table.{Catalog}
use Rattle.type_core.specs.Making.{Refused}
use Rattle.model_syntax.specs.Shown.{ShownBehaviour}
use Rattle.tree_core.specs.Recorded.{IsSoundValue}
use Rattle.action_laws.specs.Laws.{IsPlainBehaving}
use Rattle.action_laws.specs.Schemas.{behaving_by}
use Rattle.http_front.specs.Reply.{Reply}
use Rattle.host_replies.specs.Replies.{rule_reply, place_reply}
use Rattle.host_core.specs.Answering.{Done, acted_reply}
use Rattle.host_core.specs.Asking.{Visit, Acts, Changes, Replaces}
use Rattle.host_core.specs.Reading.{Lists}

-- a schema whose types have no fault, and whose views and actions have plain constants
abbrev pub IsPlainSchema : Catalog → List ShownBehaviour → Type 0
IsPlainSchema types behaviours = IsPlainBehaving (behaving_by types behaviours)

-- a snapshot that a document can show: the root's model makes it of itself, and no identifier stands twice in it
pub record IsSoundSnapshot (types : Catalog) (v : Value) : Type 0 where
  pub plain : IsPlain v
  pub value : IsSoundValue types v

-- the reply holds patches that fit in turn and lead from the snapshot before to the one after, and their inverses, last first,
-- lead back; beside them it may hold the refusal of an action that left them
pub record TellsChange (before : Value) (done : Done) : Type 0 where
  pub patches : List Patch
  pub fault : Option Refused
  pub reply : done.reply ≡ acted_reply fault patches
  pub leads : LeadsTo patches before done.snapshot
  pub leads_back : LeadsTo (back patches) done.snapshot before

-- a reply that names a rule, and its place where it has one, and holds no patches
abbrev pub IsRefusalReply : Reply → Type 0
IsRefusalReply reply = (rule : Rule) × ((reply ≡ rule_reply rule) ⊎ ((path : Path) × (reply ≡ place_reply rule path)))

-- a change is refused, and the snapshot stays
pub record IsRefused (before : Value) (done : Done) : Type 0 where
  pub reply : IsRefusalReply done.reply
  pub same : done.snapshot ≡ before

-- the change is refused and the snapshot stays, or the reply tells how it changed; it is sound again
abbrev pub StaysSound : Catalog → Value → Done → Type 0
StaysSound types before done = IsSoundSnapshot types done.snapshot × (IsRefused before done ⊎ TellsChange before done)

-- so it is after a snapshot that is put in the place of a document's own, after patches, as many as a list of them can hold, and
-- after an action of a plain schema, refused or not
pub record ChangesTell : Type 0 where
  pub by_snapshot : (visit : Visit) (snapshot : Value) (done : Done) → IsSoundSnapshot visit.types snapshot → Replaces visit snapshot done
      → StaysSound visit.types snapshot done
  pub by_patches : (visit : Visit) (snapshot : Value) (done : Done) → IsSoundSnapshot visit.types snapshot
      → ((patches : List Patch) → Lists visit.request.body (Ok patches) → length patches < 2 ^ 31) → Changes visit snapshot done
      → StaysSound visit.types snapshot done
  pub by_action : (visit : Visit) (snapshot : Value) (done : Done) → IsPlainSchema visit.types visit.behaviours
      → IsSoundSnapshot visit.types snapshot → Acts visit snapshot done → StaysSound visit.types snapshot done
