-- One run of the program: which outcome has which cause.
use Rattle.std.specs.Prelude.{◌≡◌, ℕ, ◌<◌, ◌≤◌, ◌⊎◌, List, [], ◌∷◌, ◌++◌, length, take, codes, Option, Some, None, IfSome, IsSome, IsSomeAnd, ⊤}
use Rattle.edge_core.specs.World.{WorldState, WorldHasFailed, AsksFor, KeepsFiles, Gets, file_of}
use Rattle.edge_core.specs.Door.{Links, DoorState, DoorHasFailed, AsksToAttach, asked_also}
use Rattle.edge_core.specs.declared.door.AskedPort.{AskedPort}
use Rattle.pointer_core.specs.Path.{Path, printed}
use Rattle.pointer_core.specs.Rule.{schema_rule_name}
use Rattle.pointer_core.specs.declared.schema_rule.SchemaRule.{SchemaRule}
use Rattle.snap_json.specs.Loose.{loosely}
use Rattle.expr_core.specs.Schema.{Schema, behaviours_shown}
use Rattle.schema_read.specs.Schema.{Spells, HasFirst}
use Rattle.http_front.specs.Arrival.{partial, Arrives}
use Rattle.http_front.specs.Request.{Request}
use Rattle.host_core.specs.Sound.{IsPlainSchema}
use Rattle.link_core.specs.Link.{Stand, Turn, Turns}
use Rattle.serve_core.specs.Laws.{AreInputs, AreAnswered}
use Rattle.serve_core.specs.Serving.{Serving, ServesDoor, port_of, most_links}
use Rattle.serve_core.specs.declared.plan.Plan.{Plan}
use Rattle.serve_core.specs.declared.plan.ServeEnd.{ServeEnd}
use Rattle.serve_core.specs.declared.plan.ServeEnd.TheVariants as end
use Rattle.top_call.specs.Answering.{State, start, replies}
use Rattle.top_call.specs.Words.{Command, check, run, name_in, plan_of}
use Rattle.top_call.specs.declared.exit.Exit.{Exit}
use Rattle.top_call.specs.declared.exit.Exit.TheVariants.{Done, Checked, Usage, Unread, Syntax, Refused, DoorFailed, Memory, Inside}
use Rattle.top_call.specs.Report.{Reports}

-- a run of the program: its command, if the words are one, and what the world and the door told before it and after it
pub record Run : Type 0 where
  pub command : Option Command
  pub world_before : WorldState
  pub world_after : WorldState
  pub door_before : DoorState
  pub door_after : DoorState

-- files by name, where they are told
abbrev pub Files : Type 0
Files = Option (List (List ℕ × List ℕ))

-- a fact of the bytes of the file of that name, which is there, where files are told
abbrev pub IfFile : Files → List ℕ → (List ℕ → Type 0) → Type 0
IfFile None name P = ⊤
IfFile (Some files) name P = IsSomeAnd (file_of files name) P

-- there is a command, and the same holds of the file that it names
abbrev pub IfSchemaFile : Run → (List ℕ → Type 0) → Type 0
IfSchemaFile r P = IsSomeAnd r.command (λ command. IfFile r.world_before.files (name_in command) P)

-- the command is run
abbrev pub IsRun : Option Command → Type 0
IsRun (Some (run name)) = ⊤
IsRun _ = ⊥

-- the command serves by this plan; it serves
abbrev pub ServesBy : Option Command → Plan → Type 0
ServesBy command plan = IsSomeAnd command (λ c. plan_of c ≡ Some plan)

abbrev pub IsServing : Option Command → Type 0
IsServing command = (plan : Plan) × ServesBy command plan

-- the command is check
abbrev pub IsCheck : Option Command → Type 0
IsCheck (Some (check name)) = ⊤
IsCheck _ = ⊥

-- a schema file is read up to 262,144 bytes
abbrev pub IsTooLong : List ℕ → Type 0
IsTooLong file = 262144 < length file

-- the bytes are short enough, and spell this schema
pub record IsFileOf (schema : Schema) (file : List ℕ) : Type 0 where
  pub short : length file ≤ 262144
  pub spells : Spells file schema

-- the bytes are short enough, and spell some schema
abbrev pub IsSchemaFile : List ℕ → Type 0
IsSchemaFile file = (schema : Schema) × IsFileOf schema file

-- the bytes are short enough, and no JSON
pub record IsNoJson (file : List ℕ) : Type 0 where
  pub short : length file ≤ 262144
  pub unread : loosely file ≡ None

-- the bytes are short enough, and their first fault has this rule and is at the place that the pointer spells
pub record IsFaulty (pointer : List ℕ) (rule : SchemaRule) (file : List ℕ) : Type 0 where
  pub short : length file ≤ 262144
  pub path : Path
  pub spelled : pointer ≡ printed path
  pub first : HasFirst file (record { path = path; rule = rule })

-- what a plan names, a schema, and the state in the end
pub record Served : Type 0 where
  pub plan : Plan
  pub schema : Schema
  pub last : State

-- serving a schema's requests at the door of a run, from the start
abbrev pub serving_of : Run → Served → Serving State
serving_of r served =
    record {
      plan = served.plan;
      before = record { state = start served.schema; door = r.door_before };
      after = record { state = served.last; door = r.door_after };
    }

-- The command serves, its file is a schema, whose types have no fault and whose views and actions have plain constants, and the
-- door was served so by what answers for it.
pub record IsServed (r : Run) (end : ServeEnd) : Type 0 where
  pub served : Served
  pub serves_by : ServesBy r.command served.plan
  pub plain : IsPlainSchema served.schema.types (behaviours_shown served.schema)
  pub file : IfSchemaFile r (IsFileOf served.schema)
  pub door : ServesDoor replies (serving_of r served) end

-- attaching where the plan says was asked for and failed, so that no link of the door was touched and no request answered
pub record FailedToAttach (r : Run) : Type 0 where
  pub served : IsServed r end.Fault
  pub asks : AsksToAttach (port_of served.served.plan) r.door_before r.door_after
  pub attached : r.door_after.is_attached ≡ r.door_before.is_attached
  pub failed : DoorHasFailed r.door_before r.door_after
  pub unanswered : served.served.last ≡ start served.served.schema

-- those bytes are all that the link brings which comes next
abbrev pub IsNext : List ℕ → List (List ℕ) → Type 0
IsNext came coming = (others : List (List ℕ)) × (coming ≡ came ∷ others)

-- The link brought requests, each of which got its reply, and behind them a beginning of one more. Where links are told, that
-- was all that it had.
pub record EndsInside (r : Run) : Type 0 where
  pub served : IsServed r end.Inside
  pub came : List ℕ
  pub turns : List Turn
  pub between : Stand State
  pub answered : Turns replies (record { state = start served.served.schema; bytes = came }) turns between
  pub some : 0 < length between.bytes
  pub begun : Arrives between.bytes partial
  pub all : IfSome r.door_before.links (λ links. IsNext came links.coming)

-- each exit's cause
abbrev pub Causes : Run → Exit → Type 0
Causes r Usage = r.command ≡ None
Causes r Unread = IsSome r.command × (WorldHasFailed r.world_before r.world_after ⊎ IfSchemaFile r IsTooLong)
Causes r Syntax = IfSchemaFile r IsNoJson
Causes r (Refused pointer rule) = IfSchemaFile r (IsFaulty pointer rule)
Causes r Checked = IsCheck r.command × IfSchemaFile r IsSchemaFile
Causes r Done = IsServed r end.Done
Causes r Inside = IsServed r end.Inside
Causes r DoorFailed = IsServed r end.Fault
Causes r Memory = IsSome r.command × ((r.door_after ≡ r.door_before) ⊎ IsServed r end.Memory)

-- what an exit says of the door beyond its cause: it is as it was where the exit comes before it
abbrev pub LeavesDoor : Run → Exit → Type 0
LeavesDoor r Done = ⊤
LeavesDoor r Inside = ⊤
LeavesDoor r DoorFailed = ⊤
LeavesDoor r Memory = ⊤
LeavesDoor r exit = r.door_after ≡ r.door_before

-- The file that a command names is asked for, once, and no other; where memory runs out first, none is. Other words ask for none.
abbrev pub AsksForSchema : Option Command → Exit → WorldState → WorldState → Type 0
AsksForSchema None exit old new = new ≡ old
AsksForSchema (Some command) exit old new = AsksFor (name_in command) old new ⊎ ((exit ≡ Memory) × (new ≡ old))

-- The run asked for its schema file and came to an exit that has its cause, and left the door as that exit says, while the
-- world told this; then the exit was reported with this status.
pub record Ends (r : Run) (status : ℕ) : Type 0 where
  pub exit : Exit
  pub told : WorldState
  pub asks : AsksForSchema r.command exit r.world_before told
  pub causes : Causes (record r { world_after = told }) exit
  pub door : LeavesDoor (record r { world_after = told }) exit
  pub keeps : KeepsFiles told r.world_after
  pub reports : Reports (record { command = r.command; exit = exit; status = status }) told r.world_after

-- names of files that were asked for: those before, and behind them at most the one that a command names, once
abbrev pub AsksForNoOther : Option Command → List (List ℕ) → List (List ℕ) → Type 0
AsksForNoOther None old new = new ≡ old
AsksForNoOther (Some command) old new = (new ≡ old) ⊎ (new ≡ old ++ name_in command ∷ [])

-- at what the door was asked to attach: as before, or once more where the command's plan says
abbrev pub AttachesByPlan : Option Command → AskedPort → AskedPort → Type 0
AttachesByPlan command old new =
    (new ≡ old) ⊎ ((plan : Plan) × ServesBy command plan × (new ≡ asked_also (port_of plan) old))

-- the message names the file's first fault
pub record RefusesAt (r : Run) : Type 0 where
  pub pointer : List ℕ
  pub rule : SchemaRule
  pub file : IfSchemaFile r (IsFaulty pointer rule)
  pub told :
      Gets (codes "schema " ++ pointer ++ codes " " ++ schema_rule_name rule ++ codes "\n") r.world_before.err r.world_after.err

-- the file is no JSON, or has a first fault, and the message on standard error says so
abbrev pub Refuses : Run → Type 0
Refuses r =
    (IfSchemaFile r IsNoJson × Gets (codes "schema: syntax\n") r.world_before.err r.world_after.err) ⊎ RefusesAt r

-- files are told, and there is such a file of that name
pub record FileIsGiven (files : Files) (name file : List ℕ) : Type 0 where
  pub all_files : List (List ℕ × List ℕ)
  pub told : files ≡ Some all_files
  pub found : file_of all_files name ≡ Some file

-- the command names this file, which is given
pub record NamesFile (r : Run) (file : List ℕ) : Type 0 where
  pub command : Command
  pub named : r.command ≡ Some command
  pub given : FileIsGiven r.world_before.files (name_in command) file

-- files are told, and the command names none of them
pub record NamesNoFile (r : Run) : Type 0 where
  pub command : Command
  pub named : r.command ≡ Some command
  pub all_files : List (List ℕ × List ℕ)
  pub told : r.world_before.files ≡ Some all_files
  pub absent : file_of all_files (name_in command) ≡ None

-- the command is check, and its file is given and is a schema
pub record SchemaIsGiven (r : Run) : Type 0 where
  pub name : List ℕ
  pub file : List ℕ
  pub named : r.command ≡ Some (check name)
  pub given : FileIsGiven r.world_before.files name file
  pub schema : IsSchemaFile file

-- the command serves, its file is given and is this schema, and the links that come next are told and have these requests
pub record RequestsAreGiven (r : Run) (schema : Schema) (requests : List (List Request)) : Type 0 where
  pub command : Command
  pub named : r.command ≡ Some command
  pub plan : Plan
  pub serves_by : plan_of command ≡ Some plan
  pub file : List ℕ
  pub given : FileIsGiven r.world_before.files (name_in command) file
  pub is_schema : IsFileOf schema file
  pub links : Links
  pub told : r.door_before.links ≡ Some links
  pub inputs : AreInputs (take (most_links plan) links.coming) requests

-- each of those requests got its reply, on its link, from what answers for the schema
abbrev pub AreReplied : (r : Run) (schema : Schema) (requests : List (List Request)) → RequestsAreGiven r schema requests → Type 0
AreReplied r schema requests given =
    (last : State)
    × AreAnswered replies (serving_of r (record { plan = given.plan; schema = schema; last = last })) given.links requests
