-- Words of private clauses: what loading a schema file and serving a door come to, and exits before the door.
use Rattle.std.specs.Prelude.{◌≡◌, ◌⊎◌, List, ℕ, None, Result, Ok, Err, ⊤}
use Rattle.edge_core.specs.Door.{DoorState}
use Rattle.edge_core.specs.World.{WorldState, WorldHasFailed}
use Rattle.pointer_core.specs.Path.{Path, printed}
use Rattle.pointer_core.specs.declared.schema_rule.SchemaRule.{SchemaRule}
use Rattle.snap_json.specs.Loose.{loosely}
use Rattle.expr_core.specs.Schema.{Schema}
use Rattle.schema_read.specs.Schema.{Spells, HasFirst}
use Rattle.serve_core.specs.Serving.{ServesDoor}
use Rattle.serve_core.specs.declared.plan.Plan.{Plan}
use Rattle.serve_core.specs.declared.plan.ServeEnd.{ServeEnd}
use Rattle.serve_core.specs.declared.plan.ServeEnd.TheVariants as end
use Rattle.top_call.specs.Answering.{State, start, replies}
use Rattle.top_call.specs.declared.exit.Exit.{Exit}
use Rattle.top_call.specs.declared.exit.Exit.TheVariants.{Done, Unread, Syntax, Refused, DoorFailed, Memory, Inside}
use Rattle.top_call.specs.Run.{IfFile, IsTooLong, IsFileOf, IsNoJson, IsFaulty}

-- an exit that comes before the door
abbrev pub IsBeforeDoor : Exit → Type 0
IsBeforeDoor Done = ⊥
IsBeforeDoor Inside = ⊥
IsBeforeDoor DoorFailed = ⊥
IsBeforeDoor _ = ⊤

-- an exit of the statuses 2, 3 and 4, and that of a check, before which nothing is done at the door
abbrev pub IsEarly : Exit → Type 0
IsEarly Done = ⊥
IsEarly Inside = ⊥
IsEarly DoorFailed = ⊥
IsEarly Memory = ⊥
IsEarly _ = ⊤

-- what loading the schema file of that name comes to
abbrev pub Loads : List ℕ → Result Schema Exit → WorldState → WorldState → Type 0
Loads name (Ok schema) old new = IfFile old.files name (IsFileOf schema)
Loads name (Err Unread) old new = WorldHasFailed old new ⊎ IfFile old.files name IsTooLong
Loads name (Err Syntax) old new = IfFile old.files name IsNoJson
Loads name (Err (Refused pointer rule)) old new = IfFile old.files name (IsFaulty pointer rule)
Loads name (Err Memory) old new = ⊤
Loads name (Err _) old new = ⊥

-- the schema that bytes spell, or why they spell none
abbrev pub SchemaOf : List ℕ → Result Schema Exit → Type 0
SchemaOf file (Ok schema) = Spells file schema
SchemaOf file (Err Syntax) = loosely file ≡ None
SchemaOf file (Err (Refused pointer rule)) =
    (path : Path) × (pointer ≡ printed path) × HasFirst file (record { path = path; rule = rule })
SchemaOf file (Err Memory) = ⊤
SchemaOf file (Err _) = ⊥

-- the exit names this fault, or memory ran out
abbrev pub IsRefusal : Path → SchemaRule → Exit → Type 0
IsRefusal path rule (Refused pointer named) = (pointer ≡ printed path) × (named ≡ rule)
IsRefusal path rule Memory = ⊤
IsRefusal path rule _ = ⊥

-- how the program ends where serving ended so
abbrev pub exit_of : ServeEnd → Exit
exit_of end.Done = Done
exit_of end.Inside = Inside
exit_of end.Memory = Memory
exit_of end.Fault = DoorFailed

-- an exit that serving can come to
abbrev pub IsOfServing : Exit → Type 0
IsOfServing exit = (end : ServeEnd) × (exit ≡ exit_of end)

-- a schema, a plan, and the door before and after
pub record Hosting : Type 0 where
  pub schema : Schema
  pub plan : Plan
  pub before : DoorState
  pub after : DoorState

-- the door was served by what answers for the schema, to this end
abbrev pub ServesSchema : Hosting → ServeEnd → Type 0
ServesSchema hosting end =
    (last : State)
    × ServesDoor replies (record {
      plan = hosting.plan;
      before = record { state = start hosting.schema; door = hosting.before };
      after = record { state = last; door = hosting.after };
    }) end

-- there was no memory to begin, and the door is as it was; or it was served, and the exit says how that ended
abbrev pub Hosts : Hosting → Exit → Type 0
Hosts hosting exit =
    ((exit ≡ Memory) × (hosting.after ≡ hosting.before))
    ⊎ ((end : ServeEnd) × (exit ≡ exit_of end) × ServesSchema hosting end)
