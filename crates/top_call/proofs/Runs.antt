-- From what a run loads and serves to the causes of its exit.
use Rattle.std.proofs.Common.{◌≡◌, ℕ, ◌⊎◌, List, Some, Ok, Err, inl, inr, refl, sym, subst}
use Rattle.std.specs.Prelude.{IsErrOf}
use Rattle.edge_core.specs.World.{WorldState, AsksFor}
use Rattle.edge_core.specs.Door.{DoorState, asked_also}
use Rattle.edge_core.specs.declared.door.AskedPort.{AskedPort}
use Rattle.expr_core.specs.Schema.{Schema, behaviours_shown}
use Rattle.host_core.specs.Sound.{IsPlainSchema}
use Rattle.serve_core.specs.Serving.{port_of}
use Rattle.serve_core.specs.declared.plan.Plan.{Plan}
use Rattle.serve_core.specs.declared.plan.ServeEnd.{ServeEnd}
use Rattle.serve_core.specs.declared.plan.ServeEnd.TheVariants as end
use Rattle.top_call.specs.declared.exit.Exit.{Exit}
use Rattle.top_call.specs.declared.exit.Exit.TheVariants.{Done, Checked, Usage, Unread, Syntax, Refused, DoorFailed, Memory, Inside}
use Rattle.top_call.specs.Words.{Command, name_in, plan_of}
use Rattle.top_call.specs.Run.{Run, IfFile, IsFileOf, IsServed, Causes, LeavesDoor, AsksForSchema, AttachesByPlan}
use Rattle.top_call.specs.RunInside.{IsBeforeDoor, IsEarly, Loads, exit_of, IsOfServing, ServesSchema, Hosts}

-- a run of a command
abbrev pub run_of : Command → WorldState → WorldState → DoorState → DoorState → Run
run_of command w v d e = record { command = Some command; world_before = w; world_after = v; door_before = d; door_after = e }

-- what was served by a schema that was loaded
module _ (command : Command) (w v : WorldState) (d e : DoorState) (schema : Schema) (plan : Plan) (by : plan_of command ≡ Some plan)
    (file : IfFile w.files (name_in command) (IsFileOf schema)) (plain : IsPlainSchema schema.types (behaviours_shown schema)) where
  is_served : (end : ServeEnd) → ServesSchema (record { schema = schema; plan = plan; before = d; after = e }) end → IsServed (run_of command w v d e) end
  is_served end serves = record {
    served = record { plan = plan; schema = schema; last = serves.0 };
    serves_by = by;
    plain = plain;
    file = file;
    door = serves.1;
  }

  cause_of : (end : ServeEnd) → ServesSchema (record { schema = schema; plan = plan; before = d; after = e }) end → Causes (run_of command w v d e) (exit_of end)
  cause_of end.Done serves = is_served end.Done serves
  cause_of end.Inside serves = is_served end.Inside serves
  cause_of end.Memory serves = (refl, inr (is_served end.Memory serves))
  cause_of end.Fault serves = is_served end.Fault serves

  pub hosts-causes : (exit : Exit) → Hosts (record { schema = schema; plan = plan; before = d; after = e }) exit → Causes (run_of command w v d e) exit
  hosts-causes exit (inl early) = subst (Causes (run_of command w v d e)) (sym early.0) (refl, inl early.1)
  hosts-causes exit (inr hosts) = subst (Causes (run_of command w v d e)) (sym hosts.1) (cause_of hosts.0 hosts.2)

-- nothing more is said of the door where it was served
leaves_served : (r : Run) (end : ServeEnd) → LeavesDoor r (exit_of end)
leaves_served r end.Done = tt
leaves_served r end.Inside = tt
leaves_served r end.Memory = tt
leaves_served r end.Fault = tt

pub serves-leaves : (r : Run) (exit : Exit) → IsOfServing exit → LeavesDoor r exit
serves-leaves r exit of = subst (LeavesDoor r) (sym of.1) (leaves_served r of.0)

-- an exit of serving isn't early
never_early : (end : ServeEnd) → IsEarly (exit_of end) → ⊥
never_early end.Done early = early
never_early end.Inside early = early
never_early end.Memory early = early
never_early end.Fault early = early

pub serving-not-early : (exit : Exit) → IsOfServing exit → IsEarly exit → ⊥
serving-not-early exit of early = never_early of.0 (subst IsEarly of.1 early)

-- where the door was asked to attach
pub attaches : (command : Command) (plan : Plan) (old new : AskedPort) → plan_of command ≡ Some plan → (new ≡ old) ⊎ (new ≡ asked_also (port_of plan) old)
    → AttachesByPlan (Some command) old new
attaches command plan old new by (inl same) = inl same
attaches command plan old new by (inr asked) = inr (plan, by, asked)

-- what ends a load comes before the door, and is the cause of the exit
pub before-door : (name : List ℕ) (exit : Exit) (w v : WorldState) → Loads name (Err exit) w v → IsBeforeDoor exit
before-door name Done w v loads = loads
before-door name Inside w v loads = loads
before-door name DoorFailed w v loads = loads
before-door name exit w v loads = tt

pub loads-causes : (command : Command) (exit : Exit) (w v : WorldState) (d e : DoorState) → e ≡ d → Loads (name_in command) (Err exit) w v
    → Causes (run_of command w v d e) exit
loads-causes command Unread w v d e same loads = (refl, loads)
loads-causes command Syntax w v d e same loads = loads
loads-causes command (Refused pointer rule) w v d e same loads = loads
loads-causes command Memory w v d e same loads = (refl, inl same)
loads-causes command exit w v d e same loads = absurd loads

-- what comes before the door leaves it as it was
pub leaves-before : (r : Run) (exit : Exit) → IsBeforeDoor exit → r.door_after ≡ r.door_before → LeavesDoor r exit
leaves-before r Done early same = absurd early
leaves-before r Inside early same = absurd early
leaves-before r DoorFailed early same = absurd early
leaves-before r Memory early same = tt
leaves-before r Usage early same = same
leaves-before r Unread early same = same
leaves-before r Syntax early same = same
leaves-before r (Refused pointer rule) early same = same
leaves-before r Checked early same = same

same_error : (a b : Exit) → IsErrOf {T = Schema} (Err a) b → a ≡ b
same_error a b e = cc

-- a file that was loaded was asked for, and one that wasn't was too, unless memory ran out
pub asks-loaded : (command : Command) (schema : Schema) (exit : Exit) (w v : WorldState)
    → AsksFor (name_in command) w v ⊎ (IsErrOf {T = Schema} (Ok schema) Memory × (v ≡ w)) → AsksForSchema (Some command) exit w v
asks-loaded command schema exit w v (inl asks) = inl asks
asks-loaded command schema exit w v (inr early) = absurd (let e : Ok schema ≡ Err Memory = early.0 in cc)

pub asks-refused : (command : Command) (exit : Exit) (w v : WorldState)
    → AsksFor (name_in command) w v ⊎ (IsErrOf {T = Schema} (Err exit) Memory × (v ≡ w)) → AsksForSchema (Some command) exit w v
asks-refused command exit w v (inl asks) = inl asks
asks-refused command exit w v (inr early) = inr (same_error exit Memory early.0, early.1)
