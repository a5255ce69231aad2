-- What the end of a run leaves on standard output and standard error.
use Rattle.std.specs.Prelude.{◌≡◌, ℕ, ◌⊎◌, Option}
use Rattle.edge_core.specs.World.{WorldState, WorldHasFailed, Gets, GetsPart}
use Rattle.top_call.specs.Words.{Command}
use Rattle.top_call.specs.Exit.{exit_code, told_err, told_out}
use Rattle.top_call.specs.declared.exit.Exit.{Exit}
use Rattle.top_call.specs.declared.exit.Exit.TheVariants.{Done}

-- how the run of a command ended, and the status that was answered
pub record Ending : Type 0 where
  pub command : Option Command
  pub exit : Exit
  pub status : ℕ

-- the exit is told whole, and its status is answered
pub record Tells (ending : Ending) (old new : WorldState) : Type 0 where
  pub answers : ending.status ≡ exit_code ending.exit
  pub err : Gets (told_err ending.command ending.exit) old.err new.err
  pub out : Gets (told_out ending.exit) old.out new.out

-- an exit that tells something
abbrev pub IsTold : Exit → Type 0
IsTold Done = ⊥
IsTold _ = Unit {0}

-- there was something to tell, and a writing failed: a beginning of what the exit tells was written, and 10 is answered
pub record FailsToTell (ending : Ending) (old new : WorldState) : Type 0 where
  pub answers : ending.status ≡ 10
  pub due : IsTold ending.exit
  pub failed : WorldHasFailed old new
  pub err : GetsPart (told_err ending.command ending.exit) old.err new.err
  pub out : GetsPart (told_out ending.exit) old.out new.out

-- what is written and which status is answered
abbrev pub Reports : Ending → WorldState → WorldState → Type 0
Reports ending old new = Tells ending old new ⊎ FailsToTell ending old new
