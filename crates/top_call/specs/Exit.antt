-- How the program ends: the exit statuses, and what is told.
use Rattle.std.specs.Prelude.{ℕ, List, [], ◌++◌, codes, Option, Some, None}
use Rattle.pointer_core.specs.Rule.{schema_rule_name}
use Rattle.top_call.specs.Words.{Command, name_in}
use Rattle.top_call.specs.declared.exit.Exit.{Exit}
use Rattle.top_call.specs.declared.exit.Exit.TheVariants.{Done, Checked, Usage, Unread, Syntax, Refused, DoorFailed, Memory, Inside}

abbrev pub exit_code : Exit → ℕ
exit_code Done = 0
exit_code Checked = 0
exit_code Usage = 2
exit_code Unread = 3
exit_code Syntax = 4
exit_code (Refused pointer rule) = 4
exit_code DoorFailed = 6
exit_code Memory = 7
exit_code Inside = 9

-- the name of the file that the words ask for; none where they are no command
abbrev pub file_named : Option Command → List ℕ
file_named (Some command) = name_in command
file_named None = []

abbrev pub usage : List ℕ
usage = codes "usage: msthost check SCHEMA | run SCHEMA [--db FILE] | serve SCHEMA --port N --links N [--db FILE] | demo N"

-- the message of an exit, without its line end
abbrev pub message : Option Command → Exit → List ℕ
message command Done = []
message command Checked = []
message command Usage = usage
message command Unread = codes "cannot read " ++ file_named command
message command Syntax = codes "schema: syntax"
message command (Refused pointer rule) = codes "schema " ++ pointer ++ codes " " ++ schema_rule_name rule
message command DoorFailed = codes "link failed"
message command Memory = codes "out of memory"
message command Inside = codes "input ended inside a request"

-- what an exit tells standard error: its message and a line end
abbrev pub told_err : Option Command → Exit → List ℕ
told_err command Done = []
told_err command Checked = []
told_err command exit = message command exit ++ codes "\n"

-- what an exit tells standard output
abbrev pub told_out : Exit → List ℕ
told_out Checked = codes "ok\n"
told_out _ = []
