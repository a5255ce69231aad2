-- The exit of the run is reported.
use Rattle.std.specs.Option.{option_map}
use Rattle.top_call.specs.Words.{command_of, seen}
use Rattle.top_call.specs.Run.{Run, Ends}
use Rattle.top_call.proofs.Grammar.{grammar}
use Rattle.top_call.proofs.Ends.{reported, early, ends-statuses, ends-files, ends-count, ends-asked_files}
use Rattle.top_call.proofs.program.host.Given.{Over}
use Rattle.top_call.proofs.program.host.Goals as goal

-- the run of the program
run : (g : Over) (c : goal.Joined-exit g) → Run
run g c = record {
  command = command_of c.args.words.now;
  world_before = g.W.World.state c.args.world.now;
  world_after = g.W.World.state c.report_exit.new.world;
  door_before = g.D.Door.state c.args.door.now;
  door_after = g.D.Door.state c.run-exit.new.door;
}

ends : (g : Over) (c : goal.Joined-exit g) → Ends (run g c) c.report_exit.result
unfolding run
ends g c =
    reported (run g c) c.report_exit.result (option_map seen c.command_of-command.result) c.run-exit.result (g.W.World.state c.run-exit.new.world)
    c.command_of-command.ensures c.run-exit.ensures.asks c.run-exit.ensures.causes c.run-exit.ensures.door c.report_exit.ensures.keeps c.report_exit.ensures.reports

pub returns-clause-ends : goal.returns-clause-ends
unfolding run
returns-clause-ends g c = ends g c

pub returns-clause-grammar : goal.returns-clause-grammar
returns-clause-grammar g c = grammar c.args.words.now

pub returns-clause-statuses : goal.returns-clause-statuses
returns-clause-statuses g c = ends-statuses (run g c) c.report_exit.result (ends g c)

pub returns-clause-untouched : goal.returns-clause-untouched
returns-clause-untouched g c = λ is. c.run-exit.ensures.untouched (early _ _ _ c.report_exit.ensures.reports is)

pub returns-clause-asked_files : goal.returns-clause-asked_files
unfolding run
returns-clause-asked_files g c = ends-asked_files (run g c) c.report_exit.result (ends g c)

pub returns-clause-asked_port : goal.returns-clause-asked_port
returns-clause-asked_port g c = rw c.command_of-command.ensures at c.run-exit.ensures.asked_port

pub returns-clause-files : goal.returns-clause-files
unfolding run
returns-clause-files g c = ends-files (run g c) c.report_exit.result (ends g c)

pub returns-clause-world_count : goal.returns-clause-world_count
unfolding run
returns-clause-world_count g c = ends-count (run g c) c.report_exit.result (ends g c)
