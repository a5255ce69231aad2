-- Each law follows from how a run ends.
use Rattle.serve_core.specs.Laws.{FaultsAreCounted, InsideIsOfStreams, DoorIsLeft}
use Rattle.top_call.specs.Answering.{replies}
use Rattle.top_call.proofs.StatusLaws.{ServingLaws, usage-law, no_command-law, unread-law, refused-law, checked-law, ok-law, done-law, inside-law, cut_inside-law, attached-law, silent-law, door_failed-law, attach_failed-law, memory-law, unwritten-law, told-law}
use Rattle.top_call.proofs.causes.statuses_have_causes.Goals as goal

laws : FaultsAreCounted replies → InsideIsOfStreams replies → DoorIsLeft replies → ServingLaws
laws fault inside door = record { fault = fault; inside = inside; door = door }

pub returns-clause-usage : goal.returns-clause-usage
returns-clause-usage c = usage-law

pub returns-clause-no_command : goal.returns-clause-no_command
returns-clause-no_command c = no_command-law

pub returns-clause-unread : goal.returns-clause-unread
returns-clause-unread c = unread-law

pub returns-clause-refused : goal.returns-clause-refused
returns-clause-refused c = refused-law

pub returns-clause-checked : goal.returns-clause-checked
returns-clause-checked c = checked-law

pub returns-clause-ok : goal.returns-clause-ok
returns-clause-ok c = ok-law

pub returns-clause-done : goal.returns-clause-done
returns-clause-done c = done-law

pub returns-clause-inside : goal.returns-clause-inside
returns-clause-inside c = λ r status ends. inside-law r status ends (laws c.ends_have_causes.ensures.fault c.ends_have_causes.ensures.inside c.ends_have_causes.ensures.door)

pub returns-clause-cut_inside : goal.returns-clause-cut_inside
returns-clause-cut_inside c = λ r status ends. cut_inside-law r status ends (laws c.ends_have_causes.ensures.fault c.ends_have_causes.ensures.inside c.ends_have_causes.ensures.door)

pub returns-clause-attached : goal.returns-clause-attached
returns-clause-attached c = λ r status ends. attached-law r status ends (laws c.ends_have_causes.ensures.fault c.ends_have_causes.ensures.inside c.ends_have_causes.ensures.door)

pub returns-clause-silent : goal.returns-clause-silent
returns-clause-silent c = silent-law

pub returns-clause-door_failed : goal.returns-clause-door_failed
returns-clause-door_failed c = λ r status ends. door_failed-law r status ends (laws c.ends_have_causes.ensures.fault c.ends_have_causes.ensures.inside c.ends_have_causes.ensures.door)

pub returns-clause-attach_failed : goal.returns-clause-attach_failed
returns-clause-attach_failed c = attach_failed-law

pub returns-clause-memory : goal.returns-clause-memory
returns-clause-memory c = memory-law

pub returns-clause-unwritten : goal.returns-clause-unwritten
returns-clause-unwritten c = unwritten-law

pub returns-clause-told : goal.returns-clause-told
returns-clause-told c = told-law
