-- The steps are counted on a ledger of their own.
use Rattle.host_core.proofs.document.ask_view_at.Given as goal

abbrev pub ghosts-view_answer : goal.ghosts-view_answer
ghosts-view_answer a = record { name = a.blank.name; parts = a.blank.parts }
