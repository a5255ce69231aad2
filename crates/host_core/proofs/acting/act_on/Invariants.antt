-- The steps are counted on a ledger of their own.
use Rattle.host_core.proofs.acting.act_on.Given as goal

abbrev pub ghosts-act_counted : goal.ghosts-act_counted
ghosts-act_counted a = record { name = a.blank.name; parts = a.blank.parts }
