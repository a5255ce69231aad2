use Rattle.edit_core.proofs.Logged as lemmas
use Rattle.edit_core.proofs.laws.logged_edits_say_all.Goals as goal

pub returns : goal.returns
returns c = record { after = lemmas.logged-after; before = lemmas.logged-before; patch = lemmas.logged-patch; all_after = lemmas.log-after; all_before = lemmas.log-before }
