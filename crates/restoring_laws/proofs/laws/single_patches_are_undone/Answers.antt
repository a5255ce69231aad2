use Rattle.restoring_laws.proofs.Single as lemmas
use Rattle.restoring_laws.proofs.laws.single_patches_are_undone.Goals as goal

pub returns : goal.returns
returns c = lemmas.lists-undone
