use Rattle.http_front.proofs.FrontLemmas as lemmas
use Rattle.http_front.proofs.laws.front_of_whole.Goals as goal

pub returns : goal.returns
returns c = lemmas.front_of_whole
