use Rattle.http_front.proofs.FrontLemmas as lemmas
use Rattle.http_front.proofs.laws.nothing_is_partial.Goals as goal

pub returns : goal.returns
returns c = lemmas.nothing_is_partial
