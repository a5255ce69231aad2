use Rattle.http_front.proofs.LawLemmas as lemmas
use Rattle.http_front.proofs.laws.whole_stays.Goals as goal

pub returns : goal.returns
returns c = lemmas.whole_stays
