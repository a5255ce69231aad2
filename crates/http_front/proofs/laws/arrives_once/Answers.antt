use Rattle.http_front.proofs.LawLemmas as lemmas
use Rattle.http_front.proofs.laws.arrives_once.Goals as goal

pub returns : goal.returns
returns c = lemmas.arrives_once
