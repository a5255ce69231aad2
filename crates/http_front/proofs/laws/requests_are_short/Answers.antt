use Rattle.http_front.proofs.FrontLemmas as lemmas
use Rattle.http_front.proofs.laws.requests_are_short.Goals as goal

pub returns : goal.returns
returns c = record { whole = lemmas.whole_is_short; partial = lemmas.partial_is_short }
