-- The law follows from those of the crate below.
use Rattle.link_core.proofs.Completing as lemmas
use Rattle.link_core.proofs.laws.link_completes.Goals as goal

pub returns : goal.returns
returns g c =
    lemmas.link_completes g.A.Handler.replies
    (record {
      whole_is_only = c.whole_is_only.ensures;
      whole_stays = c.whole_stays.ensures;
      front_of_whole = c.front_of_whole.ensures;
      nothing_is_partial = c.nothing_is_partial.ensures;
    })
