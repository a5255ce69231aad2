use Rattle.std.proofs.Common.{arith}
use Rattle.node_core.specs.View.{labelled}
use Rattle.reconcile_core.specs.Slots.{same_in}
use Rattle.reconcile_core.proofs.Plainness.{plain-item}
use Rattle.reconcile_core.proofs.Matchings.{pairwise-not}
use Rattle.reconcile_core.proofs.matching.pairwise.Goals as goal

pub returns-then-olds-news : goal.returns-then-olds-news
returns-then-olds-news c = pairwise-not (same_in c.args.types.now.table c.args.t) labelled c.args.olds.now c.args.news.now c.if-olds-news.true

pub same_item-requires : goal.same_item-requires
same_item-requires c = record { plain = plain-item c.args.news.now c.loop-i.i c.index-news-i.result c.requires.plain c.index-news-i.is (omega arith) }
