use Rattle.node_core.proofs.BetweenSteps.{stay-not}
use Rattle.node_core.proofs.item_edits.each_stays.Goals as goal

pub returns-then-olds-news : goal.returns-then-olds-news
returns-then-olds-news c = stay-not c.args.olds.now c.args.news.now c.if-olds-news.true
