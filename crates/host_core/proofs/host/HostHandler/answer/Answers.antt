use Rattle.http_front.specs.Request as request
use Rattle.route_core.specs.Ask.{seen}
use Rattle.host_core.proofs.Hosting.{host-replies, host-err}
use Rattle.host_core.proofs.host.HostHandler.answer.Goals as goal

pub returns-clause-ok : goal.returns-clause-ok
returns-clause-ok c =
    host-replies c.self.inside.schema (request.seen c.args.request.now) (seen c.asked-asked.result) c.asked-asked.ensures c.self.inside.docs.items c.answer_asked.new.docs.items
    c.args.request.now.close c.args.self.now c.answer_asked.result c.self.view_is c.answer_asked.ensures.answer

pub returns-clause-err : goal.returns-clause-err
returns-clause-err c =
    host-err c.self.inside.schema c.self.inside.docs.items c.answer_asked.new.docs.items c.args.self.now c.answer_asked.result c.self.view_is c.answer_asked.ensures.err
