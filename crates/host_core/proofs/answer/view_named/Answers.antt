use Rattle.host_core.specs.Asking.{Views}
use Rattle.host_core.specs.Inside.{closes, held_docs, visit_of}
use Rattle.host_core.proofs.Replying.{on-read, on-none, read-is}
use Rattle.host_core.proofs.answer.view_named.Goals as goal

pub ask_view-requires : goal.ask_view-requires
ask_view-requires c = c.requires.documents c.in-Some.at c.index-docs-at.result c.in-Some.ensures.within

pub returns-in-Some : goal.returns-in-Some
returns-in-Some c =
    on-read (closes c.args.visit.now) (Views (visit_of c.args.visit.now) c.args.one.now) c.args.name.now c.args.docs.now c.in-Some.at _ c.ask_view.result
    c.in-Some.ensures.stands (read-is c.args.docs.now c.in-Some.at c.index-docs-at.result c.in-Some.ensures.within) c.ask_view.ensures

pub returns-in-None : goal.returns-in-None
returns-in-None c =
    on-none (closes c.args.visit.now) (Views (visit_of c.args.visit.now) c.args.one.now) c.args.name.now (held_docs c.args.docs.now) c.unknown.result c.in-None.ensures.none c.unknown.ensures
