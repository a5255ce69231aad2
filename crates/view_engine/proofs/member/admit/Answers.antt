use Rattle.std.proofs.Common.{◌≡◌, ◌∙◌, rules, None}
use Rattle.view_engine.specs.Progress.{sight_in, standing_of, whole_in}
use Rattle.view_engine.proofs.Seeing.{asked-dead, being-none}
use Rattle.view_engine.proofs.member.admit.Goals as goal

pub returns-then-is_none : goal.returns-then-is_none
returns-then-is_none g c =
    let none : None ≡ c.kind.result = search rules in
    let says = g.S.Bodies.says in
    asked-dead (says c.args.scope.now.schema.now).viewing (sight_in says c.args.scope.now) c.args.scope.now.room (standing_of c.args.scope.now.going).stack c.args.n c.args.v c.refused_at.result
    (being-none (whole_in says c.args.scope.now) c.args.n (none ∙ c.kind.ensures)) c.refused_at.ensures
