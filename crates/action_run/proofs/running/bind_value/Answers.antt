use Rattle.std.proofs.Common.{◌∷◌, Ok, sym, ap}
use Rattle.answer_ops.specs.View.{answer_of}
use Rattle.action_core.specs.Act.{gives}
use Rattle.action_steps.specs.Acting.{env_of}
use Rattle.action_steps.proofs.Doing.{acts-then, acts-stop, acts-handed, acts-tells}
use Rattle.action_run.proofs.running.bind_value.Goals as goal

pub returns-in_err-given-clause-did : goal.returns-in_err-given-clause-did
returns-in_err-given-clause-did g c =
    λ counted. acts-handed _ c.in_err-given.field-0.0 c.from_residual.result _ _ _ c.from_residual.ensures.1
    (acts-stop answer_of _ c.in_err-given.field-0.0 _ (λ y. gives ((c.args.name.now, y) ∷ env_of c.args.env.now)) _ _ (c.in_err-given.ensures.did counted))

pub returns-clause-did : goal.returns-clause-did
returns-clause-did g c =
    λ counted. acts-then answer_of _ c.in_ok-given.given (Ok tt) _ (λ y. gives ((c.args.name.now, y) ∷ env_of c.args.env.now)) _ _ _ (c.in_ok-given.ensures.did counted)
    (acts-tells _ (Ok tt) (Ok ((c.args.name.now, answer_of c.in_ok-given.given) ∷ env_of c.args.env.now)) _ (ap Ok (sym c.in_ok-bind.ensures.ok)))
