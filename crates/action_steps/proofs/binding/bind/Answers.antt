use Rattle.std.proofs.Common.{map, Some}
use Rattle.live_tree.specs.Contents.{state}
use Rattle.action_steps.specs.Acting.{env_of}
use Rattle.action_steps.specs.Beginning.{bound_as}
use Rattle.action_steps.proofs.Names.{names-reached, names-plain}
use Rattle.action_steps.proofs.binding.bind.Goals as goal

pub returns-in-Some-2-clause-plain : goal.returns-in-Some-2-clause-plain
returns-in-Some-2-clause-plain c =
    let types = c.args.types.now in
    let root = (state c.args.tree.now).tree in
    let frame = c.args.frame.now in
    let called = c.args.called.now in
    let env = env_of c.in-Some-2.env in
    names-plain types c.types_are_sound.ensures root frame called c.requires env
    (names-reached types root frame called (map bound_as c.in-Some.given) (Some env) (rw c.in-Some.is at c.in_ok-given.ensures) (rw c.in-Some-2.is at c.in_ok-env.ensures))
