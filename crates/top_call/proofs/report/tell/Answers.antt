-- Each exit has its message.
use Rattle.std.proofs.Common.{ℕ, List, ◌++◌, codes, OnOk, append-nil, subst, ◌∙◌}
use Rattle.edge_core.specs.World.{Gets}
use Rattle.top_call.proofs.report.tell.Goals as goal

pub returns-in-Usage-clause-err : goal.returns-in-Usage-clause-err
returns-in-Usage-clause-err g c = rw c.in-Usage.is c.say.ensures.err

pub returns-in-Unread-clause-err : goal.returns-in-Unread-clause-err
returns-in-Unread-clause-err g c =
    let state = g.W.World.state in
    let P : List ℕ → Type 0 = λ name. OnOk c.say-in-Unread.result (Gets (codes "cannot read " ++ name ++ codes "\n") (state c.args.world.now).err (state c.say-in-Unread.new.world).err) in
    rw c.in-Unread.is (subst P (append-nil c.file_named.result.now ∙ c.file_named.ensures) c.say-in-Unread.ensures.err)

pub returns-in-Syntax-clause-err : goal.returns-in-Syntax-clause-err
returns-in-Syntax-clause-err g c = rw c.in-Syntax.is c.say-in-Syntax.ensures.err

pub returns-in-DoorFailed-clause-err : goal.returns-in-DoorFailed-clause-err
returns-in-DoorFailed-clause-err g c = rw c.in-DoorFailed.is c.say-in-DoorFailed.ensures.err

pub returns-in-Memory-clause-err : goal.returns-in-Memory-clause-err
returns-in-Memory-clause-err g c = rw c.in-Memory.is c.say-in-Memory.ensures.err

pub returns-in-Inside-clause-err : goal.returns-in-Inside-clause-err
returns-in-Inside-clause-err g c = rw c.in-Inside.is c.say-in-Inside.ensures.err

pub returns-in-Checked-clause-out_part : goal.returns-in-Checked-clause-out_part
returns-in-Checked-clause-out_part g c = rw c.in-Checked.is c.write_out.ensures.part
