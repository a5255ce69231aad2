use Rattle.type_core.proofs.Following.{AreBehind-set}
use Rattle.type_core.proofs.followed.follow.Goals as goal

pub returns-then-t-len : goal.returns-then-t-len
returns-then-t-len c =
    let table = c.args.table.now in
    rw c.set.ensures (AreBehind-set table c.requires.loopless c.args.null c.args.ends.now c.args.t.0 c.in-Some.next c.end_at-end.result c.requires.behind
    (λ v further is. rw c.in-Some.is at (c.next_for.ensures v further is)) (c.end_at-end.ensures table c.args.null (rw (← c.as_slice.ensures) at c.requires.behind)))
