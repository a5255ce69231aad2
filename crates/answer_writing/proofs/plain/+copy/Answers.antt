use Rattle.answer_writing.proofs.Copies.{all-copied, one-copied, still-plain}
use Rattle.answer_writing.proofs.plain.+copy.Goals as goal

pub copy_plains-loop-x-preserved : goal.copy_plains-loop-x-preserved
copy_plains-loop-x-preserved t c =
    let l = c.loop-x in
    rw c.in_ok-push.ensures.ok (
      one-copied c.args.xs.now l.x-index l.values l.invariant.0 c.x-item.result c.loop-x-test.true c.x-item.is c.in_ok-copy_plain.field-0 c.in_ok-copy_plain.ensures,
      still-plain c.args.xs.now l.x-index l.values l.invariant.0 c.x-item.result c.loop-x-test.true c.x-item.is c.in_ok-copy_plain.field-0 c.in_ok-copy_plain.ensures l.invariant.1,
    )

pub copy_plains-returns : goal.copy_plains-returns
copy_plains-returns t c = let l = c.loop-x in all-copied c.args.xs.now l.x-index l.values l.invariant.0 c.loop-x-test.false
