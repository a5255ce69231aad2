use Rattle.std.proofs.Common.{Some, sym, ap, ◌∙◌, arith}
use Rattle.edge_core.specs.LinkInside.{BoundedLink}
use Rattle.edge_core.proofs.Written.{written-ended, written-open, written-after_open, written-after_ended}
use Rattle.edge_core.proofs.memory_door.MemoryDoor.written.Goals as goal

pub returns-then-link-ended : goal.returns-then-link-ended
returns-then-link-ended c =
    rw (← c.self.view_is) (ap Some (c.written.ensures ∙ ap (λ (b : BoundedLink). b.link.written) c.index.ensures) ∙ sym (written-ended c.self.inside c.args.link c.index.result.now (omega arith)))

pub returns-in-Some : goal.returns-in-Some
returns-in-Some c =
    rw (← c.self.view_is) (ap Some c.written-in-Some.ensures ∙ sym (written-open c.self.inside c.args.link c.in-Some.open (omega arith) c.in-Some.is))

pub returns-in-Some-2 : goal.returns-in-Some-2
returns-in-Some-2 c =
    rw (← c.self.view_is) (c.unwritten.ensures ∙ sym (written-after_open c.self.inside c.args.link _ c.in-Some-2.field-0 (omega arith) c.in-Some-2.is))

pub returns-in-None : goal.returns-in-None
returns-in-None c =
    rw (← c.self.view_is) (c.unwritten-in-None.ensures ∙ sym (written-after_ended c.self.inside c.args.link _ (omega arith) c.in-None.is))
