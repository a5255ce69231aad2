use Rattle.std.proofs.Common.{sym}
use Rattle.reconcile_core.proofs.Labellings.{kept-as-it-is}
use Rattle.reconcile_core.proofs.labelling.unchanged.Goals as goal

pub returns-in_ok-clone_in-in-Some-clause-kept : goal.returns-in_ok-clone_in-in-Some-clause-kept
returns-in_ok-clone_in-in-Some-clause-kept c = λ table t next.
    rw c.in-Some.is (kept-as-it-is c.in-Some.old.now c.in_ok-clone_in-in-Some.field-0 c.args.new.now c.in_ok-clone_in-in-Some.ensures (sym c.if-equals.ensures) table t next)
