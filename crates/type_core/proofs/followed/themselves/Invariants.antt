-- So many types stand beside themselves.
use Rattle.type_core.proofs.Following.{AreThemselves}
use Rattle.type_core.proofs.followed.themselves.Given as goal

abbrev pub invariant-loop-t : goal.invariant-loop-t
invariant-loop-t l = AreThemselves l.ends l.t
