-- null is plain.
use Rattle.std.proofs.Common.{subst, sym}
use Rattle.snap_core.specs.Value.{null, IsPlain}
use Rattle.snap_core.specs.View.{view}
use Rattle.snap_core.specs.declared.snap.Snap.TheVariants as snap
use Rattle.snap_core.proofs.Views.{view-Null}
use Rattle.tree_core.specs.Write.{write_of}
use Rattle.eval_core.specs.Answer.{plain}
use Rattle.answer_writing.proofs.Places.{write-plain}
use Rattle.answer_writing.proofs.placing.judge_place.Goals as goal

pub write_place-requires : goal.write_place-requires
write_place-requires c =
    write-plain c.args.manner (plain null) (view snap.Null) (write_of c.change_by.result) (c.change_by.ensures (plain null)) (subst IsPlain (sym view-Null) tt)
