-- What is left is made of the fields so far.
use Rattle.std.proofs.Common.{◌≡◌, drop}
use Rattle.snap_core.specs.Value.{AreKeyed, no_members}
use Rattle.snap_core.specs.View.{fields_view}
use Rattle.eval_core.specs.Making.{fields_made}
use Rattle.view_engine.specs.Made.{made_of}
use Rattle.view_engine.specs.Progress.{sight_in}
use Rattle.view_engine.proofs.making.record_of.Given as goal

abbrev pub invariant-loop-i : goal.invariant-loop-i
invariant-loop-i g l =
    let seen = sight_in g.S.Bodies.says l.scope in
    record {
      left : fields_made seen (made_of (drop l.i l.entries) (drop l.i l.fn.values)) (fields_view l.fields) ≡ fields_made seen (made_of l.entries l.fn.values) no_members;
      keyed : AreKeyed (fields_view l.fields);
    }
