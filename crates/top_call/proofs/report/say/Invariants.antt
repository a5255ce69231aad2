-- Standard error got the pieces before this one.
use Rattle.std.proofs.Common.{◌≡◌, ◌++◌, codes, drop}
use Rattle.std.specs.List.{flat_map}
use Rattle.edge_core.specs.World.{KeepsFiles}
use Rattle.top_call.proofs.Says.{GetsTo}
use Rattle.top_call.proofs.report.say.Given as goal

abbrev pub invariant-loop-piece : goal.invariant-loop-piece
invariant-loop-piece g l = record {
  err : GetsTo (flat_map (λ piece. piece.now) l.pieces ++ codes "\n") (flat_map (λ piece. piece.now) (drop l.piece-index l.pieces) ++ codes "\n") (g.W.World.state l.fn.world).err (g.W.World.state l.world).err;
  out : (g.W.World.state l.world).out ≡ (g.W.World.state l.fn.world).out;
  keeps : KeepsFiles (g.W.World.state l.fn.world) (g.W.World.state l.world);
}
