-- Each piece is written behind those before it, or a part of it.
use Rattle.std.proofs.Common.{rules, ◌∷◌, [], ℕ, List}
use Rattle.std.specs.Borrow.{Bor}
use Rattle.top_call.proofs.Says.{on_err, says-on, says-part, says-end_part}
use Rattle.top_call.proofs.report.say.Goals as goal

pub returns-in_err-write_err-clause-part : goal.returns-in_err-write_err-clause-part
returns-in_err-write_err-clause-part g c =
    on_err c.from_residual.result _
    (says-part (λ (piece : Bor (List ℕ)). piece.now) c.args.pieces.now c.loop-piece.piece-index _ (10 ∷ []) c.loop-piece-test.true _ _ _ _
    c.as_bytes.ensures.value c.loop-piece.invariant.err c.in_err-write_err.ensures.part)

pub loop-piece-preserved : goal.loop-piece-preserved
loop-piece-preserved g c = record {
  err = says-on (λ (piece : Bor (List ℕ)). piece.now) c.args.pieces.now c.loop-piece.piece-index _ (10 ∷ []) c.loop-piece-test.true _ _ _ _
      c.as_bytes.ensures.value c.loop-piece.invariant.err c.in_ok-write_err.ensures.ok;
  out = search rules;
  keeps = search rules;
}

pub returns-clause-part : goal.returns-clause-part
returns-clause-part g c =
    says-end_part (λ (piece : Bor (List ℕ)). piece.now) c.args.pieces.now c.loop-piece.piece-index (10 ∷ []) c.loop-piece-test.false _ _ _ _
    c.loop-piece.invariant.err c.write_err-2.ensures.part
