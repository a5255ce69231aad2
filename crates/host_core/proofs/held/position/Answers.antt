-- Going on behind a document of another name.
use Rattle.std.proofs.Common.{◌≡◌, ◌+◌, ◌∷◌, drop, true, false, sym, ap, ◌∙◌, arith}
use Rattle.std.specs.Str.{bytes_eq}
use Rattle.host_core.proofs.Holding.{drop-here, stands-next, stands-here, find-next}
use Rattle.host_core.proofs.held.position.Goals as goal

pub returns-then-eq-clause-stands : goal.returns-then-eq-clause-stands
returns-then-eq-clause-stands c =
    let docs = c.args.docs.now in
    let here : drop c.loop-at.at docs ≡ c.index-docs-at.result ∷ drop (c.loop-at.at + 1) docs = drop-here docs c.loop-at.at c.index-docs-at.result (omega arith) c.index-docs-at.is in
    let same : bytes_eq c.args.name.now c.index-docs-at.result.name ≡ true = ap (bytes_eq c.args.name.now) (sym c.text.ensures) ∙ sym c.eq.ensures ∙ c.if-eq.true in
    stands-here c.args.name.now c.loop-at.at docs (drop c.loop-at.at docs) (drop (c.loop-at.at + 1) docs) c.index-docs-at.result here same c.loop-at.invariant.stands

pub loop-at-preserved : goal.loop-at-preserved
loop-at-preserved c =
    let docs = c.args.docs.now in
    let here : drop c.loop-at.at docs ≡ c.index-docs-at.result ∷ drop (c.loop-at.at + 1) docs = drop-here docs c.loop-at.at c.index-docs-at.result (omega arith) c.index-docs-at.is in
    let other : bytes_eq c.args.name.now c.index-docs-at.result.name ≡ false = ap (bytes_eq c.args.name.now) (sym c.text.ensures) ∙ sym c.eq.ensures ∙ c.if-eq.false in
    record {
      stands = stands-next c.args.name.now c.loop-at.at docs (drop c.loop-at.at docs) (drop (c.loop-at.at + 1) docs) c.index-docs-at.result here other c.loop-at.invariant.stands;
      found = c.loop-at.invariant.found ∙ find-next c.args.name.now (drop c.loop-at.at docs) (drop (c.loop-at.at + 1) docs) c.index-docs-at.result here other;
    }
