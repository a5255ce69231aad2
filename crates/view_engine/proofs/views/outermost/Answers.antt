use Rattle.std.proofs.Common.{ap}
use Rattle.eval_core.specs.Asking.{asked}
use Rattle.eval_core.specs.Scope.{Scope}
use Rattle.view_engine.specs.Asks.{sight_by}
use Rattle.view_engine.specs.Progress.{Standing}
use Rattle.view_engine.proofs.Entering.{standing-Nothing}
use Rattle.view_engine.proofs.views.outermost.Goals as goal

pub returns-clause-scope : goal.returns-clause-scope
returns-clause-scope g c =
    let says = g.S.Bodies.says c.args.schema.now in
    let sight = sight_by says c.args.tree.now in
    ap (λ (st : Standing). let s : Scope = record { viewing = says.viewing; sight = sight; ask = asked says.viewing sight 100 st.stack; here = st.here } in s) standing-Nothing
