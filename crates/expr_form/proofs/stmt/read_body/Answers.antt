use Rattle.expr_form.specs.Statements.{most_statements}
use Rattle.expr_form.proofs.stmt.read_body.Goals as goal

pub returns-clause-reads : goal.returns-clause-reads
unfolding most_statements
returns-clause-reads c = c.read_block.ensures.reads
