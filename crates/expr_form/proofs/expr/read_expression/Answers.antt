use Rattle.expr_form.specs.Expressions.{most_open}
use Rattle.expr_form.proofs.expr.read_expression.Goals as goal

pub returns-clause-reads : goal.returns-clause-reads
unfolding most_open
returns-clause-reads c = c.read_expr.ensures.reads
