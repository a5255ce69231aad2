-- What contracts see of the parts of expressions while they are put together.
use Rattle.std.specs.Prelude.{Option}
use Rattle.std.specs.Option.{option_map}
use Rattle.std.specs.Borrow.{Bor}
use Rattle.snap_core.specs.View.{view}
use Rattle.snap_core.specs.declared.snap.Field.{Field}
use Rattle.expr_syntax.specs.Syntax.{Expression}
use Rattle.expr_syntax.specs.Shown.{shown}
use Rattle.expr_syntax.specs.declared.expr.Expr.{Expr}
use Rattle.expr_form.specs.declared.keys.Key.{Key}
use Rattle.expr_form.specs.Expressions.{Formed}
use Rattle.expr_form.specs.declared.stmt_keys.StmtKey.{StmtKey}
use Rattle.expr_form.specs.Statements.{StmtFormed}

abbrev pub pair_shown : Expr × Expr → Expression × Expression
pair_shown p = (shown p.0, shown p.1)

-- an object with one key, as its definition has it
abbrev pub formed_seen : Option (Key × Bor Field) → Option Formed
formed_seen formed = option_map (λ p. (p.0, p.1.now.key, view p.1.now.value)) formed

abbrev pub stmt_formed_seen : StmtKey × Bor Field → StmtFormed
stmt_formed_seen formed = (formed.0, formed.1.now.key, view formed.1.now.value)
