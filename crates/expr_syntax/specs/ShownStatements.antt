-- The statements that a `Stmt` or a `Block` shows.
use Rattle.std.specs.Prelude.{List, [], ◌∷◌, map}
use Rattle.expr_syntax.specs.declared.stmt.Stmt.{Stmt}
use Rattle.expr_syntax.specs.declared.stmt.Block.{Block}
use Rattle.expr_syntax.specs.declared.stmt.Stmt.TheFolds.{fold-Stmt, fold-Block}
use Rattle.expr_syntax.specs.declared.stmt.Stmt.TheOpen.{Stmt-F, Block-F}
use Rattle.expr_syntax.specs.Syntax.{Statement, Statements, set, put, push, insert, replace, drop, clear, apply, each, call, attempt, throw, done, run}
use Rattle.expr_syntax.specs.Shown.{shown, expressions}

-- statements in order
abbrev pub statements : List Statement → Statements
statements [] = done
statements (s ∷ ss) = run s (statements ss)

-- one statement, with each block in it already seen as the statements that it shows
abbrev pub stmt_step : Stmt-F Statement Statements → Statement
stmt_step (Stmt-F.Set e p v) = set (shown e.value) p (shown v.value)
stmt_step (Stmt-F.Put e k v) = put (shown e.value) (shown k.value) (shown v.value)
stmt_step (Stmt-F.Push e v) = push (shown e.value) (shown v.value)
stmt_step (Stmt-F.Insert e i v) = insert (shown e.value) (shown i.value) (shown v.value)
stmt_step (Stmt-F.Replace e i v) = replace (shown e.value) (shown i.value) (shown v.value)
stmt_step (Stmt-F.Drop e k) = drop (shown e.value) (shown k.value)
stmt_step (Stmt-F.Clear e) = clear (shown e.value)
stmt_step (Stmt-F.Apply e v) = apply (shown e.value) (shown v.value)
stmt_step (Stmt-F.Let x e) = Statement.bind x (shown e.value)
stmt_step (Stmt-F.If c a b) = Statement.choice (shown c.value) a b
stmt_step (Stmt-F.Each e x b) = each (shown e.value) x b
stmt_step (Stmt-F.Call e a es) = call (shown e.value) a (expressions (map shown es))
stmt_step (Stmt-F.Try a b) = attempt a b
stmt_step (Stmt-F.Throw r) = throw r

abbrev pub block_step : Block-F Statement Statements → Statements
block_step b = statements b.statements

abbrev pub stmt_shown : Stmt → Statement
stmt_shown = fold-Stmt Statement Statements stmt_step block_step

abbrev pub block_shown : Block → Statements
block_shown = fold-Block Statement Statements stmt_step block_step
