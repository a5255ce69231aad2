-- What each statement shows.
use Rattle.std.proofs.Common.{◌≡◌, ℕ, List, map, sym, ◌∙◌, ap}
use Rattle.expr_syntax.specs.declared.expr.Expr.{Expr}
use Rattle.expr_syntax.specs.declared.stmt.Block.{Block}
use Rattle.expr_syntax.specs.declared.stmt.Stmt.{Stmt}
use Rattle.expr_syntax.specs.declared.stmt.Stmt
use Rattle.expr_syntax.specs.declared.stmt.Stmt.TheFolds.{fold-roll-Stmt, fold_out-Block}
use Rattle.expr_syntax.specs.declared.stmt.Stmt.TheOpen.{Stmt-F}
use Rattle.expr_syntax.specs.declared.stmt.Stmt.TheVariants.{rolls-Set, rolls-Put, rolls-Push, rolls-Insert, rolls-Replace, rolls-Drop, rolls-Clear, rolls-Apply, rolls-Let, rolls-If, rolls-Each, rolls-Call, rolls-Try, rolls-Throw}
use Rattle.expr_syntax.specs.Syntax.{Statement, Statements, set, put, push, insert, replace, drop, clear, apply, each, call, attempt, throw}
use Rattle.expr_syntax.specs.Shown.{shown, expressions}
use Rattle.expr_syntax.specs.Forms.{Boxed, inside}
use Rattle.expr_syntax.specs.ShownStatements.{stmt_shown, block_shown, stmt_step, block_step, statements}

pub block-parts : (b : Block) → block_shown b ≡ statements (map stmt_shown b.statements)
block-parts b = fold_out-Block Statement Statements stmt_step block_step b

pub stmt-Set : (e : Boxed) (p : List ℕ) (v : Boxed) → stmt_shown (Stmt.Set e p v) ≡ set (inside e) p (inside v)
stmt-Set e p v = ap stmt_shown (sym (rolls-Set e p v)) ∙ fold-roll-Stmt Statement Statements stmt_step block_step (Stmt-F.Set e p v)

pub stmt-Put : (e k v : Boxed) → stmt_shown (Stmt.Put e k v) ≡ put (inside e) (inside k) (inside v)
stmt-Put e k v = ap stmt_shown (sym (rolls-Put e k v)) ∙ fold-roll-Stmt Statement Statements stmt_step block_step (Stmt-F.Put e k v)

pub stmt-Push : (e v : Boxed) → stmt_shown (Stmt.Push e v) ≡ push (inside e) (inside v)
stmt-Push e v = ap stmt_shown (sym (rolls-Push e v)) ∙ fold-roll-Stmt Statement Statements stmt_step block_step (Stmt-F.Push e v)

pub stmt-Insert : (e i v : Boxed) → stmt_shown (Stmt.Insert e i v) ≡ insert (inside e) (inside i) (inside v)
stmt-Insert e i v = ap stmt_shown (sym (rolls-Insert e i v)) ∙ fold-roll-Stmt Statement Statements stmt_step block_step (Stmt-F.Insert e i v)

pub stmt-Replace : (e i v : Boxed) → stmt_shown (Stmt.Replace e i v) ≡ replace (inside e) (inside i) (inside v)
stmt-Replace e i v = ap stmt_shown (sym (rolls-Replace e i v)) ∙ fold-roll-Stmt Statement Statements stmt_step block_step (Stmt-F.Replace e i v)

pub stmt-Drop : (e k : Boxed) → stmt_shown (Stmt.Drop e k) ≡ drop (inside e) (inside k)
stmt-Drop e k = ap stmt_shown (sym (rolls-Drop e k)) ∙ fold-roll-Stmt Statement Statements stmt_step block_step (Stmt-F.Drop e k)

pub stmt-Clear : (e : Boxed) → stmt_shown (Stmt.Clear e) ≡ clear (inside e)
stmt-Clear e = ap stmt_shown (sym (rolls-Clear e)) ∙ fold-roll-Stmt Statement Statements stmt_step block_step (Stmt-F.Clear e)

pub stmt-Apply : (e v : Boxed) → stmt_shown (Stmt.Apply e v) ≡ apply (inside e) (inside v)
stmt-Apply e v = ap stmt_shown (sym (rolls-Apply e v)) ∙ fold-roll-Stmt Statement Statements stmt_step block_step (Stmt-F.Apply e v)

pub stmt-Let : (x : List ℕ) (e : Boxed) → stmt_shown (Stmt.Let x e) ≡ Statement.bind x (inside e)
stmt-Let x e = ap stmt_shown (sym (rolls-Let x e)) ∙ fold-roll-Stmt Statement Statements stmt_step block_step (Stmt-F.Let x e)

pub stmt-If : (c : Boxed) (a b : Block) → stmt_shown (Stmt.If c a b) ≡ Statement.choice (inside c) (block_shown a) (block_shown b)
stmt-If c a b = ap stmt_shown (sym (rolls-If c a b)) ∙ fold-roll-Stmt Statement Statements stmt_step block_step (Stmt-F.If c a b)

pub stmt-Each : (e : Boxed) (x : List ℕ) (b : Block) → stmt_shown (Stmt.Each e x b) ≡ each (inside e) x (block_shown b)
stmt-Each e x b = ap stmt_shown (sym (rolls-Each e x b)) ∙ fold-roll-Stmt Statement Statements stmt_step block_step (Stmt-F.Each e x b)

pub stmt-Call : (e : Boxed) (a : List ℕ) (es : List Expr) → stmt_shown (Stmt.Call e a es) ≡ call (inside e) a (expressions (map shown es))
stmt-Call e a es = ap stmt_shown (sym (rolls-Call e a es)) ∙ fold-roll-Stmt Statement Statements stmt_step block_step (Stmt-F.Call e a es)

pub stmt-Try : (a b : Block) → stmt_shown (Stmt.Try a b) ≡ attempt (block_shown a) (block_shown b)
stmt-Try a b = ap stmt_shown (sym (rolls-Try a b)) ∙ fold-roll-Stmt Statement Statements stmt_step block_step (Stmt-F.Try a b)

pub stmt-Throw : (r : List ℕ) → stmt_shown (Stmt.Throw r) ≡ throw r
stmt-Throw r = ap stmt_shown (sym (rolls-Throw r)) ∙ fold-roll-Stmt Statement Statements stmt_step block_step (Stmt-F.Throw r)

-- all of them
pub ruleset stmts = (stmt-Set, stmt-Put, stmt-Push, stmt-Insert, stmt-Replace, stmt-Drop, stmt-Clear, stmt-Apply, stmt-Let, stmt-If, stmt-Each, stmt-Call, stmt-Try, stmt-Throw, block-parts)
