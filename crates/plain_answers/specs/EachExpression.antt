-- A fact of each expression that statements evaluate.
use Rattle.expr_syntax.specs.Syntax.{Expression, Expressions, Statement, Statements, no_more, more, set, put, push, insert, replace, drop, clear, apply, each, call, attempt, throw, done, run}

-- the fact holds of each expression of a list
abbrev pub HoldsInEach : (Expression → Type 0) → Expressions → Type 0
HoldsInEach P no_more = Unit {0}
HoldsInEach P (more e es) = P e × HoldsInEach P es

-- it holds of each expression in a statement, and in a block of them
abbrev mutual
  pub HoldsInStatement : (Expression → Type 0) → Statement → Type 0
  HoldsInStatement P (set e p v) = P e × P v
  HoldsInStatement P (put e k v) = P e × P k × P v
  HoldsInStatement P (push e v) = P e × P v
  HoldsInStatement P (insert e i v) = P e × P i × P v
  HoldsInStatement P (replace e i v) = P e × P i × P v
  HoldsInStatement P (drop e k) = P e × P k
  HoldsInStatement P (clear e) = P e
  HoldsInStatement P (apply e v) = P e × P v
  HoldsInStatement P (Statement.bind x e) = P e
  HoldsInStatement P (Statement.choice c a b) = P c × HoldsInBlock P a × HoldsInBlock P b
  HoldsInStatement P (each e x b) = P e × HoldsInBlock P b
  HoldsInStatement P (call e name es) = P e × HoldsInEach P es
  HoldsInStatement P (attempt a b) = HoldsInBlock P a × HoldsInBlock P b
  HoldsInStatement P (throw reason) = Unit {0}

  pub HoldsInBlock : (Expression → Type 0) → Statements → Type 0
  HoldsInBlock P done = Unit {0}
  HoldsInBlock P (run st sts) = HoldsInStatement P st × HoldsInBlock P sts
