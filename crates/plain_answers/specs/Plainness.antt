-- Answers, sights and expressions in which each value is plain.
use Rattle.std.specs.Prelude.{ℕ, List, [], ◌∷◌, IfSome}
use Rattle.snap_core.specs.Value.{IsPlain}
use Rattle.snap_core.specs.declared.number.NodeNo.{NodeNo}
use Rattle.expr_syntax.specs.declared.number.ViewNo.{ViewNo}
use Rattle.expr_syntax.specs.Syntax.{Expression, Expressions, Members, constant, variable, own, get, ref, one_sided, two_sided, telling, walk, both, either, choice, bind, list, make, find, is, no_more, more, no_members, member}
use Rattle.eval_core.specs.Answer.{Answer, AnswerList, plain, node, several, no_answers, answer}
use Rattle.eval_core.specs.Sight.{Sight, Being, Held, holds, stands, refers, Entry}
use Rattle.eval_core.specs.Scope.{Viewing, Env}
use Rattle.eval_core.specs.Reading.{ident_value}

-- each value in an answer is plain
abbrev mutual
  pub IsPlainAnswer : Answer → Type 0
  IsPlainAnswer (plain v) = IsPlain v
  IsPlainAnswer (node n) = Unit {0}
  IsPlainAnswer (several xs) = ArePlainAnswers xs

  pub ArePlainAnswers : AnswerList → Type 0
  ArePlainAnswers no_answers = Unit {0}
  ArePlainAnswers (answer x xs) = IsPlainAnswer x × ArePlainAnswers xs

-- each name that is bound stands for a plain answer
abbrev pub IsPlainEnv : Env → Type 0
IsPlainEnv [] = Unit {0}
IsPlainEnv (b ∷ bs) = IsPlainAnswer b.1 × IsPlainEnv bs

-- what a property, an item or an entry holds is plain, where it is a value
abbrev pub IsPlainHeld : Held → Type 0
IsPlainHeld (holds v) = IsPlain v
IsPlainHeld (stands n) = Unit {0}
IsPlainHeld (refers link) = Unit {0}

abbrev pub IsPlainLevel : List Entry → Type 0
IsPlainLevel [] = Unit {0}
IsPlainLevel (e ∷ es) = IsPlainHeld e.held × IsPlainLevel es

-- a node's identifier is a plain value, if it has one
abbrev pub HasPlainIdentifier : Being → Type 0
HasPlainIdentifier being = IsPlain (ident_value being.identifier)

-- each value that can be seen is plain
pub record IsPlainSight (sight : Sight) : Type 0 where
  pub props : (n : NodeNo) (p : List ℕ) → IfSome (sight.prop n p) IsPlainHeld
  pub levels : (n : NodeNo) → IsPlainLevel (sight.level n)
  pub wholes : (n : NodeNo) → IsPlain (sight.whole n)
  pub identifiers : (n : NodeNo) → IfSome (sight.being n) HasPlainIdentifier

-- each constant in an expression is plain
abbrev mutual
  pub HasPlainConstants : Expression → Type 0
  HasPlainConstants (constant v) = IsPlain v
  HasPlainConstants (variable x) = Unit {0}
  HasPlainConstants (own p) = Unit {0}
  HasPlainConstants (get e p) = HasPlainConstants e
  HasPlainConstants (ref e p) = HasPlainConstants e
  HasPlainConstants (one_sided op e) = HasPlainConstants e
  HasPlainConstants (two_sided op a b) = HasPlainConstants a × HasPlainConstants b
  HasPlainConstants (telling t e) = HasPlainConstants e
  HasPlainConstants (walk w e x b) = HasPlainConstants e × HasPlainConstants b
  HasPlainConstants (both a b) = HasPlainConstants a × HasPlainConstants b
  HasPlainConstants (either a b) = HasPlainConstants a × HasPlainConstants b
  HasPlainConstants (choice c a b) = HasPlainConstants c × HasPlainConstants a × HasPlainConstants b
  HasPlainConstants (bind x e b) = HasPlainConstants e × HasPlainConstants b
  HasPlainConstants (list es) = HavePlainConstants es
  HasPlainConstants (make ms) = MembersHavePlainConstants ms
  HasPlainConstants (find m e) = HasPlainConstants e
  HasPlainConstants (is e m) = HasPlainConstants e

  pub HavePlainConstants : Expressions → Type 0
  HavePlainConstants no_more = Unit {0}
  HavePlainConstants (more e es) = HasPlainConstants e × HavePlainConstants es

  pub MembersHavePlainConstants : Members → Type 0
  MembersHavePlainConstants no_members = Unit {0}
  MembersHavePlainConstants (member k e ms) = HasPlainConstants e × MembersHavePlainConstants ms

-- the constants in the body of each view are plain
abbrev pub HasPlainBodies : Viewing → Type 0
HasPlainBodies viewing = (v : ViewNo) → HasPlainConstants (viewing.body_of v)
