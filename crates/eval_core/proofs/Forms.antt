-- Single forms, computed on examples, among them those on which a near miss of the definition would differ.
use Rattle.std.proofs.Common.{◌≡◌, ℕ, [], ◌∷◌, Result, Ok, Err, true, false, pos, negsuc, refl}
use Rattle.std.specs.Prelude.{codes}
use Rattle.std.specs.Str.{chars}
use Rattle.snap_core.specs.Value.{Value, null, boolean, integer, text, dict, no_members, member}
use Rattle.pointer_core.specs.declared.refusal.Rule.{Rule}
use Rattle.expr_syntax.specs.declared.op.Op.TheVariants.{Add, Div, Mod, Eq, Size}
use Rattle.expr_syntax.specs.Syntax.{Expression, Expressions, filter, collect, all, any, sum, keys, constant, variable, own, get, one_sided, two_sided, telling, walk, both, either, no_more, more}
use Rattle.expr_syntax.specs.Syntax as syntax
use Rattle.eval_core.specs.declared.cell.Cell.{Cell}
use Rattle.eval_core.specs.declared.site.Site.{Site}
use Rattle.eval_core.specs.Answer.{Answer, plain}
use Rattle.eval_core.specs.Run.{Run, Fault, lift, looks, counts, joined, ended, andthen}
use Rattle.eval_core.specs.Evaluating.{evaluated}
use Rattle.eval_core.specs.Asking.{frame_scope, bound_at}
use Rattle.eval_core.proofs.Office.{number, viewing, sight, office, user, todo}

-- an office with two users and two todos: 0 the office, 1 the team, 2 and 3 the todos' array and t1, 4 t2, 5 the users'
-- map, 6 u1 and 7 u2
abbrev seen : Value
seen = office null (todo (codes "t1") false null ∷ todo (codes "t2") true null ∷ [])
    (member (codes "u1") (user (codes "u1") null) (member (codes "u2") (user (codes "u2") null) no_members))

-- an expression in a statement on the office, after so many others of that statement
abbrev after : ℕ → Expression → Run Answer
after before e = evaluated (frame_scope viewing (sight seen)) e (bound_at (sight seen) (number 0)) before

abbrev value : Expression → Result Answer Fault
value e = (after 0 e).outcome

abbrev refused_as : Rule → Result Answer Fault
refused_as rule = Err (record { rule = rule; site = Site.Frame })

abbrev number_of : ℕ → Expression
number_of n = constant (integer (pos n))

abbrev truth_of : Expression
truth_of = constant (boolean true)

-- the second of two truths is evaluated only where the first doesn't decide
both-short : value (both (constant (boolean false)) (number_of 1)) ≡ Ok (plain (boolean false))
unfolding office todo user lift looks counts joined ended andthen
both-short = refl

either-short : value (either (constant (boolean true)) (number_of 1)) ≡ Ok (plain (boolean true))
unfolding office todo user lift looks counts joined ended andthen
either-short = refl

both-kind : value (both (constant (boolean true)) (number_of 1)) ≡ refused_as Rule.Kind
unfolding office todo user lift looks counts joined ended andthen
both-kind = refl

-- a walk stops at the first item that decides: t1 isn't done, and nothing is read of t2
all_done : Expression
all_done = walk all (own (codes "todos")) (codes "t") (get (variable (codes "t")) (codes "done"))

all-stops : value all_done ≡ Ok (plain (boolean false))
unfolding all_done office todo user lift looks counts joined ended andthen
all-stops = refl

all-reads : (after 0 all_done).reads ≡ Cell.Prop (number 0) (codes "todos") ∷ Cell.Shape (number 2) ∷ Cell.Prop (number 3) (codes "done") ∷ []
unfolding all_done office todo user lift looks counts joined ended andthen
all-reads = refl

-- only the whole sum must be whole
three_numbers : Expression
three_numbers = syntax.Expression.list (more (number_of 9007199254740991) (more (number_of 1) (more (constant (integer (negsuc 1))) no_more)))

sum-total : value (walk sum three_numbers (codes "n") (variable (codes "n"))) ≡ Ok (plain (integer (pos 9007199254740990)))
unfolding three_numbers office todo user lift looks counts joined ended andthen
sum-total = refl

sum-range : value (two_sided Add (number_of 9007199254740991) (number_of 1)) ≡ refused_as Rule.Range
unfolding office todo user lift looks counts joined ended andthen
sum-range = refl

-- a quotient is rounded towards zero, and the rest has the sign of the dividend
quotient : value (two_sided Div (constant (integer (negsuc 6))) (number_of 2)) ≡ Ok (plain (integer (negsuc 2)))
unfolding office todo user lift looks counts joined ended andthen
quotient = refl

rest : value (two_sided Mod (constant (integer (negsuc 6))) (number_of 2)) ≡ Ok (plain (integer (negsuc 0)))
unfolding office todo user lift looks counts joined ended andthen
rest = refl

no_divisor : value (two_sided Div (number_of 1) (number_of 0)) ≡ refused_as Rule.Range
unfolding office todo user lift looks counts joined ended andthen
no_divisor = refl

-- two nodes are equal where they are the same node, whatever they hold: the team and an array of no todos, say
nodes-differ : value (two_sided Eq (own (codes "team")) (walk filter (own (codes "todos")) (codes "t") (constant (boolean false)))) ≡ Ok (plain (boolean false))
unfolding office todo user lift looks counts joined ended andthen
nodes-differ = refl

nodes-same : value (two_sided Eq (own (codes "team")) (own (codes "team"))) ≡ Ok (plain (boolean true))
unfolding office todo user lift looks counts joined ended andthen
nodes-same = refl

-- the size of a text counts characters: here one of two bytes
text-size : value (one_sided Size (constant (text (195 ∷ 169 ∷ [])))) ≡ Ok (plain (integer (pos 1)))
unfolding office todo user lift looks counts joined ended andthen chars
text-size = refl

-- the keys of a record that is made ascend, in whatever order they stand in the expression
made_late : Expression
made_late = syntax.Expression.make (syntax.Members.member (codes "b") (number_of 1) (syntax.Members.member (codes "a") (number_of 2) syntax.Members.no_members))

keys-ascend : value made_late ≡ Ok (plain (dict tt (member (codes "a") (integer (pos 2)) (member (codes "b") (integer (pos 1)) no_members))))
unfolding made_late office todo user lift looks counts joined ended andthen
keys-ascend = refl

-- the 100,000th expression of a statement is evaluated, and the next one is not
last-one : (after 99999 (number_of 1)).outcome ≡ Ok (plain (integer (pos 1)))
unfolding office todo user lift looks counts joined ended andthen
last-one = refl

one-more : (after 100000 (number_of 1)).outcome ≡ refused_as Rule.Work
unfolding office todo user lift looks counts joined ended andthen
one-more = refl
