-- The operators on answers: on plain values as ever; nodes and several answers where an operator takes them.
use Rattle.std.specs.Prelude.{ℕ, pos, Bool, Option, Some, None, Result, Ok, Err, if◌then◌else◌}
use Rattle.snap_core.specs.Value.{Value, boolean, integer}
use Rattle.pointer_core.specs.declared.refusal.Rule.{Rule}
use Rattle.expr_syntax.specs.declared.op.Op.{Op}
use Rattle.expr_syntax.specs.declared.op.Op.TheVariants.{Eq, Item, Size}
use Rattle.plain_ops.specs.Applied.{applied, index_in}
use Rattle.eval_core.specs.Answer.{Answer, AnswerList, plain, several, how_many, answer_at, same_answer, is_bounded_answer}

abbrev pub Judged : Type 0
Judged = Result Answer Rule

abbrev pub as_plain : Result Value Rule → Judged
as_plain (Ok v) = Ok (plain v)
as_plain (Err rule) = Err rule

-- an operator on plain values
abbrev pub on_plain : Op → Answer → Answer → Judged
on_plain op (plain v) (plain w) = as_plain (applied op v w)
on_plain op _ _ = Err Rule.Kind

abbrev pub or_index : Option Answer → Judged
or_index (Some x) = Ok x
or_index None = Err Rule.Index

abbrev pub answer_under : AnswerList → Option ℕ → Judged
answer_under xs (Some n) = or_index (answer_at n xs)
answer_under xs None = Err Rule.Index

-- one of several answers, at an integer
abbrev pub one_of : AnswerList → Answer → Judged
one_of xs (plain (integer z)) = answer_under xs (index_in z)
one_of xs k = Err Rule.Kind

-- an operator on answers of which none is read
abbrev pub operated_on : Op → Answer → Answer → Judged
operated_on Eq x y = Ok (plain (boolean (same_answer x y)))
operated_on Item (several xs) k = one_of xs k
operated_on Size (several xs) y = Ok (plain (integer (pos (how_many xs))))
operated_on op x y = on_plain op x y

-- a result, unless it lies outside the values
abbrev pub in_bounds : Answer → Judged
in_bounds x = if is_bounded_answer x then Ok x else Err Rule.Range

-- a truth
abbrev pub truth_in : Answer → Result Bool Rule
truth_in (plain (boolean b)) = Ok b
truth_in x = Err Rule.Kind

-- an outcome, with its result tested
abbrev pub bounded_outcome : Judged → Judged
bounded_outcome (Ok x) = in_bounds x
bounded_outcome (Err rule) = Err rule
