-- What an expression gives before it is tested: plain, or an integer that may lie outside the values.
use Rattle.std.proofs.Common.{Bool, true, false, Result, Ok, Err, if◌then◌else◌, refl}
use Rattle.std.specs.Prelude.{IfOk, IsTrue, ◌&&◌, nat_le}
use Rattle.snap_core.specs.Value.{Value, null, boolean, integer, text, list, dict, IsPlain, is_whole}
use Rattle.pointer_core.specs.declared.refusal.Rule.{Rule}
use Rattle.plain_ops.specs.Limits.{most_weight, most_depth}
use Rattle.eval_core.specs.Answer.{Answer, plain, node, several, is_bounded_answer}
use Rattle.eval_core.specs.Run.{Eval}
use Rattle.eval_core.specs.Scope.{Scope}
use Rattle.eval_core.specs.Operating.{in_bounds}
use Rattle.eval_core.specs.Evaluating.{counted}
use Rattle.plain_answers.specs.Plainness.{IsPlainAnswer}
use Rattle.plain_answers.proofs.Giving.{Gives, judging, going_on, after}

abbrev pub IsUntested : Answer → Type 0
IsUntested (plain (integer z)) = Unit {0}
IsUntested x = IsPlainAnswer x

abbrev pub IsUntestedValue : Value → Type 0
IsUntestedValue v = IsUntested (plain v)

pub plain-untested : (v : Value) → IsPlain v → IsUntestedValue v
plain-untested (integer z) h = tt
plain-untested null h = h
plain-untested (boolean b) h = h
plain-untested (text s) h = h
plain-untested (list a ps) h = h
plain-untested (dict a ms) h = h

pub untested : (x : Answer) → IsPlainAnswer x → IsUntested x
untested (plain v) h = plain-untested v h
untested (node n) h = h
untested (several xs) h = h

pub untested-ok : (o : Result Answer Rule) → IfOk o IsPlainAnswer → IfOk o IsUntested
untested-ok (Ok x) h = untested x h
untested-ok (Err rule) h = tt

-- what is plain may stand before the test
pub before_test : (e : Eval Answer) → Gives IsPlainAnswer e → Gives IsUntested e
before_test e h before = by_outcome (e before).outcome (h before)
  where
    by_outcome : {F : Type 0} (o : Result Answer F) → IfOk o IsPlainAnswer → IfOk o IsUntested
    by_outcome (Ok x) g = untested x g
    by_outcome (Err fault) g = tt

-- an integer that passes the test is whole
tested-integer : (whole light flat : Bool) (x : Answer) → (IsTrue whole → IsPlainAnswer x)
    → IfOk {T = Answer} {E = Rule} (if whole && light && flat then Ok x else Err Rule.Range) IsPlainAnswer
tested-integer true true true x h = h refl
tested-integer true true false x h = tt
tested-integer true false flat x h = tt
tested-integer false light flat x h = tt

tested-plain : (b : Bool) (x : Answer) → IsPlainAnswer x → IfOk {T = Answer} {E = Rule} (if b then Ok x else Err Rule.Range) IsPlainAnswer
tested-plain true x h = h
tested-plain false x h = tt

pub tested : (x : Answer) → IsUntested x → IfOk (in_bounds x) IsPlainAnswer
tested (plain (integer z)) h =
    tested-integer (is_whole z) (nat_le 1 most_weight) (nat_le 1 most_depth) (plain (integer z)) (λ whole. whole)
tested x h = tested-plain (is_bounded_answer x) x h

-- an expression is counted, and what it gives is tested
pub counting : (s : Scope) (e : Eval Answer) → Gives IsUntested e → Gives IsPlainAnswer (counted s e)
counting s e h =
    after IsPlainAnswer _ _ (λ one.
    going_on IsUntested IsPlainAnswer _ _ h (λ x fine. judging IsPlainAnswer s (in_bounds x) (tested x fine)))
