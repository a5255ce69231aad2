-- What operators give: plain, or an integer that is still to be tested.
use Rattle.std.proofs.Common.{◌≡◌, ℕ, zero, suc, Bool, true, false, Option, Some, None, Result, Ok, Err, if◌then◌else◌, refl, pos}
use Rattle.std.specs.Prelude.{ℤ, int_div, int_rem, IfOk, unwrap_or}
use Rattle.std.specs.Ordering.{int_eq}
use Rattle.snap_core.specs.Value.{Value, null, boolean, integer, text, list, dict, Items, IsPlain, ArePlain, value_at}
use Rattle.snap_core.specs.Level.{item_at}
use Rattle.snap_core.proofs.PlainLevels.{IsPlain-item_at, IsPlain-value_at}
use Rattle.pointer_core.specs.declared.refusal.Rule.{Rule}
use Rattle.expr_syntax.specs.declared.op.Op.{Op}
use Rattle.expr_syntax.specs.declared.op.Op.TheVariants.{Add, Sub, Mul, Div, Mod, Concat, Text, Eq, Lt, Not, Item, Has, Size}
use Rattle.plain_ops.specs.Outcome.{Outcome}
use Rattle.plain_ops.specs.Applied.{on_integers, divided, joined, decimal_text, comes_before, opposite, or_rule, index_in, item_of, part_of, has_key, size_of, applied}
use Rattle.eval_core.specs.Answer.{Answer, AnswerList, plain, node, several, no_answers, answer, answer_at}
use Rattle.eval_core.specs.Operating.{as_plain, on_plain, or_index, answer_under, one_of, operated_on}
use Rattle.plain_answers.specs.Plainness.{IsPlainAnswer, ArePlainAnswers}
use Rattle.plain_answers.proofs.Untested.{IsUntested, IsUntestedValue, plain-untested, untested-ok}

-- where an operator on plain values ends well
abbrev Untested : Outcome → Type 0
Untested outcome = IfOk outcome IsUntestedValue

-- the value under a key, null where there is none
pub value_or_null : (o : Option Value) → ((v : Value) → o ≡ Some v → IsPlain v) → IsPlain (unwrap_or o null)
value_or_null (Some v) h = h v refl
value_or_null None h = tt

-- arithmetic
integers : (f : ℤ → ℤ → Outcome) (a b : Value) → ((y z : ℤ) → Untested (f y z)) → Untested (on_integers f a b)
integers f (integer y) (integer z) h = h y z
integers f _ _ h = tt

quotients : (f : ℤ → ℤ → ℤ) (y z : ℤ) → Untested (divided f y z)
quotients f y z = by_test (int_eq z (pos 0))
  where
    by_test : (b : Bool) → IfOk {T = Value} {E = Rule} (if b then Err Rule.Range else Ok (integer (f y z))) IsUntestedValue
    by_test true = tt
    by_test false = tt

-- texts and truths
texts : (a b : Value) → Untested (joined a b)
texts (text s) (text u) = tt
texts _ _ = tt

decimals : (a : Value) → Untested (decimal_text a)
decimals (integer z) = tt
decimals _ = tt

orders : (a b : Value) → Untested (comes_before a b)
orders (integer y) (integer z) = tt
orders (text s) (text u) = tt
orders _ _ = tt

opposites : (a : Value) → Untested (opposite a)
opposites (boolean b) = tt
opposites _ = tt

keys_held : (a b : Value) → Untested (has_key a b)
keys_held (dict a ms) (text key) = tt
keys_held _ _ = tt

sizes : (a : Value) → Untested (size_of a)
sizes (list a ps) = tt
sizes (dict a ms) = tt
sizes (text s) = tt
sizes _ = tt

-- parts
items : (ps : Items) (i : Option ℕ) → ArePlain ps → Untested (or_rule (item_of ps i))
items ps None fine = tt
items ps (Some n) fine = by_item (item_at n ps) (λ v h. IsPlain-item_at n ps v fine h)
  where
    by_item : (o : Option Value) → ((v : Value) → o ≡ Some v → IsPlain v) → Untested (or_rule o)
    by_item (Some v) h = plain-untested v (h v refl)
    by_item None h = tt

parts : (a b : Value) → IsPlain a → Untested (part_of a b)
parts (list a ps) (integer z) fine = items ps (index_in z) fine
parts (dict a ms) (text key) fine = plain-untested _ (value_or_null (value_at key ms) (λ v h. IsPlain-value_at key ms v fine h))
parts _ _ fine = tt

applying : (op : Op) (a b : Value) → IsPlain a → Untested (applied op a b)
applying Add a b fine = integers _ a b (λ y z. tt)
applying Sub a b fine = integers _ a b (λ y z. tt)
applying Mul a b fine = integers _ a b (λ y z. tt)
applying Div a b fine = integers _ a b (λ y z. quotients int_div y z)
applying Mod a b fine = integers _ a b (λ y z. quotients int_rem y z)
applying Concat a b fine = texts a b
applying Text a b fine = decimals a
applying Eq a b fine = tt
applying Lt a b fine = orders a b
applying Not a b fine = opposites a
applying Item a b fine = parts a b fine
applying Has a b fine = keys_held a b
applying Size a b fine = sizes a

-- operators on answers
plainly : (o : Result Value Rule) → Untested o → IfOk (as_plain o) IsUntested
plainly (Ok v) h = h
plainly (Err rule) h = tt

on_plain-untested : (op : Op) (x y : Answer) → IsPlainAnswer x → IfOk (on_plain op x y) IsUntested
on_plain-untested op (plain v) (plain w) h = plainly (applied op v w) (applying op v w h)
on_plain-untested op (plain v) (node n) h = tt
on_plain-untested op (plain v) (several xs) h = tt
on_plain-untested op (node n) y h = tt
on_plain-untested op (several xs) y h = tt

at_index : (n : ℕ) (xs : AnswerList) → ArePlainAnswers xs → IfOk (or_index (answer_at n xs)) IsPlainAnswer
at_index n no_answers h = tt
at_index zero (answer x xs) h = h.0
at_index (suc n) (answer x xs) h = at_index n xs h.1

under_index : (xs : AnswerList) (i : Option ℕ) → ArePlainAnswers xs → IfOk (answer_under xs i) IsPlainAnswer
under_index xs (Some n) h = at_index n xs h
under_index xs None h = tt

one : (xs : AnswerList) (k : Answer) → ArePlainAnswers xs → IfOk (one_of xs k) IsPlainAnswer
one xs (plain (integer z)) h = under_index xs (index_in z) h
one xs _ h = tt

pub operating_on : (op : Op) (x y : Answer) → IsPlainAnswer x → IfOk (operated_on op x y) IsUntested
operating_on Eq x y h = tt
operating_on Item (several xs) k h = untested-ok (one_of xs k) (one xs k h)
operating_on Size (several xs) y h = tt
operating_on op x y h = on_plain-untested op x y h
