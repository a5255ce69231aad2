-- The items that views give are those that are read one by one.
use Rattle.std.proofs.Common.{◌≡◌, ℕ, ◌+◌, List, [], ◌∷◌, ◌++◌, map, Result, Ok, Err, refl, sym, ◌∙◌, ap, subst, add-zero, append-nil, append_assoc}
use Rattle.std.specs.Prelude.{All}
use Rattle.std.proofs.lemmas.List.Elements.{All-cons, All-nil}
use Rattle.expr_syntax.specs.Syntax.{Expression, collect}
use Rattle.expr_syntax.specs.Syntax as syntax
use Rattle.eval_core.specs.declared.site.Site.{Site}
use Rattle.eval_core.specs.Answer.{Answer, AnswerList, several, answer, no_answers, with_last}
use Rattle.eval_core.specs.Evaluating.{evaluated, told}
use Rattle.eval_core.specs.Run.{Fault, Run, Eval, andthen, continued, joined, ended, lift}
use Rattle.eval_core.specs.Scope.{Scope, Env, gives, judged}
use Rattle.eval_core.specs.Walking.{Item, given, standing, read_item, walked, gathered, on, turned, walk_over, start}
use Rattle.answer_ops.specs.View.{answer_of, answers_from}
use Rattle.answer_ops.specs.declared.value.Value.{Value}
use Rattle.answer_ops.specs.declared.value.Value as valued
use Rattle.answer_ops.proofs.Views.{answer-Several}
use Rattle.plain_answers.specs.Plainness.{IsPlainAnswer}
use Rattle.plain_answers.proofs.Giving as giving
use Rattle.plain_answers.proofs.Giving.{Gives, going_on}
use Rattle.plain_answers.proofs.Readings.{IsPlainScope, held}
use Rattle.plain_answers.proofs.Walks.{ArePlainItems, walking}
use Rattle.view_engine.specs.Asks.{items_evaluated}
use Rattle.view_engine.specs.Did.{cost_of, Course, Did}
use Rattle.view_engine.specs.Halts.{Answers as IsAnswered, fault_of}
use Rattle.view_engine.specs.Told.{Telling}
use Rattle.view_engine.specs.declared.halt.Halt.TheVariants as halts
use Rattle.view_engine.specs.declared.halt.RunError.{RunError}
use Rattle.view_engine.specs.declared.halt.RunError.TheVariants as errors
use Rattle.view_engine.proofs.Alike.{Alike, alike-same, alike-sym, alike-trans, alike-then, alike-gives, alike-assoc, cost-joined}
use Rattle.action_core.specs.Running.{all_read, items_read}
use Rattle.action_steps.specs.Parts.{Evaluates}
use Rattle.action_steps.proofs.PartsLeft.{part-alike}

-- answers that are gathered one behind the other
abbrev behind : AnswerList → List Answer → AnswerList
behind xs [] = xs
behind xs (y ∷ ys) = behind (with_last xs y) ys

last-from : (ws : List Answer) (y : Answer) → with_last (answers_from ws) y ≡ answers_from (ws ++ y ∷ [])
last-from [] y = refl
last-from (w ∷ ws) y = ap (answer w) (last-from ws y)

behind-from : (ws xs : List Answer) → behind (answers_from ws) xs ≡ answers_from (ws ++ xs)
behind-from ws [] = ap answers_from (sym (append-nil ws))
behind-from ws (x ∷ xs) =
    ap (λ ys. behind ys xs) (last-from ws x) ∙ behind-from (ws ++ x ∷ []) xs ∙ ap answers_from (append_assoc ws (x ∷ []) xs)

abbrev as_given : Answer → Eval Answer
as_given y = gives y

one_read : (s : Scope) (i : Item) (is : List Item) (xs : AnswerList) (n : ℕ)
    → Alike (walk_over s collect as_given (i ∷ is) (several xs) n) (andthen (read_item s i) (λ x. walk_over s collect as_given is (several (with_last xs x))) n)
one_read s i is xs n =
    let rest : Answer → Eval Answer = λ more. walk_over s collect as_given is more in
    let after : Answer → Answer → Eval Answer = λ x y. andthen (judged s (gathered collect (several xs) x y)) (turned rest) in
    alike-then (read_item s i) (read_item s i) (λ x. andthen (as_given x) (after x)) (λ x. rest (several (with_last xs x))) n (alike-same (read_item s i n)) (λ x m.
    alike-trans _ _ _ (alike-gives x (after x) m) (alike-gives (on (several (with_last xs x))) (turned rest) m))

read_first : (s : Scope) (i : Item) (is : List Item) (f : List Answer → Answer) (n : ℕ)
    → Alike (andthen (all_read s (i ∷ is)) (λ ys. gives (f ys)) n) (andthen (read_item s i) (λ x. andthen (all_read s is) (λ ys. gives (f (x ∷ ys)))) n)
read_first s i is f n =
    let first : Answer → Eval (List Answer) = λ x. andthen (all_read s is) (λ ys. gives (x ∷ ys)) in
    let g : List Answer → Eval Answer = λ ys. gives (f ys) in
    alike-trans _ _ _ (alike-assoc (read_item s i) first g n)
    (alike-then (read_item s i) (read_item s i) (λ x. andthen (first x) g) (λ x. andthen (all_read s is) (λ ys. gives (f (x ∷ ys)))) n (alike-same (read_item s i n)) (λ x m.
    alike-trans _ _ _ (alike-assoc (all_read s is) (λ ys. gives (x ∷ ys)) g m)
    (alike-then (all_read s is) (all_read s is) (λ ys. andthen (gives (x ∷ ys)) g) (λ ys. gives (f (x ∷ ys))) m (alike-same (all_read s is m)) (λ ys k. alike-gives (x ∷ ys) g k))))

-- a walk that collects what it walks
collects : (s : Scope) (is : List Item) (xs : AnswerList) (n : ℕ)
    → Alike (walk_over s collect as_given is (several xs) n) (andthen (all_read s is) (λ ys. gives (several (behind xs ys))) n)
collects s [] xs n = alike-sym _ _ (alike-gives [] (λ ys. gives (several (behind xs ys))) n)
collects s (i ∷ is) xs n =
    alike-trans _ _ _ (one_read s i is xs n)
    (alike-trans _ _ _
    (alike-then (read_item s i) (read_item s i) (λ x. walk_over s collect as_given is (several (with_last xs x))) (λ x. andthen (all_read s is) (λ ys. gives (several (behind (with_last xs x) ys)))) n
    (alike-same (read_item s i n)) (λ x m. collects s is (with_last xs x) m))
    (alike-sym _ _ (read_first s i is (λ ys. several (behind xs ys)) n)))

-- what items are given as
abbrev as_list : List Answer → Answer
as_list xs = several (answers_from xs)

collected : (s : Scope) (is : List Item) (n : ℕ) → Alike (walk_over s collect as_given is (start collect) n) (andthen (all_read s is) (λ ys. gives (as_list ys)) n)
collected s is n =
    alike-trans _ _ _ (collects s is no_answers n)
    (alike-then (all_read s is) (all_read s is) (λ ys. gives (several (behind no_answers ys))) (λ ys. gives (as_list ys)) n (alike-same (all_read s is n)) (λ ys m.
    subst (λ zs. Alike (gives (several (behind no_answers ys)) m) (gives (several zs) m)) (behind-from [] ys) (alike-same (gives (several (behind no_answers ys)) m))))

-- what an expression gives, its items read
abbrev items_of : Scope → Expression → Env → Eval (List Answer)
items_of s e env = andthen (evaluated s e env) (items_read s)

told-read : (s : Scope) (x : Answer) (n : ℕ) → Alike (told s syntax.items x n) (andthen (items_read s x) (λ ys. gives (as_list ys)) n)
told-read s x n =
    alike-trans _ _ _
    (alike-then (walked s x) (walked s x) (λ is. walk_over s collect as_given is (start collect)) (λ is. andthen (all_read s is) (λ ys. gives (as_list ys))) n
    (alike-same (walked s x n)) (λ is m. collected s is m))
    (alike-sym _ _ (alike-assoc (walked s x) (all_read s) (λ ys. gives (as_list ys)) n))

items-alike : (s : Scope) (e : Expression) (env : Env) (n : ℕ) → Alike (items_evaluated s e env n) (andthen (items_of s e env) (λ ys. gives (as_list ys)) n)
items-alike s e env n =
    alike-trans _ _ _
    (alike-then (evaluated s e env) (evaluated s e env) (told s syntax.items) (λ x. andthen (items_read s x) (λ ys. gives (as_list ys))) n
    (alike-same (evaluated s e env n)) (λ x m. told-read s x m))
    (alike-sym _ _ (alike-assoc (evaluated s e env) (items_read s) (λ ys. gives (as_list ys)) n))

-- An evaluation whose answer is seen otherwise.

abbrev seen_as : {A B : Type 0} → (A → B) → Result A Fault → Result B Fault
seen_as f (Ok x) = Ok (f x)
seen_as f (Err fault) = Err fault

record SeenAs {A B : Type 0} (f : A → B) (run : Run A) (o : Result A Fault) (other : Run B) : Type 0 where
  outcome : other.outcome ≡ seen_as f o
  own : other.own ≡ run.own
  cost : cost_of other ≡ cost_of run

seen_by : {A B : Type 0} (f : A → B) (run : Run A) (k : ℕ) (o : Result A Fault) → SeenAs f run o (continued run (λ x. gives (f x) k) o)
unfolding lift joined ended
seen_by f run k (Ok x) = record { outcome = refl; own = add-zero run.own; cost = cost-joined run (gives (f x) k) ∙ add-zero (cost_of run) }
seen_by f run k (Err fault) = record { outcome = refl; own = refl; cost = refl }

is_seen : {A B : Type 0} (f : A → B) (e : Eval A) (n : ℕ) → SeenAs f (e n) (e n).outcome (andthen e (λ x. gives (f x)) n)
unfolding andthen
is_seen f e n = seen_by f (e n) (n + (e n).own) (e n).outcome

refusal-seen : {A B : Type 0} (f : A → B) (o : Result A Fault) (fault : Fault) → seen_as f o ≡ Err fault → o ≡ Err fault
refusal-seen f (Ok x) fault is = cc
refusal-seen f (Err other) fault is = let same : other ≡ fault = cc in ap Err same

answer-seen : (o : Result (List Answer) Fault) (v : Value) (vs : List Value) → ((xs : List Answer) → answer_of v ≡ as_list xs → xs ≡ map answer_of vs)
    → seen_as as_list o ≡ Ok (answer_of v) → o ≡ Ok (map answer_of vs)
answer-seen (Ok xs) v vs listed is = let same : as_list xs ≡ answer_of v = cc in ap Ok (listed xs (sym same))
answer-seen (Err fault) v vs listed is = cc

-- the items of an expression, as a list
pub items-came : (t : Telling) (s : Scope) (e : Expression) (env : Env) (v : Value) (vs : List Value) (way : Course) → Evaluates t answer_of (Ok v) (items_evaluated s e env) way
    → ((xs : List Answer) → answer_of v ≡ as_list xs → xs ≡ map answer_of vs)
    → Evaluates t (λ xs. map answer_of xs) (Ok vs) (items_of s e env) way
items-came t s e env v vs way h listed =
    let seen : Evaluates t answer_of (Ok v) (andthen (items_of s e env) (λ ys. gives (as_list ys))) way =
    part-alike t answer_of (Ok v) (items_evaluated s e env) _ way (items-alike s e env way.counted) h in
    let other_run = is_seen as_list (items_of s e env) way.counted in
    let did : Did answer_of (Ok v) (andthen (items_of s e env) (λ ys. gives (as_list ys))) way = subst (λ r. Did answer_of r (andthen (items_of s e env) (λ ys. gives (as_list ys))) way) seen.told seen.did in
    record {
      halted = Ok vs;
      did = record {
        outcome = answer-seen (items_of s e env way.counted).outcome v vs listed (sym other_run.outcome ∙ did.outcome);
        counted = subst (λ n. way.counted_after ≡ way.counted + n) other_run.own did.counted;
        ticks = rw other_run.cost at did.ticks;
      };
      told = refl;
    }

pub items-ended : (t : Telling) (s : Scope) (e : Expression) (env : Env) (error : RunError) (way : Course) → Evaluates {T = Value} t answer_of (Err error) (items_evaluated s e env) way
    → Evaluates {T = List Value} t (λ xs. map answer_of xs) (Err error) (items_of s e env) way
items-ended t s e env error way h =
    let other_run = is_seen as_list (items_of s e env) way.counted in
    let other : Eval Answer = andthen (items_of s e env) (λ ys. gives (as_list ys)) in
    by_error error (part-alike {T = Value} t answer_of (Err error) (items_evaluated s e env) other way (items-alike s e env way.counted) h)
  where
    by_error : (x : RunError) → Evaluates {T = Value} t answer_of (Err x) (andthen (items_of s e env) (λ ys. gives (as_list ys))) way
        → Evaluates {T = List Value} t (λ xs. map answer_of xs) (Err x) (items_of s e env) way
    by_error errors.Memory k =
        let other_run = is_seen as_list (items_of s e env) way.counted in
        record { halted = Err halts.Memory; did = record { outcome = tt; counted = tt; ticks = rw other_run.cost at k.did.ticks }; told = refl }
    by_error (errors.Refused r) k =
        let other_run = is_seen as_list (items_of s e env) way.counted in
        let other : Eval Answer = andthen (items_of s e env) (λ ys. gives (as_list ys)) in
        let refused : (other way.counted).outcome ≡ Err (fault_of k.told.0) = subst (λ h. IsAnswered answer_of h (other way.counted).outcome) k.told.1 k.did.outcome in
        record {
          halted = Err (halts.Refused k.told.0);
          did = record {
            outcome = refusal-seen as_list (items_of s e env way.counted).outcome (fault_of k.told.0) (sym other_run.outcome ∙ refused);
            counted = tt;
            ticks = rw other_run.cost at k.did.ticks;
          };
          told = (k.told.0, refl, k.told.2);
        }

-- What is read of plain answers is plain.

reading : (s : Scope) → IsPlainScope s → (i : Item) → ArePlainItems (i ∷ []) → Gives IsPlainAnswer (read_item s i)
reading s fine (given x) h = giving.given IsPlainAnswer x h.0
reading s fine (standing n e) h = held s (Site.Entry n e.token) e.held h.0

all-plain : (s : Scope) → IsPlainScope s → (is : List Item) → ArePlainItems is → Gives (All IsPlainAnswer) (all_read s is)
all-plain s fine [] h = giving.given (All IsPlainAnswer) [] (All-nil IsPlainAnswer)
all-plain s fine (i ∷ is) h =
    going_on IsPlainAnswer (All IsPlainAnswer) _ _ (reading s fine i (h.0, tt))
    (λ x good. going_on (All IsPlainAnswer) (All IsPlainAnswer) _ _ (all-plain s fine is h.1)
    (λ xs rest. giving.given (All IsPlainAnswer) (x ∷ xs) (All-cons IsPlainAnswer x xs good rest)))

pub items-plain : (s : Scope) → IsPlainScope s → (e : Expression) (env : Env) → Gives IsPlainAnswer (evaluated s e env) → Gives (All IsPlainAnswer) (items_of s e env)
items-plain s fine e env h =
    going_on IsPlainAnswer (All IsPlainAnswer) (evaluated s e env) (items_read s) h
    (λ x good. going_on ArePlainItems (All IsPlainAnswer) (walked s x) (all_read s) (walking s fine x good) (λ is items. all-plain s fine is items))

-- Several answers, one by one.

from-injective : (xs ys : List Answer) → answers_from xs ≡ answers_from ys → xs ≡ ys
from-injective [] [] is = refl
from-injective [] (y ∷ ys) is = cc
from-injective (x ∷ xs) [] is = cc
from-injective (x ∷ xs) (y ∷ ys) is =
    let first : x ≡ y = cc in
    let rest : answers_from xs ≡ answers_from ys = cc in
    ap (λ z. z ∷ xs) first ∙ ap (λ zs. y ∷ zs) (from-injective xs ys rest)

pub several-listed : (x : Value) (values : List Value) (xs : List Answer) → x ≡ valued.Several values → answer_of x ≡ several (answers_from xs) → xs ≡ map answer_of values
several-listed x values xs is seen =
    let same : several (answers_from xs) ≡ several (answers_from (map answer_of values)) = sym seen ∙ ap answer_of is ∙ answer-Several values in
    let inner : answers_from xs ≡ answers_from (map answer_of values) = cc in
    from-injective xs (map answer_of values) inner
