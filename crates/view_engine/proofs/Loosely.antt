-- What is left of lists that are read: snapshots, walked values, and keys.
use Rattle.std.proofs.Common.{◌≡◌, ℕ, ◌+◌, ◌<◌, List, [], ◌∷◌, ◌++◌, map, drop, length, append_assoc, append-nil, Result, Ok, Err, Some, slice_get, refl, sym, ◌∙◌, ap, subst, arith}
use Rattle.std.specs.Prelude.{OnOk}
use Rattle.std.proofs.lemmas.List.{map-append}
use Rattle.snap_core.specs.Value as plains
use Rattle.snap_core.specs.Value.{Items, part, no_parts, keys_of, text}
use Rattle.snap_core.specs.View.{view, items_view, fields_view, entry}
use Rattle.snap_core.proofs.Views.{entry-fields, view-Text}
use Rattle.snap_core.specs.declared.snap.Snap
use Rattle.snap_core.specs.declared.snap.Field.{Field}
use Rattle.expr_syntax.specs.Syntax as syntax
use Rattle.eval_core.specs.Answer.{Answer, AnswerList, plain, several, answer, no_answers, with_last}
use Rattle.eval_core.specs.Run.{Eval, Run, Fault, lift, andthen, joined, ended, continued}
use Rattle.eval_core.specs.Scope.{Scope, gives, judged}
use Rattle.eval_core.specs.Making.{snapshot_of, snapshots_of}
use Rattle.eval_core.specs.Reading.{texts}
use Rattle.eval_core.specs.Walking.{Item, Turn, on, read_item, gathered, turned, walk_over}
use Rattle.answer_ops.specs.View.{answer_of, answers_of, answers_from}
use Rattle.answer_ops.specs.declared.value.Value
use Rattle.answer_ops.proofs.Views.{answer-Plain, answer-Several}
use Rattle.view_engine.specs.declared.halt.Halt.{Halt}
use Rattle.view_engine.specs.declared.halt.Halt.TheVariants as halts
use Rattle.view_engine.specs.Halts as outcomes
use Rattle.view_engine.specs.Did.{Read}
use Rattle.view_engine.proofs.Alike.{Alike, alike-same, alike-sym, alike-trans, alike-then, alike-gives, alike-assoc}
use Rattle.view_engine.proofs.Doing.{read-then, read-stop, read-lift, read-alike, read-memory}
use Rattle.view_engine.proofs.Loops.{ItemAt, item_at, ReadAt}
use Rattle.view_engine.proofs.Records.{glued, glued-none, glued-last}
use Rattle.view_engine.proofs.Turning.{answers-last}

-- Whatever reads what is left, reads the whole.
abbrev pub ReadsAll : {T A : Type 0} → (T → A) → Eval A → Eval A → Type 0
ReadsAll {T} seen left whole = (r : Result T Halt) → Read seen r left → Read seen r whole

-- snapshots so far, and those that are left
abbrev pub snapshots_left : Scope → AnswerList → Items → Eval Items
snapshots_left s xs so_far = andthen (snapshots_of s xs) (λ ps. gives (glued so_far ps))

one_snapshot : (s : Scope) (x : Answer) (xs : AnswerList) (so_far : Items) (n : ℕ)
    → Alike (snapshots_left s (answer x xs) so_far n) (andthen (snapshot_of s x) (λ v. andthen (snapshots_of s xs) (λ ps. gives (glued so_far (part v ps)))) n)
one_snapshot s x xs so_far n =
    let f : plains.Value → Eval Items = λ v. andthen (snapshots_of s xs) (λ ps. gives (part v ps)) in
    let g : Items → Eval Items = λ ps. gives (glued so_far ps) in
    let h : plains.Value → Eval Items = λ v. andthen (snapshots_of s xs) (λ ps. gives (glued so_far (part v ps))) in
    alike-trans _ _ _ (alike-assoc (snapshot_of s x) f g n)
    (alike-then (snapshot_of s x) (snapshot_of s x) (λ v. andthen (f v) g) h n (alike-same (snapshot_of s x n)) (λ v m.
    alike-trans _ _ _ (alike-assoc (snapshots_of s xs) (λ ps. gives (part v ps)) g m)
    (alike-then (snapshots_of s xs) (snapshots_of s xs) (λ ps. andthen (gives (part v ps)) g) (λ ps. gives (glued so_far (part v ps))) m (alike-same (snapshots_of s xs m)) (λ ps k.
    alike-gives (part v ps) g k))))

-- a value more has its snapshot
pub snapshot-step : (s : Scope) (vs : List Value.Value) (v : Value.Value) (rest : List Value.Value) (xs after : List Snap.Snap) (x : Snap.Snap) (whole : Eval Items) → vs ≡ v ∷ rest → after ≡ xs ++ x ∷ []
    → ReadsAll {T = List Snap.Snap} items_view (snapshots_left s (answers_of vs) (items_view xs)) whole
    → Read view (Ok x) (snapshot_of s (answer_of v))
    → ReadsAll {T = List Snap.Snap} items_view (snapshots_left s (answers_of rest) (items_view after)) whole
snapshot-step s vs v rest xs after x whole is pushed reads read r left =
    let next : plains.Value → Eval Items = λ y. andthen (snapshots_of s (answers_of rest)) (λ ps. gives (glued (items_view xs) (part y ps))) in
    let more : Read items_view r (next (view x)) =
    read-alike items_view r (snapshots_left s (answers_of rest) (items_view after)) (next (view x))
    (λ n. alike-then (snapshots_of s (answers_of rest)) (snapshots_of s (answers_of rest)) (λ ps. gives (glued (items_view after) ps)) (λ ps. gives (glued (items_view xs) (part (view x) ps))) n
    (alike-same (snapshots_of s (answers_of rest) n)) (λ ps m.
    let same : glued (items_view after) ps ≡ glued (items_view xs) (part (view x) ps) = ap (λ (ys : List Snap.Snap). glued (items_view ys) ps) pushed ∙ glued-last xs x ps in
    subst (λ qs. Alike (gives (glued (items_view after) ps) m) (gives qs m)) same (alike-same (gives (glued (items_view after) ps) m)))) left in
    reads r (subst (λ ws. Read items_view r (snapshots_left s (answers_of ws) (items_view xs))) (sym is)
    (read-alike items_view r (andthen (snapshot_of s (answer_of v)) next) (snapshots_left s (answer (answer_of v) (answers_of rest)) (items_view xs))
    (λ n. alike-sym _ _ (one_snapshot s (answer_of v) (answers_of rest) (items_view xs) n))
    (read-then view items_view x r (snapshot_of s (answer_of v)) next read more)))

-- or it has none
pub snapshot-unread : (s : Scope) (vs : List Value.Value) (v : Value.Value) (rest : List Value.Value) (xs : List Snap.Snap) (halt : Halt) (whole : Eval Items) → vs ≡ v ∷ rest
    → ReadsAll {T = List Snap.Snap} items_view (snapshots_left s (answers_of vs) (items_view xs)) whole
    → Read view (Err halt) (snapshot_of s (answer_of v))
    → Read {T = List Snap.Snap} items_view (Err halt) whole
snapshot-unread s vs v rest xs halt whole is reads read =
    let next : plains.Value → Eval Items = λ y. andthen (snapshots_of s (answers_of rest)) (λ ps. gives (glued (items_view xs) (part y ps))) in
    reads (Err halt) (subst (λ ws. Read {T = List Snap.Snap} items_view (Err halt) (snapshots_left s (answers_of ws) (items_view xs))) (sym is)
    (read-alike items_view (Err halt) (andthen (snapshot_of s (answer_of v)) next) (snapshots_left s (answer (answer_of v) (answers_of rest)) (items_view xs))
    (λ n. alike-sym _ _ (one_snapshot s (answer_of v) (answers_of rest) (items_view xs) n))
    (read-stop view items_view halt (snapshot_of s (answer_of v)) next read)))

pub snapshots-end : (s : Scope) (vs : List Value.Value) (xs : List Snap.Snap) (whole : Eval Items) → vs ≡ []
    → ReadsAll {T = List Snap.Snap} items_view (snapshots_left s (answers_of vs) (items_view xs)) whole
    → Read items_view (Ok xs) whole
snapshots-end s vs xs whole none reads =
    reads (Ok xs) (subst (λ ws. Read items_view (Ok xs) (snapshots_left s (answers_of ws) (items_view xs))) (sym none)
    (read-then (λ ps. ps) items_view no_parts (Ok xs) (gives no_parts) (λ ps. gives (glued (items_view xs) ps)) (read-lift (λ ps. ps) (Ok no_parts) (Ok no_parts) refl)
    (read-lift items_view (Ok xs) (Ok (glued (items_view xs) no_parts)) (ap Ok (glued-none (items_view xs))))))

-- nothing has been read yet
read_whole : {T A : Type 0} (seen : T → A) (r : Result T Halt) (n : ℕ) (run : Run A) (o : Result A Fault) → run.outcome ≡ o
    → outcomes.Answers seen r (continued run (λ x. lift (Ok x) n) o).outcome → OnOk r ((continued run (λ x. lift (Ok x) n) o).own ≡ 0)
    → outcomes.Answers seen r run.outcome × OnOk r (run.own ≡ 0)
unfolding lift joined ended
read_whole {T} seen r n run (Ok x) is answers own = (subst (λ p. outcomes.Answers seen r p) (sym is) answers, by_result r own)
  where
    by_result : (q : Result T Halt) → OnOk q (run.own + 0 ≡ 0) → OnOk q (run.own ≡ 0)
    by_result (Ok y) h = omega arith
    by_result (Err halt) h = tt
read_whole {T} seen r n run (Err fault) is answers own = (subst (λ p. outcomes.Answers seen r p) (sym is) answers, own)

pub snapshots-begin : (s : Scope) (vs : List Value.Value) (xs : List Snap.Snap) → xs ≡ []
    → ReadsAll {T = List Snap.Snap} items_view (snapshots_left s (answers_of vs) (items_view xs)) (snapshots_of s (answers_of vs))
unfolding andthen
snapshots-begin s vs xs is r read =
    let e : Eval Items = snapshots_of s (answers_of vs) in
    let empty : Read items_view r (andthen e (λ ps. gives ps)) = subst (λ (ys : List Snap.Snap). Read items_view r (snapshots_left s (answers_of vs) (items_view ys))) is read in
    record {
      outcome = λ n. (read_whole items_view r (n + (e n).own) (e n) (e n).outcome refl (empty.outcome n) (empty.own n)).0;
      own = λ n. (read_whole items_view r (n + (e n).own) (e n) (e n).outcome refl (empty.outcome n) (empty.own n)).1;
    }

-- Walked values, all of them read.

-- what is left to read
abbrev pub items_left : Scope → List Item → List Value.Value → Eval Answer
items_left s is values = walk_over s syntax.collect (λ y. gives y) is (several (answers_of values))

opened : (s : Scope) (is : List Item) (i : ℕ) (values : List Value.Value) (whole : Eval Answer) (at : ItemAt is i) → ReadsAll {T = Value.Value} answer_of (items_left s (drop i is) values) whole
    → ReadsAll {T = Value.Value} answer_of (items_left s (at.item ∷ drop (i + 1) is) values) whole
opened s is i values whole at reads = subst (λ js. ReadsAll {T = Value.Value} answer_of (items_left s js values) whole) at.behind reads

-- one more was read
pub item-step : (s : Scope) (is : List Item) (i : ℕ) (values more : List Value.Value) (x : Value.Value) (whole : Eval Answer) → i < length is → more ≡ values ++ x ∷ []
    → ReadsAll {T = Value.Value} answer_of (items_left s (drop i is) values) whole → ReadAt s is i (Ok x)
    → ReadsAll {T = Value.Value} answer_of (items_left s (drop (i + 1) is) more) whole
item-step s is i values more x whole within pushed reads read r left =
    let at = item_at is i within in
    let rest : List Item = drop (i + 1) is in
    let turning : Turn → Eval Answer = turned (λ m. walk_over s syntax.collect (λ y. gives y) rest m) in
    let gathering : Answer → Answer → Eval Answer = λ z y. andthen (judged s (gathered syntax.collect (several (answers_of values)) z y)) turning in
    let next : Answer → Eval Answer = λ z. andthen (gives z) (gathering z) in
    let last : several (answers_of more) ≡ several (with_last (answers_of values) (answer_of x)) = ap (λ (ws : List Value.Value). several (answers_of ws)) pushed ∙ ap several (answers-last values x) in
    let so_far : Turn = on (several (with_last (answers_of values) (answer_of x))) in
    opened s is i values whole at reads r
    (read-then answer_of answer_of x r (read_item s at.item) next (read at.item at.here)
    (read-then (λ y. y) answer_of (answer_of x) r (gives (answer_of x)) (gathering (answer_of x)) (read-lift (λ y. y) (Ok (answer_of x)) (Ok (answer_of x)) refl)
    (read-then (λ t. t) answer_of so_far r (judged s (Ok so_far)) turning (read-lift (λ t. t) (Ok so_far) (Ok so_far) refl)
    (subst (λ z. Read answer_of r (walk_over s syntax.collect (λ y. gives y) rest z)) last left))))

pub item-unread : (s : Scope) (is : List Item) (i : ℕ) (values : List Value.Value) (halt : Halt) (whole : Eval Answer) → i < length is
    → ReadsAll {T = Value.Value} answer_of (items_left s (drop i is) values) whole → ReadAt s is i (Err halt)
    → Read {T = Value.Value} answer_of (Err halt) whole
item-unread s is i values halt whole within reads read =
    let at = item_at is i within in
    opened s is i values whole at reads (Err halt) (read-stop {T = Value.Value} answer_of answer_of halt (read_item s at.item) _ (read at.item at.here))

pub items-end : (s : Scope) (is : List Item) (i : ℕ) (values : List Value.Value) (whole : Eval Answer) → drop i is ≡ []
    → ReadsAll {T = Value.Value} answer_of (items_left s (drop i is) values) whole → Read answer_of (Ok (Value.Several values)) whole
items-end s is i values whole none reads =
    reads (Ok (Value.Several values)) (subst (λ js. Read answer_of (Ok (Value.Several values)) (items_left s js values)) (sym none)
    (read-lift answer_of (Ok (Value.Several values)) (Ok (several (answers_of values))) (ap Ok (sym (answer-Several values)))))

-- Keys of fields.

abbrev pub key_answer : List ℕ → Answer
key_answer k = plain (text k)

pub keys-more : (fs : List Field) (f : Field) (rest : List Field) (keys after : List Value.Value) (k : List ℕ) (whole : List Answer) → fs ≡ f ∷ rest → after ≡ keys ++ Value.Plain (Snap.Text k) ∷ [] → k ≡ f.key
    → map answer_of keys ++ map key_answer (keys_of (fields_view fs)) ≡ whole
    → map answer_of after ++ map key_answer (keys_of (fields_view rest)) ≡ whole
keys-more fs f rest keys after k whole is pushed same left =
    let one : answer_of (Value.Plain (Snap.Text k)) ≡ key_answer (entry f).0 =
    answer-Plain (Snap.Text k) ∙ ap plain (view-Text k ∙ ap text (same ∙ ap (λ (e : List ℕ × plains.Value). e.0) (sym (entry-fields f)))) in
    ap (λ (ws : List Value.Value). map answer_of ws ++ map key_answer (keys_of (fields_view rest))) pushed
    ∙ ap (λ xs. xs ++ map key_answer (keys_of (fields_view rest))) (map-append answer_of keys (Value.Plain (Snap.Text k) ∷ []))
    ∙ append_assoc (map answer_of keys) (answer_of (Value.Plain (Snap.Text k)) ∷ []) (map key_answer (keys_of (fields_view rest)))
    ∙ ap (λ x. map answer_of keys ++ x ∷ map key_answer (keys_of (fields_view rest))) one
    ∙ ap (λ gs. map answer_of keys ++ map key_answer (keys_of (fields_view gs))) (sym is) ∙ left

as_texts : (ks : List (List ℕ)) → answers_from (map key_answer ks) ≡ texts ks
as_texts [] = refl
as_texts (k ∷ ks) = ap (answer (key_answer k)) (as_texts ks)

pub keys-end : (rest : List Field) (keys : List Value.Value) (ks : List (List ℕ)) → rest ≡ [] → map answer_of keys ++ map key_answer (keys_of (fields_view rest)) ≡ map key_answer ks
    → answer_of (Value.Several keys) ≡ several (texts ks)
keys-end rest keys ks none left =
    let all : map answer_of keys ≡ map key_answer ks =
    sym (append-nil (map answer_of keys)) ∙ ap (λ gs. map answer_of keys ++ map key_answer (keys_of (fields_view gs))) (sym none) ∙ left in
    answer-Several keys ∙ ap several (ap answers_from all ∙ as_texts ks)
