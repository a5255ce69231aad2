-- Records that are made, and snapshots, keep the relation.
use Rattle.std.proofs.Common.{◌≡◌, List, [], ◌∷◌, Result, Ok, Err, refl, ap, ◌∙◌, subst}
use Rattle.std.specs.Prelude.{IfOk}
use Rattle.snap_core.specs.Value.{Value, list, Items, Fields, no_parts, part, no_members}
use Rattle.snap_core.specs.declared.number.NodeNo.{NodeNo}
use Rattle.pointer_core.specs.declared.refusal.Rule.{Rule}
use Rattle.eval_core.specs.Answer.{Answer, AnswerList, plain, node, several, no_answers, answer}
use Rattle.eval_core.specs.Scope.{judged}
use Rattle.eval_core.specs.Making.{node_made, list_made, made_value, made_values, Made, with_field, field_made, fields_made, as_record, record_made, snapshot_of, snapshots_of}
use Rattle.eval_core.specs.Pairing.{Pairing, left_scope, right_scope, InAnswer, InAnswers, Anything}
use Rattle.eval_core.proofs.Steps
use Rattle.eval_core.proofs.Steps.{judging, kinds}

-- a fact of nodes, for each node in the entries of a record that is made
abbrev pub InMade : (NodeNo → Type 0) → List Made → Type 0
InMade Good [] = Unit {0}
InMade Good (m ∷ ms) = InAnswer Good m.1 × InMade Good ms

-- what is made of an answer is the same in both sights
mutual
  made-same : (p : Pairing) (x : Answer) → InAnswer p.Good x → made_value p.left x ≡ made_value p.right x
  made-same p (plain v) good = refl
  made-same p (node n) good = ap node_made (p.beings n good)
  made-same p (several xs) good = ap list_made (all_made-same p xs good)

  all_made-same : (p : Pairing) (xs : AnswerList) → InAnswers p.Good xs → made_values p.left xs ≡ made_values p.right xs
  all_made-same p no_answers good = refl
  all_made-same p (answer x xs) good = rw (made-same p x good.0, all_made-same p xs good.1)

fields-same : (p : Pairing) (more : List Made) (ms : Fields) → InMade p.Good more → fields_made p.left more ms ≡ fields_made p.right more ms
fields-same p [] ms good = refl
fields-same p (m ∷ more) ms good =
    ap (λ o. field_made m.0 o (λ with_it. fields_made p.left more with_it) ms) (made-same p m.1 good.0)
    ∙ by_outcome (made_value p.right m.1) (λ with_it. fields-same p more with_it good.1)
  where
    by_outcome : (o : Result Value Rule) → ((with_it : Fields) → fields_made p.left more with_it ≡ fields_made p.right more with_it)
        → field_made m.0 o (λ with_it. fields_made p.left more with_it) ms ≡ field_made m.0 o (λ with_it. fields_made p.right more with_it) ms
    by_outcome (Ok v) h = h (with_field m.0 v ms)
    by_outcome (Err rule) h = refl

record-good : (Good : NodeNo → Type 0) (o : Result Fields Rule) → IfOk (as_record o) (InAnswer Good)
record-good Good (Ok ms) = tt
record-good Good (Err rule) = tt

pub making : (p : Pairing) (more : List Made) → InMade p.Good more
    → Steps.ArePaired p (judged (left_scope p) (record_made p.left more)) (judged (right_scope p) (record_made p.right more))
making p more good =
    let same : record_made p.left more ≡ record_made p.right more = ap as_record (fields-same p more no_members good) in
    let Family : Result Answer Rule → Type 0 = λ o. Steps.ArePaired p (judged (left_scope p) (record_made p.left more)) (judged (right_scope p) o) in
    subst Family same (judging p Answer (InAnswer p.Good) (record_made p.left more) (record-good p.Good (fields_made p.left more no_members)))

mutual
  pub snapping : (p : Pairing) (x : Answer) → InAnswer p.Good x → p.Rel Value Anything (snapshot_of (left_scope p) x) (snapshot_of (right_scope p) x)
  snapping p (plain v) good = Steps.given p Value Anything v tt
  snapping p (node n) good = kinds p Value Anything n _ _ good (λ kind. p.wholes n good)
  snapping p (several xs) good = p.thens Items Value Anything Anything _ _ _ _ (snapping_all p xs good) (λ ps any. Steps.given p Value Anything (list tt ps) tt)

  snapping_all : (p : Pairing) (xs : AnswerList) → InAnswers p.Good xs → p.Rel Items Anything (snapshots_of (left_scope p) xs) (snapshots_of (right_scope p) xs)
  snapping_all p no_answers good = Steps.given p Items Anything no_parts tt
  snapping_all p (answer x xs) good =
      p.thens Value Items Anything Anything _ _ _ _ (snapping p x good.0)
      (λ v any. p.thens Items Items Anything Anything _ _ _ _ (snapping_all p xs good.1) (λ ps also. Steps.given p Items Anything (part v ps) tt))
