-- Records that are made, and snapshots, are plain.
use Rattle.std.proofs.Common.{◌≡◌, ℕ, List, [], ◌∷◌, Option, Some, None, Result, Ok, Err, if◌then◌else◌, refl}
use Rattle.std.specs.Prelude.{IfOk, IfSome, is_some}
use Rattle.snap_core.specs.Value.{Value, list, Items, Fields, IsPlain, ArePlain, ArePlainMembers, no_parts, part, no_members, value_at}
use Rattle.snap_core.specs.Level.{set_field, insert_field}
use Rattle.snap_core.specs.declared.ident.Ident.{Ident}
use Rattle.snap_core.proofs.PlainLevels.{ArePlainMembers-set_field, ArePlainMembers-insert_field}
use Rattle.pointer_core.specs.declared.refusal.Rule.{Rule}
use Rattle.eval_core.specs.declared.cell.Cell.{Cell}
use Rattle.eval_core.specs.Answer.{Answer, AnswerList, plain, node, several, no_answers, answer}
use Rattle.eval_core.specs.Sight.{Sight, Being}
use Rattle.eval_core.specs.Scope.{Scope}
use Rattle.eval_core.specs.Reading.{ident_value}
use Rattle.eval_core.specs.Making.{identifier_made, node_made, part_made, list_made, made_value, made_values, Made, with_field, field_made, fields_made, as_record, record_made, snapshot_of, snapshots_of}
use Rattle.plain_answers.specs.Plainness.{IsPlainAnswer, ArePlainAnswers, IsPlainSight, HasPlainIdentifier}
use Rattle.plain_answers.proofs.Giving.{Gives, given, looking, going_on, by_kind}
use Rattle.plain_answers.proofs.Readings.{IsPlainScope}

-- the answers in the entries of a record that is made
abbrev pub ArePlainMade : List Made → Type 0
ArePlainMade [] = Unit {0}
ArePlainMade (m ∷ ms) = IsPlainAnswer m.1 × ArePlainMade ms

identifier-plain : (i : Option Ident) → IsPlain (ident_value i) → IfOk (identifier_made i) IsPlain
identifier-plain None fine = tt
identifier-plain (Some i) fine = fine

node-plain : (o : Option Being) → IfSome o HasPlainIdentifier → IfOk (node_made o) IsPlain
node-plain None fine = tt
node-plain (Some being) fine = identifier-plain being.identifier fine

part-plain : (v : Result Value Rule) (ps : Result Items Rule) → IfOk v IsPlain → IfOk ps ArePlain → IfOk (part_made v ps) ArePlain
part-plain (Ok v) (Ok ps) fine all = (fine, all)
part-plain (Ok v) (Err rule) fine all = tt
part-plain (Err rule) ps fine all = tt

list-plain : (ps : Result Items Rule) → IfOk ps ArePlain → IfOk (list_made ps) IsPlain
list-plain (Ok ps) all = all
list-plain (Err rule) all = tt

mutual
  made-plain : (sight : Sight) → IsPlainSight sight → (x : Answer) → IsPlainAnswer x → IfOk (made_value sight x) IsPlain
  made-plain sight h (plain v) fine = fine
  made-plain sight h (node n) fine = node-plain (sight.being n) (h.identifiers n)
  made-plain sight h (several xs) fine = list-plain (made_values sight xs) (all_made-plain sight h xs fine)

  all_made-plain : (sight : Sight) → IsPlainSight sight → (xs : AnswerList) → ArePlainAnswers xs → IfOk (made_values sight xs) ArePlain
  all_made-plain sight h no_answers fine = tt
  all_made-plain sight h (answer x xs) fine =
      part-plain (made_value sight x) (made_values sight xs) (made-plain sight h x fine.0) (all_made-plain sight h xs fine.1)

-- one field more, wherever its key belongs
with_field-plain : (key : List ℕ) (v : Value) (ms : Fields) → IsPlain v → ArePlainMembers ms → ArePlainMembers (with_field key v ms)
with_field-plain key v ms one all = by_held (value_at key ms) refl
  where
    by_held : (o : Option Value) → value_at key ms ≡ o → ArePlainMembers (if is_some o then set_field key v ms else insert_field key v ms)
    by_held (Some w) e = ArePlainMembers-set_field key v ms one all
    by_held None e = ArePlainMembers-insert_field key v ms e one all

fields-plain : (sight : Sight) → IsPlainSight sight → (more : List Made) (ms : Fields) → ArePlainMade more → ArePlainMembers ms
    → IfOk (fields_made sight more ms) ArePlainMembers
fields-plain sight h [] ms fine all = all
fields-plain sight h (m ∷ more) ms fine all =
    by_outcome (made_value sight m.1) (made-plain sight h m.1 fine.0) (λ with_it good. fields-plain sight h more with_it fine.1 good)
  where
    by_outcome : (o : Result Value Rule) → IfOk o IsPlain
        → ((with_it : Fields) → ArePlainMembers with_it → IfOk (fields_made sight more with_it) ArePlainMembers)
        → IfOk (field_made m.0 o (λ with_it. fields_made sight more with_it) ms) ArePlainMembers
    by_outcome (Ok v) one rest = rest (with_field m.0 v ms) (with_field-plain m.0 v ms one all)
    by_outcome (Err rule) one rest = tt

record-plain : (o : Result Fields Rule) → IfOk o ArePlainMembers → IfOk (as_record o) IsPlainAnswer
record-plain (Ok ms) all = all
record-plain (Err rule) all = tt

pub making : (sight : Sight) → IsPlainSight sight → (more : List Made) → ArePlainMade more → IfOk (record_made sight more) IsPlainAnswer
making sight h more fine = record-plain (fields_made sight more no_members) (fields-plain sight h more no_members fine tt)

mutual
  pub snapping : (s : Scope) → IsPlainScope s → (x : Answer) → IsPlainAnswer x → Gives IsPlain (snapshot_of s x)
  snapping s h (plain v) fine = given IsPlain v fine
  snapping s h (node n) fine = by_kind IsPlain s (s.sight.being n) _ (λ kind. looking IsPlain (Cell.Whole n) (s.sight.whole n) (h.seen.wholes n))
  snapping s h (several xs) fine = going_on ArePlain IsPlain _ _ (snapping_all s h xs fine) (λ ps all. given IsPlain (list tt ps) all)

  snapping_all : (s : Scope) → IsPlainScope s → (xs : AnswerList) → ArePlainAnswers xs → Gives ArePlain (snapshots_of s xs)
  snapping_all s h no_answers fine = given ArePlain no_parts tt
  snapping_all s h (answer x xs) fine =
      going_on IsPlain ArePlain _ _ (snapping s h x fine.0) (λ v one.
      going_on ArePlain ArePlain _ _ (snapping_all s h xs fine.1) (λ ps all. given ArePlain (part v ps) (one, all)))
