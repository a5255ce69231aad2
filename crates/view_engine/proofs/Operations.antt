-- Operators on answers, and their results tested.
use Rattle.std.proofs.Common.{◌≡◌, Result, Ok, Err, refl, sym, ap, subst}
use Rattle.snap_core.specs.Value as plains
use Rattle.snap_core.specs.declared.number.NodeNo.{NodeNo}
use Rattle.expr_syntax.specs.declared.op.Op.{Op}
use Rattle.expr_syntax.specs.declared.op.Op.TheVariants as ops
use Rattle.eval_core.specs.Answer.{Answer, AnswerList, plain, node, several}
use Rattle.eval_core.specs.Operating.{Judged, bounded_outcome, operated_on, in_bounds}
use Rattle.eval_core.specs.Reading.{operate}
use Rattle.eval_core.specs.Run.{lift}
use Rattle.eval_core.specs.Scope.{Scope, judged, at_site}
use Rattle.answer_ops.specs.View.{answer_of}
use Rattle.answer_ops.specs.declared.value.Value.{Value}
use Rattle.view_engine.specs.declared.halt.Halt.{Halt}
use Rattle.view_engine.specs.Did.{Read}
use Rattle.view_engine.specs.Steps.{tested}
use Rattle.view_engine.proofs.Doing.{read-stop, tested-gives}

-- a judged outcome, with its result tested
tested_judged : (s : Scope) (r : Result Value Halt) (o : Judged) → Read answer_of r (judged s (bounded_outcome o)) → Read answer_of r (tested s (judged s o))
unfolding lift
tested_judged s r (Ok x) read = tested-gives s x r read
tested_judged s (Ok v) (Err rule) read = let never : at_site s.here (bounded_outcome (Err rule)) ≡ Ok (answer_of v) = read.outcome 0 in absurd cc
tested_judged s (Err halt) (Err rule) read = read-stop {T = Value} {U = Value} answer_of answer_of halt (judged s (Err rule)) (λ x. judged s (in_bounds x)) read

abbrev Tests : Scope → Op → Answer → Answer → Result Value Halt → Type 0
Tests s op x y r = Read answer_of r (judged s (bounded_outcome (operated_on op x y))) → Read answer_of r (tested s (operate s op x y))

pub plain-operated : (s : Scope) (op : Op) (v : plains.Value) (y : Answer) (r : Result Value Halt) → Tests s op (plain v) y r
plain-operated s ops.Add v y r read = tested_judged s r (operated_on ops.Add (plain v) y) read
plain-operated s ops.Sub v y r read = tested_judged s r (operated_on ops.Sub (plain v) y) read
plain-operated s ops.Mul v y r read = tested_judged s r (operated_on ops.Mul (plain v) y) read
plain-operated s ops.Div v y r read = tested_judged s r (operated_on ops.Div (plain v) y) read
plain-operated s ops.Mod v y r read = tested_judged s r (operated_on ops.Mod (plain v) y) read
plain-operated s ops.Concat v y r read = tested_judged s r (operated_on ops.Concat (plain v) y) read
plain-operated s ops.Text v y r read = tested_judged s r (operated_on ops.Text (plain v) y) read
plain-operated s ops.Eq v y r read = tested_judged s r (operated_on ops.Eq (plain v) y) read
plain-operated s ops.Lt v y r read = tested_judged s r (operated_on ops.Lt (plain v) y) read
plain-operated s ops.Not v y r read = tested_judged s r (operated_on ops.Not (plain v) y) read
plain-operated s ops.Item v y r read = tested_judged s r (operated_on ops.Item (plain v) y) read
plain-operated s ops.Has v y r read = tested_judged s r (operated_on ops.Has (plain v) y) read
plain-operated s ops.Size v y r read = tested_judged s r (operated_on ops.Size (plain v) y) read

pub several-operated : (s : Scope) (op : Op) (xs : AnswerList) (y : Answer) (r : Result Value Halt) → Tests s op (several xs) y r
several-operated s ops.Add xs y r read = tested_judged s r (operated_on ops.Add (several xs) y) read
several-operated s ops.Sub xs y r read = tested_judged s r (operated_on ops.Sub (several xs) y) read
several-operated s ops.Mul xs y r read = tested_judged s r (operated_on ops.Mul (several xs) y) read
several-operated s ops.Div xs y r read = tested_judged s r (operated_on ops.Div (several xs) y) read
several-operated s ops.Mod xs y r read = tested_judged s r (operated_on ops.Mod (several xs) y) read
several-operated s ops.Concat xs y r read = tested_judged s r (operated_on ops.Concat (several xs) y) read
several-operated s ops.Text xs y r read = tested_judged s r (operated_on ops.Text (several xs) y) read
several-operated s ops.Eq xs y r read = tested_judged s r (operated_on ops.Eq (several xs) y) read
several-operated s ops.Lt xs y r read = tested_judged s r (operated_on ops.Lt (several xs) y) read
several-operated s ops.Not xs y r read = tested_judged s r (operated_on ops.Not (several xs) y) read
several-operated s ops.Item xs y r read = tested_judged s r (operated_on ops.Item (several xs) y) read
several-operated s ops.Has xs y r read = tested_judged s r (operated_on ops.Has (several xs) y) read
several-operated s ops.Size xs y r read = tested_judged s r (operated_on ops.Size (several xs) y) read

pub node-operated : (s : Scope) (op : Op) (n : NodeNo) (y : Answer) (r : Result Value Halt) → (op ≡ ops.Item → ⊥) → (op ≡ ops.Has → ⊥) → (op ≡ ops.Size → ⊥) → Tests s op (node n) y r
node-operated s ops.Add n y r item has size read = tested_judged s r (operated_on ops.Add (node n) y) read
node-operated s ops.Sub n y r item has size read = tested_judged s r (operated_on ops.Sub (node n) y) read
node-operated s ops.Mul n y r item has size read = tested_judged s r (operated_on ops.Mul (node n) y) read
node-operated s ops.Div n y r item has size read = tested_judged s r (operated_on ops.Div (node n) y) read
node-operated s ops.Mod n y r item has size read = tested_judged s r (operated_on ops.Mod (node n) y) read
node-operated s ops.Concat n y r item has size read = tested_judged s r (operated_on ops.Concat (node n) y) read
node-operated s ops.Text n y r item has size read = tested_judged s r (operated_on ops.Text (node n) y) read
node-operated s ops.Eq n y r item has size read = tested_judged s r (operated_on ops.Eq (node n) y) read
node-operated s ops.Lt n y r item has size read = tested_judged s r (operated_on ops.Lt (node n) y) read
node-operated s ops.Not n y r item has size read = tested_judged s r (operated_on ops.Not (node n) y) read
node-operated s ops.Item n y r item has size read = absurd (item refl)
node-operated s ops.Has n y r item has size read = absurd (has refl)
node-operated s ops.Size n y r item has size read = absurd (size refl)
