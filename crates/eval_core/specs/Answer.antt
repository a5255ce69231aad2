-- What expressions answer: a plain value, a node, or several answers in a list.
use Rattle.std.specs.Prelude.{ℕ, zero, suc, ◌+◌, max, Bool, true, false, ◌&&◌, nat_eq, nat_le, List, [], ◌∷◌, Option, Some, None}
use Rattle.snap_core.specs.Value.{Value, list, Items, no_parts, part, weight_of, depth_of}
use Rattle.snap_core.specs.declared.number.NodeNo.{NodeNo}
use Rattle.edit_core.specs.Comparing.{is_equal}
use Rattle.plain_ops.specs.Limits.{most_weight, most_depth, is_bounded}

mutual
  pub data Answer : Type 0 where
    plain : Value → Answer
    node : NodeNo → Answer
    several : AnswerList → Answer

  pub data AnswerList : Type 0 where
    no_answers : AnswerList
    answer : Answer → AnswerList → AnswerList

abbrev pub answers_in : AnswerList → List Answer
answers_in no_answers = []
answers_in (answer x xs) = x ∷ answers_in xs

-- the answers with one more at the end
abbrev pub with_last : AnswerList → Answer → AnswerList
with_last no_answers y = answer y no_answers
with_last (answer x xs) y = answer x (with_last xs y)

abbrev pub how_many : AnswerList → ℕ
how_many no_answers = 0
how_many (answer x xs) = suc (how_many xs)

abbrev pub answer_at : ℕ → AnswerList → Option Answer
answer_at n no_answers = None
answer_at zero (answer x xs) = Some x
answer_at (suc n) (answer x xs) = answer_at n xs

-- several answers weigh as a list, and a node weighs 1
abbrev mutual
  pub answer_weight : Answer → ℕ
  answer_weight (plain v) = weight_of v
  answer_weight (node n) = 1
  answer_weight (several xs) = 1 + answers_weight xs

  pub answers_weight : AnswerList → ℕ
  answers_weight no_answers = 0
  answers_weight (answer x xs) = answer_weight x + answers_weight xs

-- several answers are 2 deeper than the deepest of them, and 2 deep where there is none; a node is 1 deep
abbrev mutual
  pub answer_depth : Answer → ℕ
  answer_depth (plain v) = depth_of v
  answer_depth (node n) = 1
  answer_depth (several xs) = 2 + answers_depth xs

  pub answers_depth : AnswerList → ℕ
  answers_depth no_answers = 0
  answers_depth (answer x xs) = max (answer_depth x) (answers_depth xs)

-- an answer is one that a result may be
abbrev pub is_bounded_answer : Answer → Bool
is_bounded_answer (plain v) = is_bounded v
is_bounded_answer (node n) = true
is_bounded_answer (several xs) = nat_le (answer_weight (several xs)) most_weight && nat_le (answer_depth (several xs)) most_depth

-- an answer equals a plain value: several answers equal a list item by item
abbrev mutual
  pub equals_value : Answer → Value → Bool
  equals_value (plain v) w = is_equal v w
  equals_value (several xs) (list a ps) = equal_items xs ps
  equals_value _ w = false

  pub equal_items : AnswerList → Items → Bool
  equal_items no_answers no_parts = true
  equal_items (answer x xs) (part v ps) = equals_value x v && equal_items xs ps
  equal_items _ _ = false

-- equal plain values, the same node, or lists that are equal item by item
abbrev mutual
  pub same_answer : Answer → Answer → Bool
  same_answer x (plain w) = equals_value x w
  same_answer (plain v) (several ys) = equals_value (several ys) v
  same_answer (node n) (node m) = nat_eq n.0 m.0
  same_answer (several xs) (several ys) = same_answers xs ys
  same_answer _ _ = false

  pub same_answers : AnswerList → AnswerList → Bool
  same_answers no_answers no_answers = true
  same_answers (answer x xs) (answer y ys) = same_answer x y && same_answers xs ys
  same_answers _ _ = false
