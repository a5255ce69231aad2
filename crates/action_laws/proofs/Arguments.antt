-- What parameters are bound to is plain.
use Rattle.std.proofs.Common.{◌≡◌, ℕ, List, [], ◌∷◌, Bool, true, false, Option, Some, None, Ok, Err, refl}
use Rattle.std.specs.Prelude.{IfOk, IfSome, if◌then◌else◌}
use Rattle.std.specs.Option.{option_map, option_and_then}
use Rattle.snap_core.specs.Value.{Value, IsPlain}
use Rattle.snap_core.specs.declared.number.ModelNo.{ModelNo}
use Rattle.snap_core.specs.declared.number.NodeNo.{NodeNo}
use Rattle.pointer_core.specs.Path.{Path}
use Rattle.pointer_core.specs.declared.refusal.Rule.{Rule}
use Rattle.pointer_core.specs.declared.refusal.Rule.TheVariants as rule
use Rattle.type_table.specs.Identifiers.{ident_of}
use Rattle.type_table.specs.Table.{Catalog}
use Rattle.type_core.specs.Making.{Outcome, making}
use Rattle.type_core.specs.Sound.{IsSound}
use Rattle.type_core.proofs.Again.{making-plain}
use Rattle.model_syntax.specs.declared.behaviour.Param.{Param}
use Rattle.model_syntax.specs.Shown.{ShownAction}
use Rattle.edit_core.specs.declared.kind.Kind.{Kind}
use Rattle.edit_core.specs.declared.kind.Kind.TheVariants.{Model}
use Rattle.edit_core.specs.Labelled.{Labelled}
use Rattle.edit_core.specs.Typing.{is_kind}
use Rattle.tree_core.specs.Outcome.{◌>>=◌, or_refuse}
use Rattle.tree_core.specs.Reading.{kind_at}
use Rattle.eval_core.specs.Answer.{Answer, AnswerList, plain, node, several, no_answers, answer}
use Rattle.eval_core.specs.Scope.{Env}
use Rattle.eval_core.specs.Sight.{Sight}
use Rattle.plain_answers.specs.Plainness.{IsPlainAnswer}
use Rattle.action_core.specs.Behaving.{Behaving, Callee, sight_in}
use Rattle.action_core.specs.Beginning.{Argument, as_given, to_be_found, gone, made_in, plain_argument, node_argument, node_at, value_argument, argument_of, parameter_target, Bound, bound_before, arguments_of, reached, all_reached, frame_of, arguments_bound}
use Rattle.action_core.specs.Keeping.{AreFine, IsFineEnv}
use Rattle.answer_writing.specs.Taking.{plain_in}
use Rattle.answer_writing.proofs.PlainValues.{value-plain}

abbrev IsPlainArgument : Argument → Type 0
IsPlainArgument (as_given x) = IsPlainAnswer x
IsPlainArgument (to_be_found m i) = Unit {0}
IsPlainArgument gone = Unit {0}

abbrev ArePlainBound : List Bound → Type 0
ArePlainBound [] = Unit {0}
ArePlainBound (b ∷ bs) = IsPlainArgument b.1 × ArePlainBound bs

then_plain : {A B : Type 0} (P : A → Type 0) (Q : B → Type 0) (f : A → Option B) (o : Option A) → ((x : A) → P x → IfSome (f x) Q) → IfSome o P
    → IfSome (option_and_then f o) Q
then_plain P Q f (Some x) h fine = h x fine
then_plain P Q f None h fine = tt

-- One argument.

made-plain : (types : Catalog) → IsSound types → (t : ℕ) (v : Value) → IsPlain v → IfSome (made_in (making types t (Some v))) IsPlain
made-plain types sound t v h = by_outcome (making types t (Some v)) refl
  where
    by_outcome : (o : Outcome Value) → making types t (Some v) ≡ o → IfSome (made_in o) IsPlain
    by_outcome (Ok w) e = making-plain types sound t (Some v) w e h
    by_outcome (Err r) e = tt

found-plain : (m : ModelNo) (o : _) → IfSome (option_map (to_be_found m) o) IsPlainArgument
found-plain m (Some i) = tt
found-plain m None = tt

plain-plain : (target : Option ModelNo) (v : Value) → IsPlain v → IfSome (plain_argument target v) IsPlainArgument
plain-plain (Some m) v h = found-plain m (ident_of (Some v))
plain-plain None v h = h

chosen-plain : (n : NodeNo) (b : Bool) → IfSome (if b then Some (as_given (node n)) else None) IsPlainArgument
chosen-plain n true = tt
chosen-plain n false = tt

kind-plain : (n : NodeNo) (m : ModelNo) (kind : Option Kind) → IfSome (node_argument n m kind) IsPlainArgument
kind-plain n m None = tt
kind-plain n m (Some kind) = chosen-plain n (is_kind (Some kind) (Model m))

node-plain : (n : NodeNo) (root : Labelled) (target : Option ModelNo) → IfSome (node_at n root target) IsPlainArgument
node-plain n root (Some m) = kind-plain n m (kind_at n.0 root)
node-plain n root None = tt

given-plain : (types : Catalog) → IsSound types → (t : ℕ) (target : Option ModelNo) (v : Option Value) → IfSome v IsPlain
    → IfSome (value_argument types t target v) IsPlainArgument
given-plain types sound t target v h =
    then_plain IsPlain IsPlainArgument (plain_argument target) (option_and_then (λ w. made_in (making types t (Some w))) v) (plain-plain target)
    (then_plain IsPlain IsPlain (λ w. made_in (making types t (Some w))) v (λ w fine. made-plain types sound t w fine) h)

argument-plain : (types : Catalog) → IsSound types → (root : Labelled) (t : ℕ) (target : Option ModelNo) (x : Answer) → IsPlainAnswer x
    → IfSome (argument_of types root t target x) IsPlainArgument
argument-plain types sound root t target (node n) fine = node-plain n root target
argument-plain types sound root t target (plain v) fine = given-plain types sound t target (Some v) fine
argument-plain types sound root t target (several xs) fine = given-plain types sound t target (plain_in (several xs)) (value-plain (several xs) fine)

-- All of them.

before-plain : (name : List ℕ) (rest : Option (List Bound)) → IfSome rest ArePlainBound → (a : Argument) → IsPlainArgument a
    → IfSome (bound_before name rest a) ArePlainBound
before-plain name (Some bs) h a fine = (fine, h)
before-plain name None h a fine = tt

arguments-plain : (types : Catalog) → IsSound types → (root : Labelled) (ps : List Param) (xs : AnswerList) → AreFine IsPlainAnswer xs
    → IfSome (arguments_of types root ps xs) ArePlainBound
arguments-plain types sound root [] no_answers fine = tt
arguments-plain types sound root [] (answer x xs) fine = tt
arguments-plain types sound root (p ∷ ps) no_answers fine = tt
arguments-plain types sound root (p ∷ ps) (answer x xs) fine =
    then_plain IsPlainArgument ArePlainBound (bound_before p.name (arguments_of types root ps xs)) (argument_of types root p.of.0 (parameter_target types p.of.0) x)
    (before-plain p.name (arguments_of types root ps xs) (arguments-plain types sound root ps xs fine.1))
    (argument-plain types sound root p.of.0 (parameter_target types p.of.0) x fine.0)

some-node : (o : Option NodeNo) → IfSome (option_map node o) IsPlainAnswer
some-node (Some n) = tt
some-node None = tt

reached-plain : (sight : Sight) (a : Argument) → IsPlainArgument a → IfSome (reached sight a) IsPlainAnswer
reached-plain sight (as_given x) fine = fine
reached-plain sight (to_be_found m i) fine = some-node (sight.known m i)
reached-plain sight gone fine = tt

abbrev IsPlainBinding : Env → Type 0
IsPlainBinding env = IsFineEnv IsPlainAnswer env

with_rest : (name : List ℕ) (rest : Option Env) → IfSome rest IsPlainBinding → (x : Answer) → IsPlainAnswer x
    → IfSome (option_map (λ env. (name, x) ∷ env) rest) IsPlainBinding
with_rest name (Some env) h x fine = (fine, h)
with_rest name None h x fine = tt

env-plain : (sight : Sight) (bs : List Bound) → ArePlainBound bs → IfSome (all_reached sight bs) IsPlainBinding
env-plain sight [] h = tt
env-plain sight (b ∷ bs) h =
    then_plain IsPlainAnswer IsPlainBinding (λ x. option_map (λ env. (b.0, x) ∷ env) (all_reached sight bs)) (reached sight b.1)
    (with_rest b.0 (all_reached sight bs) (env-plain sight bs h.1)) (reached-plain sight b.1 h.0)

or_plain : {A : Type 0} (P : A → Type 0) (o : Option A) (path : Path) (r : Rule) → IfSome o P → IfOk (or_refuse o path r) P
or_plain P (Some x) path r h = h
or_plain P None path r h = tt

then_bound : (o : Outcome (List Bound)) (next : List Bound → Outcome Env) → IfOk o ArePlainBound → ((bs : List Bound) → ArePlainBound bs → IfOk (next bs) IsPlainBinding)
    → IfOk (o >>= next) IsPlainBinding
then_bound (Ok bs) next h g = g bs h
then_bound (Err e) next h g = tt

pub bound-plain : (behaving : Behaving) → IsSound behaving.types → (callee : Callee) → AreFine IsPlainAnswer callee.given → (root : Labelled) (action : ShownAction)
    → IfOk (arguments_bound behaving callee root action) IsPlainBinding
bound-plain behaving sound callee fine root action =
    then_bound (or_refuse (arguments_of behaving.types root action.params callee.given) (frame_of callee root) rule.Arguments)
    (λ given. or_refuse (all_reached (sight_in behaving root) given) (frame_of callee root) rule.Reference)
    (or_plain ArePlainBound (arguments_of behaving.types root action.params callee.given) (frame_of callee root) rule.Arguments
    (arguments-plain behaving.types sound root action.params callee.given fine))
    (λ bs h. or_plain IsPlainBinding (all_reached (sight_in behaving root) bs) (frame_of callee root) rule.Reference (env-plain (sight_in behaving root) bs h))
