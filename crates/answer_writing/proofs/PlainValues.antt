-- Answers that are taken are plain: what is written, and what is made of it.
use Rattle.std.proofs.Common.{◌≡◌, ℕ, List, [], ◌∷◌, Bool, true, false, Option, Some, None, Ok, Err, refl, drop}
use Rattle.std.specs.Prelude.{IfOk, IfSome, decimal, ◌+◌, unwrap_or, if◌then◌else◌}
use Rattle.std.specs.Option.{option_map, option_and_then}
use Rattle.snap_core.specs.Value.{Value, null, boolean, integer, text, list, dict, Items, part, IsPlain, ArePlain}
use Rattle.snap_core.specs.declared.number.ModelNo.{ModelNo}
use Rattle.snap_core.specs.declared.number.NodeNo.{NodeNo}
use Rattle.pointer_core.specs.declared.refusal.Rule.{Rule}
use Rattle.type_table.specs.Identifiers.{ident_of}
use Rattle.type_core.specs.Making.{Refused, Outcome, Maker, mistyped, refused, under, part_made, items_made, list_of, maker_of, limited, is_within}
use Rattle.type_core.specs.Sound.{IsSound}
use Rattle.type_core.proofs.Again.{Makes-plain, IfSome-value_at}
use Rattle.type_core.proofs.Laws.{made_by-sound}
use Rattle.edit_core.specs.declared.kind.Kind.TheVariants.{Model}
use Rattle.edit_core.specs.Labelled.{Labelled, bare}
use Rattle.edit_core.specs.Template.{items_under}
use Rattle.edit_core.specs.Typing.{field_at, is_kind}
use Rattle.edit_core.specs.Edit.{Turn}
use Rattle.edit_core.specs.Ways.{way_to, part_at}
use Rattle.tree_core.specs.Reading.{kind_at, identifier_in}
use Rattle.tree_core.specs.TypesTyping.{typing_of}
use Rattle.tree_core.proofs.PartFacts.{plain-part}
use Rattle.tree_core.proofs.PlaceKeeping.{way-stands}
use Rattle.eval_core.specs.Answer.{Answer, AnswerList, plain, node, several, no_answers, answer}
use Rattle.eval_core.specs.Reading.{ident_value}
use Rattle.plain_answers.specs.Plainness.{IsPlainAnswer, ArePlainAnswers}
use Rattle.answer_writing.specs.Taking.{Taking, Aim, plain_in, plains_in, model_at, items_at, item_aim, node_value, node_made, is_large, unless_large, plain_made, items_taken, list_taken, answer_made, answers_made}

-- The plain value that an answer is.

mapped : {A B : Type 0} (P : A → Type 0) (Q : B → Type 0) (f : A → B) (o : Option A) → ((x : A) → P x → Q (f x)) → IfSome o P → IfSome (option_map f o) Q
mapped P Q f (Some x) h fine = h x fine
mapped P Q f None h fine = tt

joined : (v : Option Value) (ps : Option Items) → IfSome v IsPlain → IfSome ps ArePlain → IfSome (option_and_then (λ w. option_map (λ qs. part w qs) ps) v) ArePlain
joined None ps h g = tt
joined (Some v) None h g = tt
joined (Some v) (Some ps) h g = (h, g)

mutual
  pub value-plain : (x : Answer) → IsPlainAnswer x → IfSome (plain_in x) IsPlain
  value-plain (plain v) fine = fine
  value-plain (node n) fine = tt
  value-plain (several xs) fine = mapped ArePlain IsPlain (λ ps. list tt ps) (plains_in xs) (λ ps h. h) (values-plain xs fine)

  pub values-plain : (xs : AnswerList) → ArePlainAnswers xs → IfSome (plains_in xs) ArePlain
  values-plain no_answers fine = tt
  values-plain (answer x xs) fine = joined (plain_in x) (plains_in xs) (value-plain x fine.0) (values-plain xs fine.1)

-- Making.

under-plain : (token : List ℕ) (o : Outcome Value) → IfOk o IsPlain → IfOk (under token o) IsPlain
under-plain token (Ok v) h = h
under-plain token (Err e) h = tt

part-plain : (o : Outcome Value) (rest : Outcome Items) → IfOk o IsPlain → IfOk rest ArePlain → IfOk (part_made o rest) ArePlain
part-plain (Err e) rest h g = tt
part-plain (Ok v) (Err e) h g = tt
part-plain (Ok v) (Ok ps) h g = (h, g)

abbrev AllPlain : List Maker → Type 0
AllPlain [] = Unit {0}
AllPlain (m ∷ ms) = ((t : ℕ) → IfOk (m t) IsPlain) × AllPlain ms

items-plain : (i t : ℕ) (ms : List Maker) → AllPlain ms → IfOk (items_made i t ms) ArePlain
items-plain i t [] h = tt
items-plain i t (m ∷ ms) h = part-plain (under (decimal i) (m t)) (items_made (i + 1) t ms) (under-plain (decimal i) (m t) (h.0 t)) (items-plain (i + 1) t ms h.1)

list-plain : (o : Outcome Items) → IfOk o ArePlain → IfOk (list_of o) IsPlain
list-plain (Ok ps) h = h
list-plain (Err e) h = tt

-- an identifier that a plain value holds
ident-plain : (o : Option Value) → IfSome o IsPlain → IsPlain (ident_value (ident_of o))
ident-plain None h = tt
ident-plain (Some null) h = tt
ident-plain (Some (boolean b)) h = tt
ident-plain (Some (integer z)) h = h
ident-plain (Some (text t)) h = tt
ident-plain (Some (list a ps)) h = tt
ident-plain (Some (dict a ms)) h = tt

field-plain : (name : List ℕ) (v : Value) → IsPlain v → IfSome (field_at name v) IsPlain
field-plain name (dict a ms) h = IfSome-value_at name ms h
field-plain name null h = tt
field-plain name (boolean b) h = tt
field-plain name (integer z) h = tt
field-plain name (text t) h = tt
field-plain name (list a ps) h = tt

identifier-plain : (name : Option (List ℕ)) (v : Value) → IsPlain v → IsPlain (ident_value (identifier_in name v))
identifier-plain (Some name) v h = ident-plain (field_at name v) (field-plain name v h)
identifier-plain None v h = tt

module _ (by : Taking) (sound : IsSound by.types) (whole : IsPlain (bare by.root)) where
  within-plain : (v w : Value) (b : Bool) → IsPlain v → IsPlain w → IfOk (unless_large v (if b then Ok w else refused Rule.Large)) IsPlain
  within-plain v w true h g = g
  within-plain v w false h g = h

  refused-plain : (v : Value) (e : Refused) (b : Bool) → IsPlain v → IfOk (if b then Ok v else Err e) IsPlain
  refused-plain v e true h = h
  refused-plain v e false h = tt

  maker-plain : (v : Value) (t : ℕ) → IsPlain v → IfOk (plain_made by v t) IsPlain
  maker-plain v t h = by_outcome (maker_of by.types.table by.types.defaults v t) refl
    where
      by_outcome : (o : Outcome Value) → maker_of by.types.table by.types.defaults v t ≡ o → IfOk (unless_large v (limited o)) IsPlain
      by_outcome (Ok w) e = within-plain v w (is_within w) h (Makes-plain by.types sound t (Some v) w (made_by-sound by.types.table by.types.defaults sound.defaults.made t (Some v) w e) h)
      by_outcome (Err r) e = refused-plain v r (is_large r.rule) h

  node-plain : (n : NodeNo) → IsPlain (node_value by n)
  node-plain n = by_way (way_to n.0 by.root) refl
    where
      by_part : (way : List Turn) → way_to n.0 by.root ≡ Some way → (o : Option Labelled) → part_at way by.root ≡ o → IsPlain (unwrap_or (option_map bare o) null)
      by_part way e None f = tt
      by_part way e (Some held) f = plain-part way by.root held (way-stands n.0 by.root way held e f) whole

      by_way : (o : Option (List Turn)) → way_to n.0 by.root ≡ o → IsPlain (unwrap_or (option_map bare (option_and_then (λ way. part_at way by.root) o)) null)
      by_way None e = tt
      by_way (Some way) e = by_part way e (part_at way by.root) refl

  identified-plain : (n : NodeNo) (m : ModelNo) (b : Bool)
      → IfOk (if b then Ok (ident_value (identifier_in ((typing_of by.types.table).identifier_of m) (node_value by n))) else mistyped {A = Value}) IsPlain
  identified-plain n m true = identifier-plain ((typing_of by.types.table).identifier_of m) (node_value by n) (node-plain n)
  identified-plain n m false = tt

  target-plain : (n : NodeNo) (m : Option ModelNo) → IfOk (node_made by n m) IsPlain
  target-plain n (Some m) = identified-plain n m (is_kind (kind_at n.0 by.root) (Model m))
  target-plain n None = node-plain n

  taken-plain : (ms : List Maker) (t : Option ℕ) → AllPlain ms → IfOk (items_taken ms t) IsPlain
  taken-plain ms (Some t) h = list-plain (items_made 0 t ms) (items-plain 0 t ms h)
  taken-plain ms None h = tt

  listed-plain : (aim : Aim) (ms : List Maker) (ps : Option Items) → AllPlain ms → IfSome ps ArePlain → IfOk (list_taken by aim ms ps) IsPlain
  listed-plain aim ms (Some ps) h g = maker-plain (list tt ps) aim.type g
  listed-plain aim ms None h g = taken-plain ms (items_at by aim) h

  mutual
    pub made-plain : (x : Answer) → IsPlainAnswer x → (aim : Aim) → IfOk (answer_made by x aim) IsPlain
    made-plain (plain v) fine aim = maker-plain v aim.type fine
    made-plain (node n) fine aim = target-plain n (model_at by aim)
    made-plain (several xs) fine aim = listed-plain aim (answers_made by xs (items_under aim.held)) (plains_in xs) (all-plain xs fine (items_under aim.held)) (values-plain xs fine)

    all-plain : (xs : AnswerList) → ArePlainAnswers xs → (held : List Labelled) → AllPlain (answers_made by xs held)
    all-plain no_answers fine held = tt
    all-plain (answer x xs) fine held = ((λ t. made-plain x fine.0 (item_aim x t held)), all-plain xs fine.1 (drop 1 held))
