-- Plain values of answers: a node as its identifier, or as its snapshot.
use Rattle.std.specs.Prelude.{ℕ, List, [], ◌∷◌, is_some, Option, Some, None, Result, Ok, Err, if◌then◌else◌}
use Rattle.snap_core.specs.Value.{Value, list, dict, Items, Fields, no_parts, part, no_members, value_at}
use Rattle.snap_core.specs.Level.{set_field, insert_field}
use Rattle.pointer_core.specs.declared.refusal.Rule.{Rule}
use Rattle.eval_core.specs.declared.cell.Cell.{Cell}
use Rattle.eval_core.specs.Answer.{Answer, AnswerList, plain, node, several, no_answers, answer}
use Rattle.eval_core.specs.Sight.{Sight, Being}
use Rattle.eval_core.specs.Run.{Eval, looks, andthen}
use Rattle.eval_core.specs.Scope.{Scope, gives}
use Rattle.eval_core.specs.Reading.{ident_value, of_kind}
use Rattle.snap_core.specs.declared.ident.Ident.{Ident}

-- the identifier of a node
abbrev pub identifier_made : Option Ident → Result Value Rule
identifier_made None = Err Rule.Kind
identifier_made i = Ok (ident_value i)

abbrev pub node_made : Option Being → Result Value Rule
node_made None = Err Rule.Dead
node_made (Some being) = identifier_made being.identifier

abbrev pub part_made : Result Value Rule → Result Items Rule → Result Items Rule
part_made (Ok v) (Ok ps) = Ok (part v ps)
part_made (Ok v) (Err rule) = Err rule
part_made (Err rule) rest = Err rule

abbrev pub list_made : Result Items Rule → Result Value Rule
list_made (Ok ps) = Ok (list tt ps)
list_made (Err rule) = Err rule

-- a node as its identifier, several answers as a list
abbrev mutual
  pub made_value : Sight → Answer → Result Value Rule
  made_value sight (plain v) = Ok v
  made_value sight (node n) = node_made (sight.being n)
  made_value sight (several xs) = list_made (made_values sight xs)

  pub made_values : Sight → AnswerList → Result Items Rule
  made_values sight no_answers = Ok no_parts
  made_values sight (answer x xs) = part_made (made_value sight x) (made_values sight xs)

-- an entry of a record that is made: its key and its answer
abbrev pub Made : Type 0
Made = List ℕ × Answer

-- the fields with one more, in ascending order of the keys
abbrev pub with_field : List ℕ → Value → Fields → Fields
with_field key v ms = if is_some (value_at key ms) then set_field key v ms else insert_field key v ms

abbrev pub field_made : List ℕ → Result Value Rule → (Fields → Result Fields Rule) → Fields → Result Fields Rule
field_made key (Ok v) rest ms = rest (with_field key v ms)
field_made key (Err rule) rest ms = Err rule

abbrev pub fields_made : Sight → List Made → Fields → Result Fields Rule
fields_made sight [] ms = Ok ms
fields_made sight (m ∷ more) ms = field_made m.0 (made_value sight m.1) (λ with_it. fields_made sight more with_it) ms

abbrev pub as_record : Result Fields Rule → Result Answer Rule
as_record (Ok ms) = Ok (plain (dict tt ms))
as_record (Err rule) = Err rule

-- a plain record
abbrev pub record_made : Sight → List Made → Result Answer Rule
record_made sight more = as_record (fields_made sight more no_members)

-- a node as its snapshot, several answers as a list
abbrev mutual
  pub snapshot_of : Scope → Answer → Eval Value
  snapshot_of s (plain v) = gives v
  snapshot_of s (node n) = of_kind s (s.sight.being n) (λ kind. looks (Cell.Whole n) (s.sight.whole n))
  snapshot_of s (several xs) = andthen (snapshots_of s xs) (λ ps. gives (list tt ps))

  pub snapshots_of : Scope → AnswerList → Eval Items
  snapshots_of s no_answers = gives no_parts
  snapshots_of s (answer x xs) = andthen (snapshot_of s x) (λ v. andthen (snapshots_of s xs) (λ ps. gives (part v ps)))
