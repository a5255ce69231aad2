-- Walks: over the items of an array, the values of a map, several answers, or a plain list.
use Rattle.std.specs.Prelude.{pos, ◌+ℤ◌, List, [], ◌∷◌, map, true, false, Result, Ok, Err, if◌then◌else◌}
use Rattle.snap_core.specs.Value.{boolean, integer, list, Items, no_parts, part}
use Rattle.snap_core.specs.declared.number.NodeNo.{NodeNo}
use Rattle.pointer_core.specs.declared.refusal.Rule.{Rule}
use Rattle.edit_core.specs.declared.kind.Kind.{Kind}
use Rattle.edit_core.specs.declared.kind.Kind.TheVariants.{Model}
use Rattle.expr_syntax.specs.Syntax.{Walk, filter, collect, all, any, sum}
use Rattle.eval_core.specs.declared.site.Site.{Site}
use Rattle.eval_core.specs.Answer.{Answer, plain, node, several, no_answers, answers_in, with_last}
use Rattle.eval_core.specs.Sight.{Entry}
use Rattle.eval_core.specs.Run.{Eval, andthen}
use Rattle.eval_core.specs.Scope.{Scope, gives, refused, judged}
use Rattle.eval_core.specs.Reading.{of_kind, of_level, held_answer}

-- what is walked: an answer that is given, or what an item or an entry of a node holds
pub data Item : Type 0 where
  given : Answer → Item
  standing : NodeNo → Entry → Item

abbrev pub read_item : Scope → Item → Eval Answer
read_item s (given x) = gives x
read_item s (standing n e) = held_answer s (Site.Entry n e.token) e.held

abbrev pub plain_items : Items → List Item
plain_items no_parts = []
plain_items (part v ps) = given (plain v) ∷ plain_items ps

abbrev pub walked_kind : Scope → NodeNo → Kind → Eval (List Item)
walked_kind s n (Model m) = refused s Rule.Kind
walked_kind s n kind = of_level s n (λ es. gives (map (standing n) es))

abbrev pub walked : Scope → Answer → Eval (List Item)
walked s (node n) = of_kind s (s.sight.being n) (walked_kind s n)
walked s (several xs) = gives (map given (answers_in xs))
walked s (plain (list a ps)) = gives (plain_items ps)
walked s x = refused s Rule.Kind

-- a walk goes on with what it has gathered, or stops with its answer
pub data Turn : Type 0 where
  on : Answer → Turn
  stop : Answer → Turn

-- what a walk begins with
abbrev pub start : Walk → Answer
start filter = several no_answers
start collect = several no_answers
start all = plain (boolean true)
start any = plain (boolean false)
start sum = plain (integer (pos 0))

-- what was gathered before, the walked value, and what the body gives for it
abbrev pub gathered : Walk → Answer → Answer → Answer → Result Turn Rule
gathered filter (several xs) x (plain (boolean b)) = Ok (on (several (if b then with_last xs x else xs)))
gathered collect (several xs) x y = Ok (on (several (with_last xs y)))
gathered all so_far x (plain (boolean b)) = Ok (if b then on so_far else stop (plain (boolean false)))
gathered any so_far x (plain (boolean b)) = Ok (if b then stop (plain (boolean true)) else on so_far)
gathered sum (plain (integer y)) x (plain (integer z)) = Ok (on (plain (integer (y +ℤ z))))
gathered w so_far x y = Err Rule.Kind

abbrev pub turned : (Answer → Eval Answer) → Turn → Eval Answer
turned rest (on so_far) = rest so_far
turned rest (stop x) = gives x

-- each item is read just before the body is evaluated for it
abbrev pub walk_over : Scope → Walk → (Answer → Eval Answer) → List Item → Answer → Eval Answer
walk_over s w body [] so_far = gives so_far
walk_over s w body (i ∷ is) so_far =
    andthen (read_item s i) (λ x. andthen (body x) (λ y. andthen (judged s (gathered w so_far x y)) (turned (λ more. walk_over s w body is more))))
