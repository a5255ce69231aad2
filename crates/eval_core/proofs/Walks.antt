-- Walks keep the relation.
use Rattle.std.proofs.Common.{List, [], ◌∷◌, map, Bool, true, false, if◌then◌else◌}
use Rattle.std.specs.Prelude.{IfOk}
use Rattle.snap_core.specs.Value.{boolean, integer, list, Items, no_parts, part}
use Rattle.snap_core.specs.declared.number.NodeNo.{NodeNo}
use Rattle.pointer_core.specs.declared.refusal.Rule.{Rule}
use Rattle.edit_core.specs.declared.kind.Kind.{Kind}
use Rattle.edit_core.specs.declared.kind.Kind.TheVariants.{Model, Array, Map}
use Rattle.expr_syntax.specs.Syntax.{Walk, filter, collect, all, any, sum}
use Rattle.eval_core.specs.declared.site.Site.{Site}
use Rattle.eval_core.specs.Answer.{Answer, AnswerList, plain, node, several, no_answers, answer, answers_in, with_last}
use Rattle.eval_core.specs.Sight.{Entry}
use Rattle.eval_core.specs.Run.{Eval}
use Rattle.eval_core.specs.Scope.{refused}
use Rattle.eval_core.specs.Walking.{Item, given, standing, read_item, plain_items, walked_kind, walked, Turn, on, stop, start, gathered, turned, walk_over}
use Rattle.eval_core.specs.Pairing.{Pairing, left_scope, right_scope, InAnswer, InAnswers, InHeld, InLevel}
use Rattle.eval_core.proofs.Steps
use Rattle.eval_core.proofs.Steps.{refusing, judging, going_on, kinds}
use Rattle.eval_core.proofs.Readings.{held, level_held}

-- a fact of nodes, for each node in what is walked and in a turn
abbrev InItem : (NodeNo → Type 0) → Item → Type 0
InItem Good (given x) = InAnswer Good x
InItem Good (standing n e) = InHeld Good e.held

abbrev pub InItems : (NodeNo → Type 0) → List Item → Type 0
InItems Good [] = Unit {0}
InItems Good (i ∷ is) = InItem Good i × InItems Good is

abbrev InTurn : (NodeNo → Type 0) → Turn → Type 0
InTurn Good (on x) = InAnswer Good x
InTurn Good (stop x) = InAnswer Good x

reading : (p : Pairing) (i : Item) → InItem p.Good i → Steps.ArePaired p (read_item (left_scope p) i) (read_item (right_scope p) i)
reading p (given x) good = Steps.given p Answer (InAnswer p.Good) x good
reading p (standing n e) good = held p (Site.Entry n e.token) e.held good

standing-good : (Good : NodeNo → Type 0) (n : NodeNo) (es : List Entry) → InLevel Good es → InItems Good (map (standing n) es)
standing-good Good n [] good = tt
standing-good Good n (e ∷ es) good = (good.0, standing-good Good n es good.1)

given-good : (Good : NodeNo → Type 0) (xs : AnswerList) → InAnswers Good xs → InItems Good (map given (answers_in xs))
given-good Good no_answers good = tt
given-good Good (answer x xs) good = (good.0, given-good Good xs good.1)

plain-good : (Good : NodeNo → Type 0) (ps : Items) → InItems Good (plain_items ps)
plain-good Good no_parts = tt
plain-good Good (part v ps) = (tt, plain-good Good ps)

-- two evaluations of what is walked
abbrev Walked : (p : Pairing) → Eval (List Item) → Eval (List Item) → Type 0
Walked p e f = p.Rel (List Item) (InItems p.Good) e f

not_walked : (p : Pairing) → Walked p (refused (left_scope p) Rule.Kind) (refused (right_scope p) Rule.Kind)
not_walked p = refusing p (List Item) (InItems p.Good) p.here Rule.Kind

level_walked : (p : Pairing) (n : NodeNo) (kind : Kind) → p.Good n → Walked p (walked_kind (left_scope p) n kind) (walked_kind (right_scope p) n kind)
level_walked p n (Model m) good = not_walked p
level_walked p n (Array t) good =
    level_held p (List Item) (InItems p.Good) n _ _ good (λ es in_them. Steps.given p (List Item) (InItems p.Good) (map (standing n) es) (standing-good p.Good n es in_them))
level_walked p n (Map t) good =
    level_held p (List Item) (InItems p.Good) n _ _ good (λ es in_them. Steps.given p (List Item) (InItems p.Good) (map (standing n) es) (standing-good p.Good n es in_them))

pub walking : (p : Pairing) (x : Answer) → InAnswer p.Good x → Walked p (walked (left_scope p) x) (walked (right_scope p) x)
walking p (node n) good = kinds p (List Item) (InItems p.Good) n _ _ good (λ kind. level_walked p n kind good)
walking p (several xs) good = Steps.given p (List Item) (InItems p.Good) _ (given-good p.Good xs good)
walking p (plain (list a ps)) good = Steps.given p (List Item) (InItems p.Good) (plain_items ps) (plain-good p.Good ps)
walking p _ good = not_walked p

last-good : (Good : NodeNo → Type 0) (xs : AnswerList) (y : Answer) → InAnswers Good xs → InAnswer Good y → InAnswers Good (with_last xs y)
last-good Good no_answers y good last = (last, tt)
last-good Good (answer x xs) y good last = (good.0, last-good Good xs y good.1 last)

filtered-good : (Good : NodeNo → Type 0) (b : Bool) (xs : AnswerList) (x : Answer) → InAnswers Good xs → InAnswer Good x → InAnswers Good (if b then with_last xs x else xs)
filtered-good Good true xs x good item = last-good Good xs x good item
filtered-good Good false xs x good item = good

all-good : (Good : NodeNo → Type 0) (b : Bool) (x : Answer) → InAnswer Good x → InTurn Good (if b then on x else stop (plain (boolean false)))
all-good Good true x good = good
all-good Good false x good = tt

any-good : (Good : NodeNo → Type 0) (b : Bool) (x : Answer) → InAnswer Good x → InTurn Good (if b then stop (plain (boolean true)) else on x)
any-good Good true x good = tt
any-good Good false x good = good

gathered-good : (Good : NodeNo → Type 0) (w : Walk) (so_far x y : Answer) → InAnswer Good so_far → InAnswer Good x → InAnswer Good y
    → IfOk (gathered w so_far x y) (InTurn Good)
gathered-good Good filter (several xs) x (plain (boolean b)) good item result = filtered-good Good b xs x good item
gathered-good Good collect (several xs) x y good item result = last-good Good xs y good result
gathered-good Good all so_far x (plain (boolean b)) good item result = all-good Good b so_far good
gathered-good Good any so_far x (plain (boolean b)) good item result = any-good Good b so_far good
gathered-good Good sum (plain (integer y)) x (plain (integer z)) good item result = tt
gathered-good Good w so_far x y good item result = tt

turning : (p : Pairing) (u v : Answer → Eval Answer) (t : Turn) → InTurn p.Good t → ((x : Answer) → InAnswer p.Good x → Steps.ArePaired p (u x) (v x))
    → Steps.ArePaired p (turned u t) (turned v t)
turning p u v (on x) good h = h x good
turning p u v (stop x) good h = Steps.given p Answer (InAnswer p.Good) x good

pub walking_over : (p : Pairing) (w : Walk) (u v : Answer → Eval Answer) (is : List Item) (so_far : Answer)
    → ((x : Answer) → InAnswer p.Good x → Steps.ArePaired p (u x) (v x)) → InItems p.Good is → InAnswer p.Good so_far
    → Steps.ArePaired p (walk_over (left_scope p) w u is so_far) (walk_over (right_scope p) w v is so_far)
walking_over p w u v [] so_far body good gathered_good = Steps.given p Answer (InAnswer p.Good) so_far gathered_good
walking_over p w u v (i ∷ is) so_far body good gathered_good =
    going_on p _ _ _ _ (reading p i good.0) (λ x item.
    going_on p _ _ _ _ (body x item) (λ y result.
    p.thens Turn Answer (InTurn p.Good) (InAnswer p.Good) _ _ _ _
    (judging p Turn (InTurn p.Good) (gathered w so_far x y) (gathered-good p.Good w so_far x y gathered_good item result))
    (λ t in_it. turning p _ _ t in_it (λ more more_good. walking_over p w u v is more body good.1 more_good))))

pub start-good : (Good : NodeNo → Type 0) (w : Walk) → InAnswer Good (start w)
start-good Good filter = tt
start-good Good collect = tt
start-good Good all = tt
start-good Good any = tt
start-good Good sum = tt
