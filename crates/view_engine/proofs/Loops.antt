-- How calls go down, and what is left of a walk.
use Rattle.std.proofs.Common.{◌≡◌, ℕ, zero, suc, ◌+◌, ◌*◌, ◌-◌, ◌<◌, List, [], ◌∷◌, ◌++◌, length, map, drop, slice_get, Some, Result, Ok, Err, if◌then◌else◌, append_assoc, add-one, refl, sym, ◌∙◌, ap, subst, arith}
use Rattle.snap_core.specs.Value.{boolean}
use Rattle.expr_syntax.specs.Syntax as syntax
use Rattle.expr_syntax.specs.Syntax.{Expressions, Members}
use Rattle.eval_core.specs.Answer.{Answer, AnswerList, answer, no_answers, several}
use Rattle.eval_core.specs.Run.{Eval, andthen}
use Rattle.eval_core.specs.Scope.{Scope, Env, gives, judged}
use Rattle.eval_core.specs.Operating.{in_bounds}
use Rattle.eval_core.specs.Walking.{Item, Turn, on, stop, read_item, gathered, turned, walked, walk_over, start}
use Rattle.eval_core.specs.Making.{Made, record_made}
use Rattle.eval_core.specs.Evaluating.{evaluated, all_evaluated, members_evaluated}
use Rattle.answer_ops.specs.View.{answer_of}
use Rattle.answer_ops.specs.declared.value.Value.{Value}
use Rattle.view_engine.specs.declared.halt.Halt.{Halt}
use Rattle.view_engine.specs.Did.{Course, course, Did, Read}
use Rattle.view_engine.specs.Steps.{tested}
use Rattle.view_engine.proofs.Alike.{Alike, alike-same, alike-sym, alike-trans, alike-then, alike-gives, alike-assoc}
use Rattle.view_engine.proofs.Doing.{did-alike, did-then, did-stop, read-did, tested-then, tested-stop, tested-read-then, tested-read-stop, tested-gives}

-- room for views first, then how much of a body may still be counted, then which call of one expression it is
abbrev pub measure : ℕ → ℕ → ℕ → ℕ
measure room counted call = room * 2000100 + 20 * (100001 - counted) + call

-- where a call stands in its course: expressions counted in the body, and steps taken
pub record Point : Type 0 where
  pub counted : ℕ
  pub steps : ℕ

abbrev pub point : ℕ → ℕ → Point
point counted steps = record { counted = counted; steps = steps }

-- Whatever does what is left from one point on, does the whole from another point on.
abbrev pub Leaves : Eval Answer → Eval Answer → Point → Point → Type 0
Leaves left whole from now =
    (r : Result Value Halt) (counted steps : ℕ) → Did answer_of r left (course now.counted counted now.steps steps)
    → Did answer_of r whole (course from.counted counted from.steps steps)

-- what was done first leaves the rest
pub leaves-then : {T A : Type 0} (seen : T → A) (s : Scope) (x : T) (e : Eval A) (f : A → Eval Answer) (from now : Point)
    → Did seen (Ok x) e (course from.counted now.counted from.steps now.steps) → Leaves (tested s (f (seen x))) (tested s (andthen e f)) from now
leaves-then seen s x e f from now did r counted steps rest = tested-then seen s x r e f from.counted now.counted counted from.steps now.steps steps did rest

pub leaves-on : (a b c : Eval Answer) (from middle now : Point) → Leaves b c from middle → Leaves a b middle now → Leaves a c from now
leaves-on a b c from middle now outer inner r counted steps did = outer r counted steps (inner r counted steps did)

pub leaves-alike : (a b whole : Eval Answer) (from now : Point) → ((n : ℕ) → Alike (b n) (a n)) → Leaves a whole from now → Leaves b whole from now
leaves-alike a b whole from now same leaves r counted steps did =
    leaves r counted steps (did-alike answer_of r b a (course now.counted counted now.steps steps) (same now.counted) did)

-- what is left of a walk
abbrev pub walk_left : Scope → syntax.Walk → (Answer → Eval Answer) → List Item → Answer → Eval Answer
walk_left s w body is so_far = tested s (walk_over s w body is so_far)

-- what is walked was found, and nothing gathered yet
pub walk-starts : {T : Type 0} (seen : T → List Item) (s : Scope) (w : syntax.Walk) (body : Answer → Eval Answer) (over : Eval Answer) (y : Value) (items : T) (so_far : Answer)
    (from now : Point)
    → Did answer_of (Ok y) over (course from.counted now.counted from.steps now.steps)
    → Read seen (Ok items) (walked s (answer_of y))
    → so_far ≡ start w
    → Leaves (walk_left s w body (seen items) so_far) (tested s (andthen over (λ z. andthen (walked s z) (λ is. walk_over s w body is (start w))))) from now
walk-starts seen s w body over y items so_far from now did read is r counted steps rest =
    tested-then answer_of s y r over (λ z. andthen (walked s z) (λ js. walk_over s w body js (start w))) from.counted now.counted counted from.steps now.steps steps did
    (tested-then seen s items r (walked s (answer_of y)) (λ js. walk_over s w body js (start w)) now.counted now.counted counted now.steps now.steps steps
    (read-did seen (Ok items) (walked s (answer_of y)) now.counted now.steps read)
    (subst (λ g. Did answer_of r (walk_left s w body (seen items) g) (course now.counted counted now.steps steps)) is rest))

-- or it was not found
pub walk-unfound : {T : Type 0} (seen : T → List Item) (s : Scope) (w : syntax.Walk) (body : Answer → Eval Answer) (over : Eval Answer) (y : Value) (halt : Halt) (from now : Point)
    → Did answer_of (Ok y) over (course from.counted now.counted from.steps now.steps)
    → Read seen (Err halt) (walked s (answer_of y))
    → Did {T = Value} answer_of (Err halt) (tested s (andthen over (λ z. andthen (walked s z) (λ is. walk_over s w body is (start w))))) (course from.counted now.counted from.steps now.steps)
walk-unfound seen s w body over y halt from now did read =
    tested-then answer_of s y (Err halt) over (λ z. andthen (walked s z) (λ js. walk_over s w body js (start w))) from.counted now.counted now.counted from.steps now.steps now.steps did
    (tested-stop seen s halt (walked s (answer_of y)) (λ js. walk_over s w body js (start w)) (course now.counted now.counted now.steps now.steps)
    (read-did seen (Err halt) (walked s (answer_of y)) now.counted now.steps read))

-- the item at an index, and those behind it
pub record ItemAt (is : List Item) (i : ℕ) : Type 0 where
  pub item : Item
  pub here : slice_get is i ≡ Some item
  pub behind : drop i is ≡ item ∷ drop (i + 1) is

pub item_at : (is : List Item) (i : ℕ) → i < length is → ItemAt is i
item_at [] i within = absurd (omega arith)
item_at (x ∷ xs) zero within = record { item = x; here = refl; behind = refl }
item_at (x ∷ xs) (suc i) within = let later = item_at xs i (omega arith) in record { item = later.item; here = later.here; behind = rw add-one (rw add-one at later.behind) }

-- what each item is read as
abbrev pub ReadAt : Scope → List Item → ℕ → Result Value Halt → Type 0
ReadAt s is i r = (item : Item) → slice_get is i ≡ Some item → Read answer_of r (read_item s item)

-- a walk over one item more
abbrev pub walk_step : Scope → syntax.Walk → (Answer → Eval Answer) → List Item → Answer → Answer → Eval Answer
walk_step s w body is so_far x = andthen (body x) (λ y. andthen (judged s (gathered w so_far x y)) (turned (λ more. walk_over s w body is more)))

-- what is left from an index on is left of the item there, and of those behind it
opened : (s : Scope) (w : syntax.Walk) (body : Answer → Eval Answer) (is : List Item) (i : ℕ) (so_far : Answer) (whole : Eval Answer) (from now : Point) (at : ItemAt is i)
    → Leaves (walk_left s w body (drop i is) so_far) whole from now → Leaves (walk_left s w body (at.item ∷ drop (i + 1) is) so_far) whole from now
opened s w body is i so_far whole from now at leaves = subst (λ js. Leaves (walk_left s w body js so_far) whole from now) at.behind leaves

-- the item at an index was read, its body evaluated, and what it gave gathered
pub walk-goes_on : {T : Type 0} (seen : T → Turn) (s : Scope) (w : syntax.Walk) (body : Answer → Eval Answer) (is : List Item) (i : ℕ) (so_far more : Answer) (x y : Value) (turn : T)
    (whole : Eval Answer) (from middle now : Point)
    → i < length is
    → Leaves (walk_left s w body (drop i is) so_far) whole from middle
    → ReadAt s is i (Ok x)
    → Did answer_of (Ok y) (body (answer_of x)) (course middle.counted now.counted middle.steps now.steps)
    → Read seen (Ok turn) (judged s (gathered w so_far (answer_of x) (answer_of y)))
    → seen turn ≡ on more
    → Leaves (walk_left s w body (drop (i + 1) is) more) whole from now
walk-goes_on seen s w body is i so_far more x y turn whole from middle now within leaves read did gathering goes r counted steps rest =
    let at = item_at is i within in
    let left : List Item = drop (i + 1) is in
    let turning : Turn → Eval Answer = turned (λ m. walk_over s w body left m) in
    let after : Answer → Eval Answer = λ z. andthen (judged s (gathered w so_far (answer_of x) z)) turning in
    opened s w body is i so_far whole from middle at leaves r counted steps
    (tested-then answer_of s x r (read_item s at.item) (walk_step s w body left so_far) middle.counted middle.counted counted middle.steps middle.steps steps
    (read-did answer_of (Ok x) (read_item s at.item) middle.counted middle.steps (read at.item at.here))
    (tested-then answer_of s y r (body (answer_of x)) after middle.counted now.counted counted middle.steps now.steps steps did
    (tested-then seen s turn r (judged s (gathered w so_far (answer_of x) (answer_of y))) turning now.counted now.counted counted now.steps now.steps steps
    (read-did seen (Ok turn) (judged s (gathered w so_far (answer_of x) (answer_of y))) now.counted now.steps gathering)
    (subst (λ t. Did answer_of r (tested s (turning t)) (course now.counted counted now.steps steps)) (sym goes) rest))))

-- a walk ends where an item isn't read
pub walk-unread : (s : Scope) (w : syntax.Walk) (body : Answer → Eval Answer) (is : List Item) (i : ℕ) (so_far : Answer) (halt : Halt) (whole : Eval Answer) (from now : Point)
    → i < length is
    → Leaves (walk_left s w body (drop i is) so_far) whole from now
    → ReadAt s is i (Err halt)
    → Did {T = Value} answer_of (Err halt) whole (course from.counted now.counted from.steps now.steps)
walk-unread s w body is i so_far halt whole from now within leaves read =
    let at = item_at is i within in
    opened s w body is i so_far whole from now at leaves (Err halt) now.counted now.steps
    (tested-stop {T = Value} answer_of s halt (read_item s at.item) (walk_step s w body (drop (i + 1) is) so_far) (course now.counted now.counted now.steps now.steps)
    (read-did {T = Value} answer_of (Err halt) (read_item s at.item) now.counted now.steps (read at.item at.here)))

-- or where its body ends refused
pub walk-unmet : (s : Scope) (w : syntax.Walk) (body : Answer → Eval Answer) (is : List Item) (i : ℕ) (so_far : Answer) (x : Value) (halt : Halt) (whole : Eval Answer)
    (from middle now : Point)
    → i < length is
    → Leaves (walk_left s w body (drop i is) so_far) whole from middle
    → ReadAt s is i (Ok x)
    → Did {T = Value} answer_of (Err halt) (body (answer_of x)) (course middle.counted now.counted middle.steps now.steps)
    → Did {T = Value} answer_of (Err halt) whole (course from.counted now.counted from.steps now.steps)
walk-unmet s w body is i so_far x halt whole from middle now within leaves read did =
    let at = item_at is i within in
    opened s w body is i so_far whole from middle at leaves (Err halt) now.counted now.steps
    (tested-then answer_of s x (Err halt) (read_item s at.item) (walk_step s w body (drop (i + 1) is) so_far) middle.counted middle.counted now.counted middle.steps middle.steps now.steps
    (read-did answer_of (Ok x) (read_item s at.item) middle.counted middle.steps (read at.item at.here))
    (tested-stop {T = Value} answer_of s halt (body (answer_of x)) (λ z. andthen (judged s (gathered w so_far (answer_of x) z)) (turned (λ m. walk_over s w body (drop (i + 1) is) m)))
    (course middle.counted now.counted middle.steps now.steps) did))

-- or where what it gave isn't gathered, or stops the walk
walk-last : (s : Scope) (w : syntax.Walk) (body : Answer → Eval Answer) (is : List Item) (i : ℕ) (so_far : Answer) (x y : Value) (r : Result Value Halt)
    (whole : Eval Answer) (from middle now : Point)
    → i < length is
    → Leaves (walk_left s w body (drop i is) so_far) whole from middle
    → ReadAt s is i (Ok x)
    → Did answer_of (Ok y) (body (answer_of x)) (course middle.counted now.counted middle.steps now.steps)
    → Read answer_of r (tested s (andthen (judged s (gathered w so_far (answer_of x) (answer_of y))) (turned (λ m. walk_over s w body (drop (i + 1) is) m))))
    → Did answer_of r whole (course from.counted now.counted from.steps now.steps)
walk-last s w body is i so_far x y r whole from middle now within leaves read did last =
    let at = item_at is i within in
    let turning : Turn → Eval Answer = turned (λ m. walk_over s w body (drop (i + 1) is) m) in
    let after : Answer → Eval Answer = λ z. andthen (judged s (gathered w so_far (answer_of x) z)) turning in
    opened s w body is i so_far whole from middle at leaves r now.counted now.steps
    (tested-then answer_of s x r (read_item s at.item) (walk_step s w body (drop (i + 1) is) so_far) middle.counted middle.counted now.counted middle.steps middle.steps now.steps
    (read-did answer_of (Ok x) (read_item s at.item) middle.counted middle.steps (read at.item at.here))
    (tested-then answer_of s y r (body (answer_of x)) after middle.counted now.counted now.counted middle.steps now.steps now.steps did
    (read-did answer_of r (tested s (after (answer_of y))) now.counted now.steps last)))

pub walk-ungathered : {T : Type 0} (seen : T → Turn) (s : Scope) (w : syntax.Walk) (body : Answer → Eval Answer) (is : List Item) (i : ℕ) (so_far : Answer) (x y : Value) (halt : Halt)
    (whole : Eval Answer) (from middle now : Point)
    → i < length is
    → Leaves (walk_left s w body (drop i is) so_far) whole from middle
    → ReadAt s is i (Ok x)
    → Did answer_of (Ok y) (body (answer_of x)) (course middle.counted now.counted middle.steps now.steps)
    → Read seen (Err halt) (judged s (gathered w so_far (answer_of x) (answer_of y)))
    → Did {T = Value} answer_of (Err halt) whole (course from.counted now.counted from.steps now.steps)
walk-ungathered seen s w body is i so_far x y halt whole from middle now within leaves read did gathering =
    walk-last s w body is i so_far x y (Err halt) whole from middle now within leaves read did
    (tested-read-stop seen s halt (judged s (gathered w so_far (answer_of x) (answer_of y))) (turned (λ m. walk_over s w body (drop (i + 1) is) m)) gathering)

pub walk-stops : {T : Type 0} (seen : T → Turn) (s : Scope) (w : syntax.Walk) (body : Answer → Eval Answer) (is : List Item) (i : ℕ) (so_far z : Answer) (x y : Value) (turn : T)
    (r : Result Value Halt) (whole : Eval Answer) (from middle now : Point)
    → i < length is
    → Leaves (walk_left s w body (drop i is) so_far) whole from middle
    → ReadAt s is i (Ok x)
    → Did answer_of (Ok y) (body (answer_of x)) (course middle.counted now.counted middle.steps now.steps)
    → Read seen (Ok turn) (judged s (gathered w so_far (answer_of x) (answer_of y)))
    → seen turn ≡ stop z
    → Read answer_of r (tested s (gives z))
    → Did answer_of r whole (course from.counted now.counted from.steps now.steps)
walk-stops seen s w body is i so_far z x y turn r whole from middle now within leaves read did gathering stops last =
    let turning : Turn → Eval Answer = turned (λ m. walk_over s w body (drop (i + 1) is) m) in
    walk-last s w body is i so_far x y r whole from middle now within leaves read did
    (tested-read-then seen s turn r (judged s (gathered w so_far (answer_of x) (answer_of y))) turning gathering
    (subst (λ t. Read answer_of r (tested s (turning t))) (sym stops) last))

-- a walk that came to its end
pub walk-ends : (s : Scope) (w : syntax.Walk) (body : Answer → Eval Answer) (is : List Item) (i : ℕ) (so_far : Answer) (r : Result Value Halt) (whole : Eval Answer) (from now : Point)
    → drop i is ≡ []
    → Leaves (walk_left s w body (drop i is) so_far) whole from now
    → Read answer_of r (tested s (gives so_far))
    → Did answer_of r whole (course from.counted now.counted from.steps now.steps)
walk-ends s w body is i so_far r whole from now none leaves last =
    leaves r now.counted now.steps
    (subst (λ js. Did answer_of r (walk_left s w body js so_far) (course now.counted now.counted now.steps now.steps)) (sym none)
    (read-did answer_of r (tested s (gives so_far)) now.counted now.steps last))
