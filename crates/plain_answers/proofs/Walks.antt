-- What walks give: plain, or a sum that is still to be tested.
use Rattle.std.proofs.Common.{List, [], ◌∷◌, map, Bool, true, false, if◌then◌else◌}
use Rattle.std.specs.Prelude.{IfOk}
use Rattle.snap_core.specs.Value.{boolean, integer, list, Items, ArePlain, no_parts, part}
use Rattle.snap_core.specs.declared.number.NodeNo.{NodeNo}
use Rattle.pointer_core.specs.declared.refusal.Rule.{Rule}
use Rattle.edit_core.specs.declared.kind.Kind.{Kind}
use Rattle.edit_core.specs.declared.kind.Kind.TheVariants.{Model, Array, Map}
use Rattle.expr_syntax.specs.Syntax.{Walk, filter, collect, all, any, sum}
use Rattle.eval_core.specs.declared.site.Site.{Site}
use Rattle.eval_core.specs.Answer.{Answer, AnswerList, plain, node, several, no_answers, answer, answers_in, with_last}
use Rattle.eval_core.specs.Sight.{Entry}
use Rattle.eval_core.specs.Run.{Eval}
use Rattle.eval_core.specs.Scope.{Scope}
use Rattle.eval_core.specs.Walking.{Item, given, standing, read_item, plain_items, walked_kind, walked, Turn, on, stop, start, gathered, turned, walk_over}
use Rattle.plain_answers.specs.Plainness.{IsPlainAnswer, ArePlainAnswers, IsPlainHeld, IsPlainLevel}
use Rattle.plain_answers.proofs.Giving
use Rattle.plain_answers.proofs.Giving.{Gives, refusing, judging, going_on, by_kind}
use Rattle.plain_answers.proofs.Untested.{IsUntested}
use Rattle.plain_answers.proofs.Readings.{IsPlainScope, Plainly, Untestedly, held, level_held}

-- what is walked, and what a turn has gathered
abbrev IsPlainItem : Item → Type 0
IsPlainItem (given x) = IsPlainAnswer x
IsPlainItem (standing n e) = IsPlainHeld e.held

abbrev pub ArePlainItems : List Item → Type 0
ArePlainItems [] = Unit {0}
ArePlainItems (i ∷ is) = IsPlainItem i × ArePlainItems is

abbrev IsUntestedTurn : Turn → Type 0
IsUntestedTurn (on x) = IsUntested x
IsUntestedTurn (stop x) = IsUntested x

reading : (s : Scope) (i : Item) → IsPlainItem i → Plainly (read_item s i)
reading s (given x) fine = Giving.given IsPlainAnswer x fine
reading s (standing n e) fine = held s (Site.Entry n e.token) e.held fine

standing-plain : (n : NodeNo) (es : List Entry) → IsPlainLevel es → ArePlainItems (map (standing n) es)
standing-plain n [] fine = tt
standing-plain n (e ∷ es) fine = (fine.0, standing-plain n es fine.1)

given-plain : (xs : AnswerList) → ArePlainAnswers xs → ArePlainItems (map given (answers_in xs))
given-plain no_answers fine = tt
given-plain (answer x xs) fine = (fine.0, given-plain xs fine.1)

parts-plain : (ps : Items) → ArePlain ps → ArePlainItems (plain_items ps)
parts-plain no_parts fine = tt
parts-plain (part v ps) fine = (fine.0, parts-plain ps fine.1)

level_walked : (s : Scope) → IsPlainScope s → (n : NodeNo) (kind : Kind) → Gives ArePlainItems (walked_kind s n kind)
level_walked s h n (Model m) = refusing ArePlainItems s Rule.Kind
level_walked s h n (Array t) = level_held ArePlainItems s h n _ (λ es fine. Giving.given ArePlainItems (map (standing n) es) (standing-plain n es fine))
level_walked s h n (Map t) = level_held ArePlainItems s h n _ (λ es fine. Giving.given ArePlainItems (map (standing n) es) (standing-plain n es fine))

pub walking : (s : Scope) → IsPlainScope s → (x : Answer) → IsPlainAnswer x → Gives ArePlainItems (walked s x)
walking s h (node n) fine = by_kind ArePlainItems s (s.sight.being n) _ (λ kind. level_walked s h n kind)
walking s h (several xs) fine = Giving.given ArePlainItems _ (given-plain xs fine)
walking s h (plain (list a ps)) fine = Giving.given ArePlainItems (plain_items ps) (parts-plain ps fine)
walking s h _ fine = refusing ArePlainItems s Rule.Kind

last-plain : (xs : AnswerList) (y : Answer) → ArePlainAnswers xs → IsPlainAnswer y → ArePlainAnswers (with_last xs y)
last-plain no_answers y fine last = (last, tt)
last-plain (answer x xs) y fine last = (fine.0, last-plain xs y fine.1 last)

filtered : (b : Bool) (xs : AnswerList) (x : Answer) → ArePlainAnswers xs → IsPlainAnswer x → ArePlainAnswers (if b then with_last xs x else xs)
filtered true xs x fine item = last-plain xs x fine item
filtered false xs x fine item = fine

all_turn : (b : Bool) (x : Answer) → IsUntested x → IsUntestedTurn (if b then on x else stop (plain (boolean false)))
all_turn true x fine = fine
all_turn false x fine = tt

any_turn : (b : Bool) (x : Answer) → IsUntested x → IsUntestedTurn (if b then stop (plain (boolean true)) else on x)
any_turn true x fine = tt
any_turn false x fine = fine

gathering : (w : Walk) (so_far x y : Answer) → IsUntested so_far → IsPlainAnswer x → IsPlainAnswer y → IfOk (gathered w so_far x y) IsUntestedTurn
gathering filter (several xs) x (plain (boolean b)) fine item result = filtered b xs x fine item
gathering collect (several xs) x y fine item result = last-plain xs y fine result
gathering all so_far x (plain (boolean b)) fine item result = all_turn b so_far fine
gathering any so_far x (plain (boolean b)) fine item result = any_turn b so_far fine
gathering sum (plain (integer y)) x (plain (integer z)) fine item result = tt
gathering w so_far x y fine item result = tt

turning : (rest : Answer → Eval Answer) (t : Turn) → IsUntestedTurn t → ((x : Answer) → IsUntested x → Untestedly (rest x)) → Untestedly (turned rest t)
turning rest (on x) fine h = h x fine
turning rest (stop x) fine h = Giving.given IsUntested x fine

pub walking_over : (s : Scope) (w : Walk) (body : Answer → Eval Answer) (is : List Item) (so_far : Answer)
    → ((x : Answer) → IsPlainAnswer x → Plainly (body x)) → ArePlainItems is → IsUntested so_far → Untestedly (walk_over s w body is so_far)
walking_over s w body [] so_far each fine before = Giving.given IsUntested so_far before
walking_over s w body (i ∷ is) so_far each fine before =
    going_on IsPlainAnswer IsUntested _ _ (reading s i fine.0) (λ x item.
    going_on IsPlainAnswer IsUntested _ _ (each x item) (λ y result.
    going_on IsUntestedTurn IsUntested _ _ (judging IsUntestedTurn s (gathered w so_far x y) (gathering w so_far x y before item result))
    (λ t in_it. turning _ t in_it (λ more so_good. walking_over s w body is more each fine.1 so_good))))

pub started : (w : Walk) → IsUntested (start w)
started filter = tt
started collect = tt
started all = tt
started any = tt
started sum = tt
