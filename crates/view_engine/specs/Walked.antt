-- What is walked, and what a walk has gathered.
use Rattle.std.specs.Prelude.{◌≡◌, List, [], true, false, map, decimal, Result, Ok, Err}
use Rattle.pointer_core.specs.declared.refusal.Rule.{Rule}
use Rattle.view_engine.specs.declared.halt.Halt.{Halt}
use Rattle.view_engine.specs.declared.halt.Halt.TheVariants.{Memory}
use Rattle.std.specs.List.{range_with_len}
use Rattle.snap_core.specs.Value.{boolean, integer}
use Rattle.snap_core.specs.View.{view}
use Rattle.snap_core.specs.declared.snap.Snap.{Snap}
use Rattle.snap_core.specs.declared.number.NodeNo.{NodeNo}
use Rattle.expr_syntax.specs.Syntax as syntax
use Rattle.tree_core.specs.declared.place.Place.{Place}
use Rattle.tree_core.specs.declared.place.Place.TheVariants as place
use Rattle.eval_core.specs.declared.site.Site.{Site}
use Rattle.eval_core.specs.Answer.{Answer, plain, several}
use Rattle.eval_core.specs.Walking.{Item, given, standing, Turn, on, stop}
use Rattle.answer_ops.specs.View.{answer_of, answers_of}
use Rattle.answer_ops.specs.declared.value.Value.{Value}
use Rattle.view_engine.specs.declared.items.Items.{Items}
use Rattle.view_engine.specs.declared.items.Items.TheVariants as items
use Rattle.view_engine.specs.declared.gathering.Gathered.{Gathered}
use Rattle.view_engine.specs.declared.gathering.Gathered.TheVariants as gathered
use Rattle.view_engine.specs.declared.gathering.Turn as turn
use Rattle.view_engine.specs.declared.gathering.Turn.TheVariants as turns
use Rattle.view_engine.specs.TreeSight.{Whole, item_entry, key_entry}

-- where a refusal that speaks of a place is told
abbrev pub place_site : Place → Site
place_site (place.Whole n) = Site.Entry n []
place_site (place.Prop n name) = Site.Entry n name
place_site (place.Item n i) = Site.Entry n (decimal i)
place_site (place.Key n key) = Site.Entry n key

abbrev pub given_value : Value → Item
given_value v = given (answer_of v)

abbrev pub given_plain : Snap → Item
given_plain v = given (plain (view v))

-- what is walked, in order
abbrev pub items_of : Whole → Items → List Item
items_of whole (items.Given values) = map given_value values
items_of whole (items.List values) = map given_plain values
items_of whole (items.Array n len) = map (λ i. standing n (item_entry whole n i)) (range_with_len 0 len)
items_of whole (items.Map n len) = map (λ i. standing n (key_entry whole n i)) (range_with_len 0 len)

-- what a walk has gathered, and what it makes of more
abbrev pub gathered_of : Gathered → Answer
gathered_of (gathered.Filter values) = several (answers_of values)
gathered_of (gathered.Collect values) = several (answers_of values)
gathered_of gathered.All = plain (boolean true)
gathered_of gathered.Any = plain (boolean false)
gathered_of (gathered.Sum z) = plain (integer z)

abbrev pub walk_in : Gathered → syntax.Walk
walk_in (gathered.Filter values) = syntax.filter
walk_in (gathered.Collect values) = syntax.collect
walk_in gathered.All = syntax.all
walk_in gathered.Any = syntax.any
walk_in (gathered.Sum z) = syntax.sum

abbrev pub turn_of : turn.Turn → Turn
turn_of (turns.On g) = on (gathered_of g)
turn_of (turns.Stop b) = stop (plain (boolean b))

-- the walk that goes on is the one that it was
abbrev pub GoesOn : Gathered → Result turn.Turn Halt → Type 0
GoesOn before (Ok (turns.On g)) = walk_in g ≡ walk_in before
GoesOn before _ = Unit {0}

-- a call gathers what an outcome says, unless memory ran out
abbrev pub Turns : Result turn.Turn Halt → Result Turn Rule → Type 0
Turns (Ok t) outcome = outcome ≡ Ok (turn_of t)
Turns (Err halt) outcome = halt ≡ Memory
