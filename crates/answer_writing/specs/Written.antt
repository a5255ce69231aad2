-- The value that is written where an answer is given, and the write that giving comes to.
use Rattle.std.specs.Prelude.{◌≡◌, [], Option, Some, None, Result, Ok, Err}
use Rattle.snap_core.specs.Value.{Value, null}
use Rattle.pointer_core.specs.declared.refusal.Rule.TheVariants as rule
use Rattle.edit_core.specs.Labelled.{Labelled}
use Rattle.type_table.specs.Table.{Catalog}
use Rattle.type_core.specs.Making.{Outcome}
use Rattle.type_core.specs.Made.{refused_as}
use Rattle.tree_core.specs.declared.place.Change.{Change}
use Rattle.tree_core.specs.declared.error.TreeError.{TreeError}
use Rattle.tree_core.specs.declared.error.TreeError.TheVariants.{Memory, Refused}
use Rattle.tree_core.specs.Outcome.{◌>>=◌, or_refuse}
use Rattle.tree_core.specs.Changed.{Changed}
use Rattle.tree_core.specs.Write.{Write, write_of}
use Rattle.tree_core.specs.Writing.{Tree, Target, place_written}
use Rattle.eval_core.specs.Answer.{Answer}
use Rattle.plain_answers.specs.Plainness.{IsPlainAnswer}
use Rattle.answer_writing.specs.Giving.{Giving, sets, inserts, removes, with_value, after_place, value_taken, site_of}

-- the answer that is given, if there is one, is plain where it is a value
abbrev pub GivesPlain : Giving → Type 0
GivesPlain (sets x) = IsPlainAnswer x
GivesPlain (inserts x) = IsPlainAnswer x
GivesPlain removes = Unit {0}

-- the place meets its own rules: null in it does
abbrev pub place_met : Catalog → Target → Giving → Tree → Outcome (Unit {0})
place_met types target giving tree = after_place (place_written types target (with_value giving null) tree) (Ok tt)

-- what a node comes to; where there is none, it is dead
abbrev pub unless_dead : Option Labelled → (Labelled → Outcome Value) → Outcome Value
unless_dead found next = or_refuse found [] rule.Dead >>= next

-- The value that is written for an answer: its plain value, or else what the type of its place makes of it.
abbrev pub value_given : Catalog → Target → Giving → Answer → Tree → Option Value → Outcome Value
value_given types target giving x tree (Some v) = Ok v
value_given types target giving x tree None = do
  met ← place_met types target giving tree
  site ← site_of target tree.root
  value_taken types site target.place giving x

-- a change whose write comes to this, or the refusal that this is, unless memory ran out
abbrev pub ComesTo : (Write → Outcome Changed) → Result Change TreeError → Outcome Changed → Type 0
ComesTo writes (Ok change) outcome = outcome ≡ writes (write_of change)
ComesTo writes (Err (Refused r)) outcome = outcome ≡ Err (refused_as r)
ComesTo writes (Err Memory) outcome = Unit {0}
