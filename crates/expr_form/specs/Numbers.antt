-- A number that isn't whole is at fault wherever it stands. It is kept as an integer beyond the range of whole numbers.
use Rattle.std.specs.Prelude.{ℕ, ◌+◌, ℤ}
use Rattle.snap_core.specs.Value.{Value, integer, list, dict, no_parts, part, no_members, member, is_whole, Items, Fields}
use Rattle.pointer_core.specs.declared.schema_rule.SchemaRule.TheVariants.{Shape}
use Rattle.expr_form.specs.Outcome.{Outcome, wrong, astray, reads, if_so, under, at}

-- what is read behind something that is only looked at
abbrev pub behind : {A : Type 0} → Outcome (Unit {0}) → Outcome A → Outcome A
behind (wrong f) rest = wrong f
behind (astray path) rest = astray path
behind (reads u) rest = rest

abbrev pub whole_read : ℤ → Outcome (Unit {0})
whole_read z = if_so (is_whole z) Shape tt

abbrev mutual
  pub numbers_read : Value → Outcome (Unit {0})
  numbers_read (integer z) = whole_read z
  numbers_read (list a ps) = items_read 0 ps
  numbers_read (dict a ms) = members_read ms
  numbers_read _ = reads tt

  pub items_read : ℕ → Items → Outcome (Unit {0})
  items_read i no_parts = reads tt
  items_read i (part v ps) = behind (at i (numbers_read v)) (items_read (i + 1) ps)

  pub members_read : Fields → Outcome (Unit {0})
  members_read no_members = reads tt
  members_read (member k v ms) = behind (under k (numbers_read v)) (members_read ms)
