-- The operators on plain values, one line a case. An operator of one operand leaves the second one aside.
use Rattle.std.specs.Prelude.{ℕ, suc, ℤ, pos, negsuc, int_lt, int_div, int_rem, ◌+ℤ◌, ◌-ℤ◌, ◌*ℤ◌, ◌++◌, length, not, is_some, unwrap_or, Option, Some, None, Ok, Err, if◌then◌else◌}
use Rattle.std.specs.Ordering.{int_eq, nat_cmp, is_lt}
use Rattle.std.specs.Cmp.Lexicographic.{slice_cmp}
use Rattle.std.specs.Fmt.{signed_decimal}
use Rattle.std.specs.Str.{chars}
use Rattle.snap_core.specs.Value.{Value, null, boolean, integer, text, list, dict, Items, Fields, value_at, no_members, member}
use Rattle.snap_core.specs.Level.{count_of, item_at}
use Rattle.pointer_core.specs.declared.refusal.Rule.{Rule}
use Rattle.edit_core.specs.Comparing.{is_equal}
use Rattle.expr_syntax.specs.declared.op.Op.{Op}
use Rattle.expr_syntax.specs.declared.op.Op.TheVariants.{Add, Sub, Mul, Div, Mod, Concat, Text, Eq, Lt, Not, Item, Has, Size}
use Rattle.plain_ops.specs.Outcome.{Outcome}
use Rattle.plain_ops.specs.Limits.{in_range}

-- an operator on two integers
abbrev pub on_integers : (ℤ → ℤ → Outcome) → Value → Value → Outcome
on_integers f (integer y) (integer z) = f y z
on_integers f _ _ = Err Rule.Kind

-- a division, by what it gives where the divisor isn't 0
abbrev pub divided : (ℤ → ℤ → ℤ) → ℤ → ℤ → Outcome
divided f y z = if int_eq z (pos 0) then Err Rule.Range else Ok (integer (f y z))

abbrev pub joined : Value → Value → Outcome
joined (text s) (text u) = Ok (text (s ++ u))
joined _ _ = Err Rule.Kind

abbrev pub decimal_text : Value → Outcome
decimal_text (integer z) = Ok (text (signed_decimal z))
decimal_text _ = Err Rule.Kind

-- integers in their order, texts by their bytes
abbrev pub comes_before : Value → Value → Outcome
comes_before (integer y) (integer z) = Ok (boolean (int_lt y z))
comes_before (text s) (text u) = Ok (boolean (is_lt (slice_cmp nat_cmp s u)))
comes_before _ _ = Err Rule.Kind

abbrev pub opposite : Value → Outcome
opposite (boolean b) = Ok (boolean (not b))
opposite _ = Err Rule.Kind

-- what is there, or a rule
abbrev pub or_rule : Option Value → Outcome
or_rule (Some v) = Ok v
or_rule None = Err Rule.Index

-- an integer as an index
abbrev pub index_in : ℤ → Option ℕ
index_in (pos n) = Some n
index_in (negsuc n) = None

abbrev pub item_of : Items → Option ℕ → Option Value
item_of ps (Some n) = item_at n ps
item_of ps None = None

-- an item at an index; the value under a key, null where there is none
abbrev pub part_of : Value → Value → Outcome
part_of (list a ps) (integer z) = or_rule (item_of ps (index_in z))
part_of (dict a ms) (text key) = Ok (unwrap_or (value_at key ms) null)
part_of _ _ = Err Rule.Kind

abbrev pub has_key : Value → Value → Outcome
has_key (dict a ms) (text key) = Ok (boolean (is_some (value_at key ms)))
has_key _ _ = Err Rule.Kind

abbrev pub field_count : Fields → ℕ
field_count no_members = 0
field_count (member k v ms) = suc (field_count ms)

-- the items of a list, the fields of a record, the Unicode scalar values of a text
abbrev pub size_of : Value → Outcome
size_of (list a ps) = Ok (integer (pos (count_of ps)))
size_of (dict a ms) = Ok (integer (pos (field_count ms)))
size_of (text s) = Ok (integer (pos (length (chars s))))
size_of _ = Err Rule.Kind

abbrev pub applied : Op → Value → Value → Outcome
applied Add a b = on_integers (λ y z. Ok (integer (y +ℤ z))) a b
applied Sub a b = on_integers (λ y z. Ok (integer (y -ℤ z))) a b
applied Mul a b = on_integers (λ y z. Ok (integer (y *ℤ z))) a b
applied Div a b = on_integers (divided int_div) a b
applied Mod a b = on_integers (divided int_rem) a b
applied Concat a b = joined a b
applied Text a b = decimal_text a
applied Eq a b = Ok (boolean (is_equal a b))
applied Lt a b = comes_before a b
applied Not a b = opposite a
applied Item a b = part_of a b
applied Has a b = has_key a b
applied Size a b = size_of a

-- what an operator gives, or the first rule that isn't met
abbrev pub operated : Op → Value → Value → Outcome
operated op a b = in_range (applied op a b)

-- an operator on two integers that gives one
abbrev pub IsArithmetic : Op → Type 0
IsArithmetic Add = Unit {0}
IsArithmetic Sub = Unit {0}
IsArithmetic Mul = Unit {0}
IsArithmetic Div = Unit {0}
IsArithmetic Mod = Unit {0}
IsArithmetic _ = ⊥
