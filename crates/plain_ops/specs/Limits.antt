-- Which values a result may be.
use Rattle.std.specs.Prelude.{ℕ, Bool, true, ◌&&◌, nat_le, Ok, Err, if◌then◌else◌}
use Rattle.snap_core.specs.Value.{Value, integer, is_whole, weight_of, depth_of}
use Rattle.pointer_core.specs.declared.refusal.Rule.{Rule}
use Rattle.plain_ops.specs.Outcome.{Outcome}

-- the greatest weight and the greatest depth of a result
abbrev pub most_weight : ℕ
most_weight = 1048576

abbrev pub most_depth : ℕ
most_depth = 64

-- an integer is whole; anything else is
abbrev pub is_no_wide_integer : Value → Bool
is_no_wide_integer (integer z) = is_whole z
is_no_wide_integer v = true

abbrev pub is_bounded : Value → Bool
is_bounded v = is_no_wide_integer v && nat_le (weight_of v) most_weight && nat_le (depth_of v) most_depth

-- a result, unless it lies outside the values
abbrev pub in_range : Outcome → Outcome
in_range (Ok v) = if is_bounded v then Ok v else Err Rule.Range
in_range (Err rule) = Err rule
