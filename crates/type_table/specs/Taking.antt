-- The scalars that some members of a union take.
use Rattle.std.specs.Prelude.{◌≡◌, List, [], ◌∷◌, map, Bool, ◌||◌}
use Rattle.std.specs.List.{list_any}
use Rattle.snap_core.specs.Value.{Value, null, boolean, integer, text}
use Rattle.snap_core.specs.View.{view}
use Rattle.type_table.specs.declared.taken.Taken.{Taken}
use Rattle.type_table.specs.declared.taken.Scalars.{Scalars as Code}
use Rattle.type_table.specs.declared.taken.Scalars.TheVariants as code
use Rattle.type_table.specs.ScalarSets.{has}
use Rattle.type_table.specs.Unions.{Scalars, texts, integers, booleans, these, is_among, do_meet}

-- the scalars of a shape
abbrev pub scalars_as : Code → Scalars
scalars_as code.Texts = texts
scalars_as code.Integers = integers
scalars_as code.Booleans = booleans
scalars_as code.Null = these (null ∷ [])
scalars_as (code.One s) = these (view s.now ∷ [])
scalars_as (code.Each ts) = these (map text ts.now)
scalars_as code.None = these []

-- whether a scalar is taken by a member
abbrev pub is_taken : Taken → Value → Bool
is_taken t (text s) = t.all_texts || has t.each (text s)
is_taken t (integer z) = t.all_integers || has t.each (integer z)
is_taken t (boolean b) = t.all_booleans || has t.each (boolean b)
is_taken t v = has t.each v

-- What is taken is what the members with these scalars take.
pub record AreTaken (taken : Taken) (members : List Scalars) : Type 0 where
  pub each : (v : Value) → is_taken taken v ≡ list_any (λ s. is_among s v) members
  pub text : taken.some_text ≡ list_any (do_meet texts) members
  pub integer : taken.some_integer ≡ list_any (do_meet integers) members
  pub boolean : taken.some_boolean ≡ list_any (do_meet booleans) members
