-- What reconciling goes by, and which node stays where a value is set.
use Rattle.std.specs.Prelude.{ℕ, List, Bool, true, false, ◌&&◌, Option, Some, None}
use Rattle.snap_core.specs.Value.{Value, dict, value_at}
use Rattle.snap_core.specs.declared.number.ModelNo.{ModelNo}
use Rattle.edit_core.specs.declared.kind.Kind.{Kind}
use Rattle.edit_core.specs.declared.kind.Kind.TheVariants.{Model}
use Rattle.edit_core.specs.Labelled.{Label, Labelled, leaf, many, keyed, bare}
use Rattle.edit_core.specs.Comparing.{is_equal, same_kind}

-- what types say of values
pub record Typing : Type 0 where
  -- the kind of node that a type makes of a value, if it makes one
  pub kind_of : ℕ → Value → Option Kind
  -- the type of a node's part under a key
  pub type_under : Kind → List ℕ → ℕ
  -- the property that is a model's identifier, if it has one
  pub identifier_of : ModelNo → Option (List ℕ)

-- for each new item of an array, by their type, the old item that it is matched with, if any
abbrev pub Matching : Type 0
Matching = ℕ → List Labelled → List Value → List (Option Labelled)

-- what reconciling goes by
pub record Rules : Type 0 where
  pub typing : Typing
  pub matching : Matching

-- the label of a node
abbrev pub label_of : Labelled → Option Label
label_of (leaf v) = None
label_of (many l bs) = Some l
label_of (keyed l es) = Some l

-- the value of a record's field, if the value is a record that has it
abbrev pub field_at : List ℕ → Value → Option Value
field_at name (dict a ms) = value_at name ms
field_at name _ = None

abbrev pub both_equal : Option Value → Option Value → Bool
both_equal (Some v) (Some w) = is_equal v w
both_equal _ _ = false

-- both records hold equal values under an identifier's name
abbrev pub equal_under : Option (List ℕ) → Value → Value → Bool
equal_under (Some name) v w = both_equal (field_at name v) (field_at name w)
equal_under None v w = false

-- the two records' identifiers are equal, or their model has none
abbrev pub identity_kept : Option (List ℕ) → Value → Value → Bool
identity_kept None v w = true
identity_kept name v w = equal_under name v w

abbrev pub identity_under : Typing → Kind → Value → Value → Bool
identity_under typing (Model m) v w = identity_kept (typing.identifier_of m) v w
identity_under typing _ v w = true

-- a value, and the kind of node that its type makes of it, if any
pub record Typed : Type 0 where
  pub kind : Option Kind
  pub value : Value

abbrev pub kind_in : Option Label → Option Kind
kind_in (Some l) = Some l.kind
kind_in None = None

-- a labelled value as that
abbrev pub seen : Labelled → Typed
seen x = record { kind = kind_in (label_of x); value = bare x }

abbrev pub is_kind : Option Kind → Kind → Bool
is_kind (Some k) kind = same_kind k kind
is_kind None kind = false

-- An old node stays where a value of the same kind is set in its place: an array or a map of the same type,
-- or a record of the same model with no identifier or an equal one.
abbrev pub stays_as : Typing → Kind → Typed → Value → Bool
stays_as typing kind old new = is_kind old.kind kind && identity_under typing kind old.value new
