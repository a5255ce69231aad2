-- Which type expressions a schema file has: where each stands and what it says, in document order.
use Rattle.std.specs.Prelude.{ℕ, ◌+◌, List, [], ◌∷◌, ◌++◌, length, Option, Some, None}
use Rattle.std.specs.Option.{option_map}
use Rattle.snap_core.specs.Value.{Value, text, list, dict, no_parts, part, no_members, member, Items, Fields}
use Rattle.snap_core.specs.Unview.{snap_of}
use Rattle.snap_core.specs.declared.number.TypeNo.{TypeNo}
use Rattle.snap_core.specs.declared.number.ModelNo.{ModelNo}
use Rattle.type_table.specs.declared.shape.Condition.{Condition}
use Rattle.type_table.specs.declared.shape.Property.{Property}
use Rattle.schema_form.specs.declared.form.Expression.{Expression}
use Rattle.schema_form.specs.declared.form.EntryNo.{EntryNo}
use Rattle.schema_form.specs.declared.form.Place.{Place}
use Rattle.schema_form.specs.declared.form.Place.TheVariants as place
use Rattle.schema_form.specs.declared.form.Step.TheVariants as step
use Rattle.schema_form.specs.declared.form.Kind.{Kind}
use Rattle.schema_form.specs.declared.form.Kind.TheVariants as kind
use Rattle.schema_form.specs.declared.words.Leaf.{Leaf}
use Rattle.schema_form.specs.declared.words.Leaf.TheVariants as leaf
use Rattle.schema_form.specs.declared.words.Form.{Form}
use Rattle.schema_form.specs.declared.words.Form.TheVariants as form
use Rattle.schema_form.specs.declared.bases.Base.{Base}
use Rattle.schema_form.specs.Words.{form_of}
use Rattle.schema_form.specs.Names.{entry_of, word_of, word_in}
use Rattle.schema_form.specs.Faults.{base_in, condition_of}

abbrev pub type_no : ℕ → TypeNo
type_no n = record { 0 = n }

-- the texts of a list
abbrev pub texts_in : Items → List (List ℕ)
texts_in no_parts = []
texts_in (part (text s) ps) = s ∷ texts_in ps
texts_in (part v ps) = texts_in ps

abbrev pub texts_of : Value → List (List ℕ)
texts_of (list a ps) = texts_in ps
texts_of _ = []

-- the conditions of an object
abbrev pub one_of : {A : Type 0} → Option A → List A
one_of (Some a) = a ∷ []
one_of None = []

abbrev pub conditions_in : Option Base → Fields → List Condition
conditions_in base no_members = []
conditions_in base (member k v ms) = one_of (condition_of base k v) ++ conditions_in base ms

abbrev pub conditions_of : Option Base → Value → List Condition
conditions_of base (dict a ms) = conditions_in base ms
conditions_of base _ = []

-- the entry that a text names
abbrev pub entry_named : Fields → Value → Option EntryNo
entry_named types (text s) = entry_of types s
entry_named types _ = None

-- Type expressions in document order, the first of which has a number and a place that are given.
abbrev pub Layout : Type 0
Layout = ℕ → Place → List Expression

-- what an object with one key says, by the form of the key: the number of its first part is given
abbrev pub leaf_kind : Fields → Leaf → Value → TypeNo → Option Kind
leaf_kind types leaf.Literal v u = Some (kind.Literal (snap_of v))
leaf_kind types leaf.Enumeration v u = Some (kind.Enumeration (texts_of v))
leaf_kind types leaf.Refinement (list a (part t (part cs no_parts))) u = Some (kind.Refinement u (conditions_of (base_in types t) cs))
leaf_kind types leaf.Reference v u = option_map kind.Reference (entry_named types v)
leaf_kind types leaf.SafeReference v u = option_map kind.SafeReference (entry_named types v)
leaf_kind types _ v u = None

-- and the numbers of a union's members
abbrev pub form_kind : Fields → Form → Value → TypeNo → List TypeNo → Option Kind
form_kind types (form.Leaf l) v u us = leaf_kind types l v u
form_kind types (form.Holder h) v u us = Some (kind.Holder h u)
form_kind types form.Optional (list a (part t (part d no_parts))) u us = Some (kind.Optional u (snap_of d))
form_kind types form.Union v u us = Some (kind.Union us)
form_kind types _ v u us = None

-- the numbers at which some layouts begin, one after another, each as a member of the union of number u
abbrev pub member_numbers : ℕ → ℕ → List Layout → ℕ → List TypeNo
member_numbers u i [] n = []
member_numbers u i (l ∷ ls) n = type_no n ∷ member_numbers u (i + 1) ls (n + length (l n (place.Part (type_no u) (step.Member i))))

-- these layouts
abbrev pub members_laid : ℕ → ℕ → List Layout → ℕ → List Expression
members_laid u i [] n = []
members_laid u i (l ∷ ls) n =
    let first = l n (place.Part (type_no u) (step.Member i)) in
    first ++ members_laid u (i + 1) ls (n + length first)

-- one expression at a place, if it says something
abbrev pub said : Place → Option Kind → List Expression
said at what = one_of (option_map (λ k. record { place = at; kind = k }) what)

abbrev pub word_kind : Fields → List ℕ → Option Kind
word_kind types s = option_map kind.Word (word_of types s)

-- the base of a refinement
abbrev pub base_laid : Fields → Value → ℕ → List Expression
base_laid types (list a (part t ps)) n = said (place.Part (type_no n) step.Refined) (option_map kind.Word (word_in types t))
base_laid types _ n = []

-- the parts of an object with one key, by the form of the key: its value's layout and those of its value's items are given
abbrev pub parts_laid : Fields → Form → Value → Layout → List Layout → ℕ → List Expression
parts_laid types (form.Holder h) v inner items n = inner (n + 1) (place.Part (type_no n) (step.Held h))
parts_laid types form.Optional v inner (one ∷ rest) n = one (n + 1) (place.Part (type_no n) step.Defaulted)
parts_laid types (form.Leaf leaf.Refinement) v inner items n = base_laid types v n
parts_laid types form.Union v inner items n = members_laid n 0 items (n + 1)
parts_laid types _ v inner items n = []

abbrev pub form_laid : Fields → Form → Value → Layout → List Layout → Layout
form_laid types form v inner items n at =
    said at (form_kind types form v (type_no (n + 1)) (member_numbers n 0 items (n + 1))) ++ parts_laid types form v inner items n

abbrev pub keyed_laid : Fields → Option Form → Value → Layout → List Layout → Layout
keyed_laid types (Some form) v inner items n at = form_laid types form v inner items n at
keyed_laid types None v inner items n at = []

abbrev mutual
  -- a type expression and those in it; where it hasn't the form of one, what is laid doesn't matter
  pub type_laid : Fields → Value → Layout
  type_laid types (text s) n at = said at (word_kind types s)
  type_laid types (dict a (member k v no_members)) n at = keyed_laid types (form_of k) v (type_laid types v) (items_laid types v) n at
  type_laid types _ n at = []

  pub items_laid : Fields → Value → List Layout
  items_laid types (list a ps) = parts_laid_of types ps
  items_laid types _ = []

  pub parts_laid_of : Fields → Items → List Layout
  parts_laid_of types no_parts = []
  parts_laid_of types (part v ps) = type_laid types v ∷ parts_laid_of types ps

-- an object with one field, and one with a field of a known form
abbrev pub field_laid : Fields → List ℕ → Value → Layout
field_laid types k v n at = keyed_laid types (form_of k) v (type_laid types v) (items_laid types v) n at

abbrev pub inside_laid : Fields → Form → Value → Layout
inside_laid types form v n at = form_laid types form v (type_laid types v) (items_laid types v) n at

-- the properties of the model of number m from index i on, the first of which has number n
abbrev pub properties_laid : Fields → ModelNo → ℕ → Fields → ℕ → List Expression
properties_laid types m i no_members n = []
properties_laid types m i (member k v ms) n =
    let first = type_laid types v n (place.Property m i) in
    first ++ properties_laid types m (i + 1) ms (n + length first)

abbrev pub properties_of : Fields → ModelNo → ℕ → Fields → ℕ → List Property
properties_of types m i no_members n = []
properties_of types m i (member k v ms) n =
    record { name = k; of = type_no n } ∷ properties_of types m (i + 1) ms (n + length (type_laid types v n (place.Property m i)))
