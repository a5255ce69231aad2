-- The faults that the first pass over a schema file finds, in form, names, repetitions and the length of the history, in document order. The first counts: one that stands behind another may come of it.
use Rattle.std.specs.Prelude.{ℕ, ◌+◌, ℤ, pos, int_le, List, [], ◌∷◌, ◌++◌, map, codes, decimal, Bool, true, false, ◌&&◌, not, is_some, is_none, nat_le, Option, Some, None, if◌then◌else◌}
use Rattle.std.specs.List.{list_any}
use Rattle.std.specs.Ordering.{int_eq}
use Rattle.std.specs.Str.{bytes_eq}
use Rattle.snap_core.specs.Name.{is_name}
use Rattle.snap_core.specs.Level.{count_of}
use Rattle.snap_core.specs.Value.{Value, integer, text, list, dict, no_parts, part, no_members, member, value_at, is_whole, Items, Fields}
use Rattle.pointer_core.specs.declared.schema_rule.SchemaRule.{SchemaRule}
use Rattle.pointer_core.specs.declared.schema_rule.SchemaRule.TheVariants.{Shape, Name, Twice, Arguments, History}
use Rattle.type_table.specs.declared.shape.Condition.{Condition}
use Rattle.type_table.specs.declared.shape.Condition.TheVariants.{Min, Max, MinLength, MaxLength, StartsWith}
use Rattle.expr_form.specs.declared.fault.Fault.{Fault}
use Rattle.schema_form.specs.declared.fault.FormError.{FormError}
use Rattle.schema_form.specs.declared.fault.FormError.TheVariants.{Wrong}
use Rattle.schema_form.specs.declared.words.Leaf.{Leaf}
use Rattle.schema_form.specs.declared.words.Leaf.TheVariants as leaf
use Rattle.schema_form.specs.declared.words.Form.{Form}
use Rattle.schema_form.specs.declared.words.Form.TheVariants as form
use Rattle.schema_form.specs.declared.bases.Base.{Base}
use Rattle.schema_form.specs.declared.bases.Base.TheVariants.{Texts, Integers}
use Rattle.schema_form.specs.Words.{plain_of, form_of}
use Rattle.schema_form.specs.Names.{has_key, base_of, type_base, refinable, is_barred}
use Rattle.schema_form.specs.Entries.{model_in, param_in, types_of}
use Rattle.schema_form.specs.Targets.{lookup}
use Rattle.expr_form.specs.Outcome.{Outcome, wrong}
use Rattle.expr_form.specs.Names.{is_fixed}
use Rattle.behaviour_form.specs.Named.{stands_in, is_taken}
use Rattle.behaviour_form.specs.Actions.{action_body_read}
use Rattle.behaviour_form.specs.Middleware.{middleware_read}
use Rattle.behaviour_form.specs.Views.{views_read}

-- a rule that isn't met at the place itself
abbrev pub here : SchemaRule → List Fault
here rule = record { path = []; rule = rule } ∷ []

-- the fault, unless the test holds
abbrev pub unless : Bool → SchemaRule → List Fault
unless holds rule = if holds then [] else here rule

-- the same faults, one step further down
abbrev pub lower : List ℕ → Fault → Fault
lower token f = record { path = token ∷ f.path; rule = f.rule }

abbrev pub under : List ℕ → List Fault → List Fault
under token faults = map (lower token) faults

-- the faults of each value of an object, under its key
abbrev pub member_faults : (List ℕ → Value → List Fault) → Fields → List Fault
member_faults faults no_members = []
member_faults faults (member k v ms) = under k (faults k v) ++ member_faults faults ms

-- A number that isn't whole is at fault wherever it stands. It is kept as an integer beyond the range of whole numbers.
abbrev mutual
  pub number_faults : Value → List Fault
  number_faults (integer z) = unless (is_whole z) Shape
  number_faults (list a ps) = items_numbers 0 ps
  number_faults (dict a ms) = members_numbers ms
  number_faults _ = []

  pub items_numbers : ℕ → Items → List Fault
  items_numbers i no_parts = []
  items_numbers i (part v ps) = under (decimal i) (number_faults v) ++ items_numbers (i + 1) ps

  pub members_numbers : Fields → List Fault
  members_numbers no_members = []
  members_numbers (member k v ms) = under k (number_faults v) ++ members_numbers ms

-- a literal is a scalar
abbrev pub literal_faults : Value → List Fault
literal_faults (list a ps) = here Shape
literal_faults (dict a ms) = here Shape
literal_faults v = number_faults v

-- a text among some texts
abbrev pub is_among : List (List ℕ) → List ℕ → Bool
is_among texts s = list_any (bytes_eq s) texts

-- an enumeration lists texts, none twice; those that stand earlier are given
abbrev pub texts_faults : List (List ℕ) → ℕ → Items → List Fault
texts_faults earlier i no_parts = []
texts_faults earlier i (part (text s) ps) = under (decimal i) (unless (not (is_among earlier s)) Twice) ++ texts_faults (s ∷ earlier) (i + 1) ps
texts_faults earlier i (part v ps) = under (decimal i) (here Shape) ++ texts_faults earlier (i + 1) ps

abbrev pub enumeration_faults : Value → List Fault
enumeration_faults (list a (part t ps)) = texts_faults [] 0 (part t ps)
enumeration_faults _ = here Shape

-- a text that must be the name of one of the types
abbrev pub name_faults : Fields → Value → List Fault
name_faults types (text s) = unless (has_key s types) Name
name_faults types _ = here Shape

-- a word stands for a plain type, or for a type of the schema
abbrev pub word_faults : Fields → List ℕ → List Fault
word_faults types s = if is_some (plain_of s) then [] else unless (has_key s types) Name

-- the base of a refinement is "string" or "integer", or a name that leads to one of them
abbrev pub base_faults : Fields → Value → List Fault
base_faults types (text s) = word_faults types s ++ unless (is_some (refinable (base_of types s))) Shape
base_faults types _ = here Shape

abbrev pub base_in : Fields → Value → Option Base
base_in types (text s) = base_of types s
base_in types _ = None

-- the condition under a key, which is one of the base's kind
abbrev pub bound : (ℤ → Condition) → ℤ → Option Condition
bound condition z = if is_whole z then Some (condition z) else None

abbrev pub condition_of : Option Base → List ℕ → Value → Option Condition
condition_of (Some Integers) key (integer z) =
    if bytes_eq key (codes "min") then bound Min z
    else if bytes_eq key (codes "max") then bound Max z
    else None
condition_of (Some Texts) key (integer z) =
    if bytes_eq key (codes "minLength") then bound MinLength z
    else if bytes_eq key (codes "maxLength") then bound MaxLength z
    else None
condition_of (Some Texts) key (text s) = if bytes_eq key (codes "startsWith") then Some (StartsWith s) else None
condition_of _ key v = None

abbrev pub condition_faults : Option Base → List ℕ → Value → List Fault
condition_faults base k v = unless (is_some (condition_of base k v)) Shape

abbrev pub conditions_faults : Option Base → Value → List Fault
conditions_faults base (dict a ms) = member_faults (condition_faults base) ms
conditions_faults base _ = here Shape

-- a refinement has a base and conditions
abbrev pub refinement_faults : Fields → Value → List Fault
refinement_faults types (list a (part t (part cs no_parts))) = under (codes "0") (base_faults types t) ++ under (codes "1") (conditions_faults (base_in types t) cs)
refinement_faults types _ = here Shape

-- the faults of some items, from this index on
abbrev pub numbered : ℕ → List (List Fault) → List Fault
numbered i [] = []
numbered i (f ∷ fs) = under (decimal i) f ++ numbered (i + 1) fs

-- the faults of what stands under the key of a form that holds no other form
abbrev pub leaf_faults : Fields → Leaf → Value → List Fault
leaf_faults types leaf.Literal v = literal_faults v
leaf_faults types leaf.Enumeration v = enumeration_faults v
leaf_faults types leaf.Refinement v = refinement_faults types v
leaf_faults types leaf.Reference v = name_faults types v
leaf_faults types leaf.SafeReference v = name_faults types v

-- the faults of what stands under the key of a form: `inner` has those of it and `items` those of its items, each as a type expression
abbrev pub form_faults : Fields → Form → Value → List Fault → List (List Fault) → List Fault
form_faults types (form.Leaf l) v inner items = leaf_faults types l v
form_faults types (form.Holder h) v inner items = inner
form_faults types form.Optional (list a (part t (part d no_parts))) inner (one ∷ rest) = under (codes "0") one ++ under (codes "1") (number_faults d)
form_faults types form.Union (list a (part t (part u ps))) inner items = numbered 0 items
form_faults types _ v inner items = here Shape

-- the faults of an object with one key, of the form that it stands for
abbrev pub keyed_faults : Fields → List ℕ → Option Form → Value → List Fault → List (List Fault) → List Fault
keyed_faults types k (Some form) v inner items = under k (form_faults types form v inner items)
keyed_faults types k None v inner items = here Shape

abbrev mutual
  -- the faults of a type expression
  pub type_faults : Fields → Value → List Fault
  type_faults types (text s) = word_faults types s
  type_faults types (dict a (member k v no_members)) = keyed_faults types k (form_of k) v (type_faults types v) (item_faults types v)
  type_faults types _ = here Shape

  -- the faults of each item of a list, as a type expression
  pub item_faults : Fields → Value → List (List Fault)
  item_faults types (list a ps) = parts_faults types ps
  item_faults types _ = []

  pub parts_faults : Fields → Items → List (List Fault)
  parts_faults types no_parts = []
  parts_faults types (part v ps) = type_faults types v ∷ parts_faults types ps

-- the faults of what stands under the key of a form
abbrev pub inside_faults : Fields → Form → Value → List Fault
inside_faults types form v = form_faults types form v (type_faults types v) (item_faults types v)

-- the faults of an object with this one field
abbrev pub field_faults : Fields → List ℕ → Value → List Fault
field_faults types k v = keyed_faults types k (form_of k) v (type_faults types v) (item_faults types v)

-- whether a value is a text or an object whose key stands for a form, whatever stands in it
abbrev pub is_expression : Value → Bool
is_expression (text s) = true
is_expression (dict a (member k v no_members)) = is_some (form_of k)
is_expression _ = false

-- the fault of a key that is no name: where the value under it isn't of a known form, that comes first
abbrev pub misnamed : Bool → FormError
misnamed is_formed = Wrong (record { path = []; rule = if is_formed then Name else Shape })

abbrev pub key_faults : Bool → Bool → List Fault
key_faults is_formed is_good = if is_good then [] else here (if is_formed then Name else Shape)

-- the faults of a type expression at its own place, before what else may be wrong there
abbrev pub own_faults : Fields → Value → List Fault
own_faults types (text s) = word_faults types s
own_faults types v = unless (is_expression v) Shape

-- The properties of a model, of which all parts are given, are type expressions under names. None has the name of an action.
abbrev pub property_faults : Fields → Fields → List ℕ → Value → List Fault
property_faults types parts k v =
    key_faults (is_expression v) (is_name k) ++ own_faults types v ++ unless (not (stands_in (codes "actions") parts k)) Twice ++ type_faults types v

abbrev pub properties_faults : Fields → Fields → Value → List Fault
properties_faults types parts (dict a ms) = member_faults (property_faults types parts) ms
properties_faults types parts _ = here Shape

-- the name of a parameter: those of the parameters before it are given
abbrev pub param_name_faults : List (List ℕ) → Value → List Fault
param_name_faults earlier (text s) = unless (is_name s) Name ++ unless (not (is_fixed s)) Twice ++ unless (not (is_among earlier s)) Arguments
param_name_faults earlier _ = here Shape

-- its type: no identifier, and no safe reference
abbrev pub param_type_faults : Fields → Value → List Fault
param_type_faults types v = own_faults types v ++ unless (not (is_barred (type_base types v))) Arguments ++ type_faults types v

-- a parameter is a list of both
abbrev pub param_faults : Fields → List (List ℕ) → Value → List Fault
param_faults types earlier (list a (part name (part of no_parts))) = under (codes "0") (param_name_faults earlier name) ++ under (codes "1") (param_type_faults types of)
param_faults types earlier _ = here Shape

-- the names of parameters with one more
abbrev pub with_name : List (List ℕ) → Option (List ℕ × Value) → List (List ℕ)
with_name earlier (Some p) = earlier ++ p.0 ∷ []
with_name earlier None = earlier

abbrev pub params_from : Fields → List (List ℕ) → ℕ → Items → List Fault
params_from types earlier i no_parts = []
params_from types earlier i (part v ps) = under (decimal i) (param_faults types earlier v) ++ params_from types (with_name earlier (param_in v)) (i + 1) ps

-- an action has at most eight
abbrev pub is_few : Items → Bool
is_few ps = nat_le (count_of ps) 8

abbrev pub params_faults : Fields → Value → List Fault
params_faults types (list a ps) = unless (is_few ps) Arguments ++ params_from types [] 0 ps
params_faults types _ = here Shape

-- the fault of a part that is read by itself; what leads nowhere is no fault of this pass
abbrev pub told : {A : Type 0} → Outcome A → List Fault
told (wrong f) = f ∷ []
told _ = []

-- the parts of an action: its body, in which its parameters are bound, and its parameters
abbrev pub action_part_faults : Fields → Fields → List ℕ → Value → List Fault
action_part_faults types parts k v =
    if bytes_eq k (codes "body") then told (action_body_read (lookup types) (value_at (codes "params") parts) v)
    else if bytes_eq k (codes "params") then params_faults types v
    else here Shape

-- whether a value is an object with a body, whatever stands in it
abbrev pub is_action : Value → Bool
is_action (dict a ms) = has_key (codes "body") ms
is_action _ = false

abbrev pub action_inside : Fields → Value → List Fault
action_inside types (dict a ms) = unless (has_key (codes "body") ms) Shape ++ member_faults (action_part_faults types ms) ms
action_inside types _ = here Shape

-- the actions of a model stand under names
abbrev pub action_faults : Fields → List ℕ → Value → List Fault
action_faults types k v = key_faults (is_action v) (is_name k) ++ action_inside types v

abbrev pub actions_faults : Fields → Value → List Fault
actions_faults types (dict a ms) = member_faults (action_faults types) ms
actions_faults types _ = here Shape

-- the parts of a model: each goes by all of them
abbrev pub model_part_faults : Fields → Fields → List ℕ → Value → List Fault
model_part_faults types parts k v =
    if bytes_eq k (codes "actions") then actions_faults types v
    else if bytes_eq k (codes "middleware") then told (middleware_read (lookup types) v)
    else if bytes_eq k (codes "properties") then properties_faults types parts v
    else if bytes_eq k (codes "views") then told (views_read (lookup types) (is_taken parts) v)
    else here Shape

-- a model has properties
abbrev pub model_faults : Fields → Value → List Fault
model_faults types (dict a ms) = unless (has_key (codes "properties") ms) Shape ++ member_faults (model_part_faults types ms) ms
model_faults types _ = here Shape

-- an entry of the types is a model or a type expression, under a name of its own
abbrev pub is_free : List ℕ → Bool
is_free k = is_name k && is_none (plain_of k)

abbrev pub formed_faults : Fields → List ℕ → Value → Option Value → List Fault
formed_faults types k v (Some model) = key_faults true (is_free k) ++ under (codes "model") (model_faults types model)
formed_faults types k v None = key_faults (is_expression v) (is_free k) ++ type_faults types v

abbrev pub entry_faults : Fields → List ℕ → Value → List Fault
entry_faults types k v = formed_faults types k v (model_in v)

abbrev pub types_faults : Value → List Fault
types_faults (dict a ms) = member_faults (entry_faults ms) ms
types_faults _ = here Shape

-- the history is 0 to 100 entries long
abbrev pub history_faults : Value → List Fault
history_faults (integer z) = if is_whole z then unless (int_le (pos 0) z && int_le z (pos 100)) History else here Shape
history_faults _ = here Shape

-- the host is 1
abbrev pub host_faults : Value → List Fault
host_faults (integer z) = unless (int_eq z (pos 1)) Shape
host_faults _ = here Shape

abbrev pub part_faults : Fields → List ℕ → Value → List Fault
part_faults types k v =
    if bytes_eq k (codes "history") then history_faults v
    else if bytes_eq k (codes "host") then host_faults v
    else if bytes_eq k (codes "root") then name_faults types v
    else if bytes_eq k (codes "types") then types_faults v
    else here Shape

-- the faults of a schema file: an object with host, root and types, and maybe history
abbrev pub file_faults : Value → List Fault
file_faults (dict a ms) =
    unless (has_key (codes "host") ms && has_key (codes "root") ms && has_key (codes "types") ms) Shape
    ++ member_faults (part_faults (types_of (dict a ms))) ms
file_faults _ = here Shape

-- the first of them
abbrev pub first : List Fault → Option Fault
first [] = None
first (f ∷ fs) = Some f
