-- What the types of a schema say of values, as reconciling asks for it.
use Rattle.std.specs.Prelude.{ℕ, List, length, Option, Some, None, option_map}
use Rattle.snap_core.specs.Value.{Value, list, dict}
use Rattle.snap_core.specs.declared.number.ModelNo.{ModelNo}
use Rattle.type_table.specs.declared.shape.Shape.{Shape}
use Rattle.type_table.specs.declared.shape.Shape.TheVariants as shape
use Rattle.type_table.specs.declared.shape.Property.{Property}
use Rattle.type_table.specs.Table.{Table, properties_of}
use Rattle.type_table.specs.Unions.{property_at}
use Rattle.type_table.specs.Identifiers.{identifier_of}
use Rattle.type_core.specs.Judging.{judged_by}
use Rattle.edit_core.specs.declared.kind.Kind.{Kind}
use Rattle.edit_core.specs.declared.kind.Kind.TheVariants.{Model, Array, Map}
use Rattle.edit_core.specs.Typing.{Typing}

-- the kind of node that a shape makes of a value: a model and a map of a record, an array of a list
abbrev pub kind_by : Option Shape → Value → Option Kind
kind_by (Some (shape.Model m)) (dict a ms) = Some (Model m)
kind_by (Some (shape.Map u)) (dict a ms) = Some (Map u)
kind_by (Some (shape.Array u)) (list a ps) = Some (Array u)
kind_by _ v = None

-- the type of a model's property; where there is no such property, the number behind all types
abbrev pub type_or_none : Table → Option Property → ℕ
type_or_none table (Some p) = p.of.0
type_or_none table None = length table.shapes

-- the type of a node's part under a key
abbrev pub type_under : Table → Kind → List ℕ → ℕ
type_under table (Model m) key = type_or_none table (property_at key (properties_of table m.0))
type_under table (Array u) key = u.0
type_under table (Map u) key = u.0

-- the property that is a model's identifier
abbrev pub identifier_name : Table → ModelNo → Option (List ℕ)
identifier_name table m = option_map (λ (p : Property). p.name) (identifier_of table m.0)

-- a value's kind is that of the shape that judges it, names, optional types, maybes and unions followed
abbrev pub typing_of : Table → Typing
typing_of table = record {
  kind_of = λ t v. kind_by (judged_by table v t) v;
  type_under = type_under table;
  identifier_of = identifier_name table;
}
