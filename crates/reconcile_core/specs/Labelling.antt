-- The templates of values that are set, by the types of a schema.
use Rattle.std.specs.Prelude.{ℕ, Option, Some, None}
use Rattle.snap_core.specs.Value.{Value, list, dict, Items, Fields}
use Rattle.type_table.specs.Table.{Table}
use Rattle.edit_core.specs.declared.kind.Kind.{Kind}
use Rattle.edit_core.specs.declared.kind.Kind.TheVariants.{Array}
use Rattle.snap_core.specs.declared.number.TypeNo.{TypeNo}
use Rattle.edit_core.specs.Labelled.{Labelled, leaf, many, keyed}
use Rattle.edit_core.specs.Typing.{Rules}
use Rattle.edit_core.specs.Matching.{by_first}
use Rattle.node_core.specs.declared.labelled.Label.{Label}
use Rattle.edit_core.specs.Template.{NewLabel, Template, template, label_for, items_under, entries_under, values_in, array_template, record_template, item_templates, field_templates}
use Rattle.reconcile_core.specs.RealTypes.{typing_of}

abbrev pub rules_of : Table → Rules
rules_of table = by_first (typing_of table)

-- what a type makes of a value in the place of an old one, if there is one
abbrev pub template_of : Table → ℕ → Option Labelled → Value → Template
template_of table t old v = template (rules_of table) t old v

-- the same, where the value isn't equal to the old one
abbrev pub changed_template : Table → ℕ → Option Labelled → Value → Template
changed_template table t old (list a ps) = array_template (rules_of table) ((typing_of table).kind_of t (list a ps)) old ps (item_templates (rules_of table) ps)
changed_template table t old (dict a ms) = record_template (rules_of table) ((typing_of table).kind_of t (dict a ms)) old ms (field_templates (rules_of table) ms)
changed_template table t old v = leaf v

-- an array of a type, with the old one that stays, if any
abbrev pub array_of : Table → TypeNo → Option Labelled → Items → Template
array_of table u stays ps =
    many (label_for (Array u) stays) (item_templates (rules_of table) ps u.0 ((rules_of table).matching u.0 (items_under stays) (values_in ps)))

-- a model or a map, likewise
abbrev pub record_of : Table → Kind → Option Labelled → Fields → Template
record_of table kind stays ms = keyed (label_for kind stays) (field_templates (rules_of table) ms kind (entries_under stays))

-- the label of a kind with the number of one that stays, if there is one
abbrev pub new_label : Kind → Option Label → NewLabel
new_label kind (Some l) = record { number = Some l.number.0; kind = kind }
new_label kind None = record { number = None; kind = kind }

-- the type of an array's items, and the kind of a model or a map
abbrev pub array_type : Option Kind → Option TypeNo
array_type (Some (Array u)) = Some u
array_type _ = None

abbrev pub record_kind : Option Kind → Option Kind
record_kind (Some (Array u)) = None
record_kind kind = kind
