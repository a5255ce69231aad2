-- The labelled value, the way and the logged edit that Rust's types stand for.
use Rattle.std.specs.Prelude.{ℕ, List, map}
use Rattle.snap_core.specs.Value.{Value, Items, Fields}
use Rattle.snap_core.specs.View.{view}
use Rattle.edit_core.specs.Labelled as edits
use Rattle.edit_core.specs.Labelled.{leaf, many, keyed, branches, entries, Entry}
use Rattle.edit_core.specs.Edit as edit
use Rattle.edit_core.specs.Logged as logged
use Rattle.node_core.specs.declared.labelled.Label.{Label}
use Rattle.node_core.specs.declared.labelled.Labelled.{Labelled, fold-Labelled}
use Rattle.node_core.specs.declared.labelled.Labelled.TheFolds.{fold-LabelledField}
use Rattle.node_core.specs.declared.labelled.Labelled.TheOpen.{Labelled-F, LabelledField-F}
use Rattle.node_core.specs.declared.labelled.LabelledField.{LabelledField}
use Rattle.node_core.specs.declared.way.Turn.{Turn}
use Rattle.node_core.specs.declared.way.Turn.TheVariants as turns
use Rattle.node_core.specs.declared.edit.Operation.{Operation}
use Rattle.node_core.specs.declared.edit.Operation.TheVariants as operations
use Rattle.node_core.specs.declared.edit.LoggedEdit.{LoggedEdit}

abbrev pub label : Label → edits.Label
label l = record { number = l.number.0; kind = l.kind }

-- one level, with each labelled value inside already seen
abbrev pub labelled_step : Labelled-F edits.Labelled Entry → edits.Labelled
labelled_step (Labelled-F.Leaf v) = leaf (view v)
labelled_step (Labelled-F.Array l xs) = many (label l) (branches xs)
labelled_step (Labelled-F.Record l es) = keyed (label l) (entries es)

abbrev pub field_step : LabelledField-F edits.Labelled Entry → Entry
field_step f = (f.key, f.value)

abbrev pub labelled : Labelled → edits.Labelled
labelled = fold-Labelled edits.Labelled Entry labelled_step field_step

-- the key and the labelled value of a field
abbrev pub field : LabelledField → Entry
field = fold-LabelledField edits.Labelled Entry labelled_step field_step

abbrev pub items : List Labelled → List edits.Labelled
items xs = map labelled xs

abbrev pub fields : List LabelledField → List Entry
fields fs = map field fs

abbrev pub turn : Turn → edit.Turn
turn (turns.Item i) = edit.to_item i
turn (turns.Entry i key) = edit.to_entry i key

abbrev pub way : List Turn → List edit.Turn
way ts = map turn ts

abbrev pub operation : Operation → edit.Operation
operation (operations.Add new) = edit.add (labelled new)
operation (operations.Remove old) = edit.remove (labelled old)
operation (operations.Replace old new) = edit.replace (labelled old) (labelled new)

abbrev pub edit_of : LoggedEdit → logged.LoggedEdit
edit_of e = record { way = way e.way; operation = operation e.operation }

abbrev pub edits_of : List LoggedEdit → List logged.LoggedEdit
edits_of es = map edit_of es

-- the plain value, items and fields, without labels
abbrev pub plain : Labelled → Value
plain x = edits.bare (labelled x)

abbrev pub plain_items : List Labelled → Items
plain_items xs = edits.bare_items (branches (items xs))

abbrev pub plain_fields : List LabelledField → Fields
plain_fields fs = edits.bare_fields (entries (fields fs))

abbrev pub plain_values : List Labelled → List Value
plain_values xs = map plain xs

abbrev pub plain_entry : LabelledField → List ℕ × Value
plain_entry f = ((field f).0, edits.bare (field f).1)

abbrev pub plain_entries : List LabelledField → List (List ℕ × Value)
plain_entries fs = map plain_entry fs
