-- What is found in the parts that are left, behind those looked at, is found in all.
use Rattle.std.proofs.Common.{drop}
use Rattle.snap_core.specs.View.{items_view, fields_view}
use Rattle.type_core.specs.Doubled.{finders_of, keyed_finders_of, found_in_items, found_in_values, found_in_properties}
use Rattle.type_core.proofs.Finding.{GoesOn}
use Rattle.type_core.proofs.doubling.+finding.Given as goal

abbrev pub invariant-find_in_items-loop-index : goal.invariant-find_in_items-loop-index
invariant-find_in_items-loop-index l =
    GoesOn l.initial.seen l.seen (found_in_items l.index l.of.0 (finders_of l.types (items_view (drop l.index l.items)))) (found_in_items 0 l.of.0 (finders_of l.types (items_view l.items)))

abbrev pub invariant-find_in_values-loop-field : goal.invariant-find_in_values-loop-field
invariant-find_in_values-loop-field l =
    GoesOn l.initial.seen l.seen (found_in_values l.of.0 (keyed_finders_of l.types (fields_view (drop l.field-index l.fields)))) (found_in_values l.of.0 (keyed_finders_of l.types (fields_view l.fields)))

abbrev pub invariant-find_in_properties-loop-property : goal.invariant-find_in_properties-loop-property
invariant-find_in_properties-loop-property l =
    GoesOn l.initial.seen l.seen (found_in_properties (drop l.property-index l.properties) (keyed_finders_of l.types (fields_view l.fields))) (found_in_properties l.properties (keyed_finders_of l.types (fields_view l.fields)))
