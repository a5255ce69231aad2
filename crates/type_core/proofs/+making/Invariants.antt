-- What is made so far, in front of what is left comes to, is what all of it comes to.
use Rattle.std.proofs.Common.{◌≡◌, drop}
use Rattle.snap_core.specs.View.{items_view, fields_view}
use Rattle.type_core.specs.Making.{makers_of, fields_of, absent, items_made, entries_made, properties_made}
use Rattle.type_core.proofs.Items.{items_before}
use Rattle.type_core.proofs.Entries.{entries_before}
use Rattle.type_core.proofs.+making.Given as goal

abbrev pub invariant-records::make_entries-loop-field :
    goal.invariant-records::make_entries-loop-field
invariant-records::make_entries-loop-field l =
    entries_before l.made (entries_made l.of.0 (fields_of l.types l.defaults (fields_view (drop l.field-index l.fields))))
    ≡ entries_made l.of.0 (fields_of l.types l.defaults (fields_view l.fields))

abbrev pub invariant-records::make_items-loop-index : goal.invariant-records::make_items-loop-index
invariant-records::make_items-loop-index l =
    items_before l.made (items_made l.index l.of.0 (makers_of l.types l.defaults (items_view (drop l.index l.items))))
    ≡ items_made 0 l.of.0 (makers_of l.types l.defaults (items_view l.items))

abbrev pub invariant-records::make_properties-loop-property :
    goal.invariant-records::make_properties-loop-property
invariant-records::make_properties-loop-property l =
    entries_before l.made (properties_made (absent l.types l.defaults) (drop l.property-index l.properties) (fields_of l.types l.defaults (fields_view l.fields)))
    ≡ properties_made (absent l.types l.defaults) l.properties (fields_of l.types l.defaults (fields_view l.fields))
