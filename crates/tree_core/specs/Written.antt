-- What the code's own answers stand for.
use Rattle.std.specs.Prelude.{◌≡◌, ℕ, ◌+◌, List}
use Rattle.edit_core.specs.Template.{Template, numbered, new_count}
use Rattle.node_core.specs.View.{labelled, edits_of}
use Rattle.tree_core.specs.declared.changed.Changed.{Changed}
use Rattle.tree_core.specs.declared.reconciling.New.{New}
use Rattle.reconcile_core.specs.Setting.{LoggedWriting}
use Rattle.tree_core.specs.Changed as specs
use Rattle.tree_core.specs.Writing as specs_of
use Rattle.tree_core.specs.declared.writing.Writing.{Writing}
use Rattle.tree_core.specs.declared.writing.Entry.{Entry}
use Rattle.tree_core.specs.declared.writing.Item.{Item}
use Rattle.tree_core.specs.declared.write.Target.{Target}
use Rattle.tree_core.specs.declared.write.Tree.{Tree}
use Rattle.std.specs.Borrow.{Bor}
use Rattle.std.specs.Option.{option_map}

abbrev pub changed : Changed → specs.Changed
changed c = record { value = labelled c.value; edits = edits_of c.edits; next = c.next }

-- what reconciling wrote, as a change
abbrev pub changed_as : LoggedWriting → specs.Changed
changed_as w = record { value = w.value; edits = w.edits; next = w.next }

-- a new value, its numbers drawn from the next one on
pub record Added (new : Template) (next : ℕ) (given : New) : Type 0 where
  pub value : labelled given.value ≡ numbered next new
  pub after : given.next ≡ next + new_count new

-- what a write goes by, and the part that is written
abbrev pub goes_by : Writing → specs_of.Writing
goes_by w = record { types = w.types.now; node = w.node.now; type = w.of.0; named = w.named.now; next = w.next }

abbrev pub entry_of : Entry → specs_of.Entry
entry_of e = record { node = labelled e.node.now; key = e.key.now }

abbrev pub item_of : Item → specs_of.Item
item_of a = record { node = labelled a.node.now; index = a.index }

-- the place that is written, and the tree that it is written in
abbrev pub target : Target → specs_of.Target
target t = record { running = t.running.now; place = t.place.now; named = option_map (λ (p : Bor (List (List ℕ))). p.now) t.named }

abbrev pub tree : Tree → specs_of.Tree
tree t = record { root = labelled t.root.now; next = t.next }
