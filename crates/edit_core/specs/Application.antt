-- The labelled snapshot after an edit.
use Rattle.std.specs.Prelude.{ℕ, zero, suc, List, [], ◌∷◌, ◌++◌, map, reverse}
use Rattle.edit_core.specs.Labelled.{Label, Labelled, Branches, Entries, many, keyed, no_branches, branch, no_entries, entry, branches, entries}
use Rattle.edit_core.specs.Edit.{Edit, Change, Turn, at_item, at_entry, whole, within, to_item, to_entry, new_in, entries_at, Leads, inverse_of}

abbrev pub after_change : Change → Labelled → Labelled
after_change (at_item before op after) (many l bs) = many l (branches (before ++ (new_in op ++ after)))
after_change (at_entry before key op after) (keyed l es) = keyed l (entries (before ++ (entries_at key (new_in op) ++ after)))
after_change change x = x

-- the items with that at an index changed
abbrev pub item_changed : ℕ → (Labelled → Labelled) → Branches Label → Branches Label
item_changed i change no_branches = no_branches
item_changed zero change (branch x bs) = branch (change x) bs
item_changed (suc i) change (branch x bs) = branch x (item_changed i change bs)

-- the entries with that at an index changed
abbrev pub entry_changed : ℕ → (Labelled → Labelled) → Entries Label → Entries Label
entry_changed i change no_entries = no_entries
entry_changed zero change (entry k x es) = entry k (change x) es
entry_changed (suc i) change (entry k x es) = entry k x (entry_changed i change es)

-- the node at the end of a way with its parts changed
abbrev pub after_within : List Turn → Change → Labelled → Labelled
after_within [] change x = after_change change x
after_within (to_item i ∷ way) change (many l bs) = many l (item_changed i (after_within way change) bs)
after_within (to_entry i key ∷ way) change (keyed l es) = keyed l (entry_changed i (after_within way change) es)
after_within (turn ∷ way) change x = x

-- the labelled snapshot after an edit
abbrev pub after_edit : Edit → Labelled → Labelled
after_edit (whole old new) x = new
after_edit (within way change) x = after_within way change x

-- an edit fits a labelled snapshot: what it finds is what stands there
abbrev pub Fits : Edit → Labelled → Type 0
Fits e x = Leads x e (after_edit e x)

-- edits in turn
abbrev pub after_edits : List Edit → Labelled → Labelled
after_edits [] x = x
after_edits (e ∷ es) x = after_edits es (after_edit e x)

abbrev pub FitInTurn : List Edit → Labelled → Type 0
FitInTurn [] x = Unit {0}
FitInTurn (e ∷ es) x = Fits e x × FitInTurn es (after_edit e x)

-- the inverses, last first
abbrev pub back : List Edit → List Edit
back es = reverse (map inverse_of es)
