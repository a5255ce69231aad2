-- Edits of labelled snapshots: the parts of one node change, and everything carries its labels.
use Rattle.std.specs.Prelude.{ℕ, List, [], ◌∷◌, ◌++◌, length, map}
use Rattle.edit_core.specs.Labelled.{Label, Labelled, Entry, many, keyed, branches, entries}

-- what happens at one place among a node's parts
pub data Operation : Type 0 where
  add : Labelled → Operation
  remove : Labelled → Operation
  replace : Labelled → Labelled → Operation

-- what stands at the place before, and after
abbrev pub old_in : Operation → List Labelled
old_in (add new) = []
old_in (remove old) = old ∷ []
old_in (replace old new) = old ∷ []

abbrev pub new_in : Operation → List Labelled
new_in (add new) = new ∷ []
new_in (remove old) = []
new_in (replace old new) = new ∷ []

-- the same at a key
abbrev pub entries_at : List ℕ → List Labelled → List Entry
entries_at key xs = map (λ x. (key, x)) xs

-- A change of the parts of a node: what stands before the place, what happens there, and what stands behind.
pub data Change : Type 0 where
  at_item : List Labelled → Operation → List Labelled → Change
  at_entry : List Entry → List ℕ → Operation → List Entry → Change

-- one step from a node to a part: an item by its index, an entry by its index and its key
pub data Turn : Type 0 where
  to_item : ℕ → Turn
  to_entry : ℕ → List ℕ → Turn

-- An edit of a value: another value stands in its place, or the parts of a node in it change.
pub data Edit : Type 0 where
  whole : Labelled → Labelled → Edit
  within : List Turn → Change → Edit

-- the edit that takes another back: all labels are again as they were
abbrev pub inverse_operation : Operation → Operation
inverse_operation (add new) = remove new
inverse_operation (remove old) = add old
inverse_operation (replace old new) = replace new old

abbrev pub inverse_change : Change → Change
inverse_change (at_item before op after) = at_item before (inverse_operation op) after
inverse_change (at_entry before key op after) = at_entry before key (inverse_operation op) after

abbrev pub inverse_of : Edit → Edit
inverse_of (whole old new) = whole new old
inverse_of (within way change) = within way (inverse_change change)

-- An edit leads from one labelled snapshot to another.
pub data Leads : Labelled → Edit → Labelled → Type 0 where
  -- another value stands in the place of the whole
  replaced : (old new : Labelled) → Leads old (whole old new) new
  -- an item of an array
  one_item : (label : Label) (before after : List Labelled) (op : Operation)
      → Leads (many label (branches (before ++ (old_in op ++ after)))) (within [] (at_item before op after))
      (many label (branches (before ++ (new_in op ++ after))))
  -- a property of a model, or an entry of a map
  one_entry : (label : Label) (before after : List Entry) (key : List ℕ) (op : Operation)
      → Leads (keyed label (entries (before ++ (entries_at key (old_in op) ++ after)))) (within [] (at_entry before key op after))
      (keyed label (entries (before ++ (entries_at key (new_in op) ++ after))))
  -- an edit of an item leads the array along, and one of an entry its model or map
  in_item : (label : Label) (before after : List Labelled) (x y : Labelled) (way : List Turn) (change : Change)
      → Leads x (within way change) y
      → Leads (many label (branches (before ++ x ∷ after))) (within (to_item (length before) ∷ way) change)
      (many label (branches (before ++ y ∷ after)))
  in_entry : (label : Label) (before after : List Entry) (key : List ℕ) (x y : Labelled) (way : List Turn) (change : Change)
      → Leads x (within way change) y
      → Leads (keyed label (entries (before ++ (key, x) ∷ after))) (within (to_entry (length before) key ∷ way) change)
      (keyed label (entries (before ++ (key, y) ∷ after)))

-- edits lead from one labelled snapshot to another, one after the other
pub data LeadInTurn : Labelled → List Edit → Labelled → Type 0 where
  no_edits : (x : Labelled) → LeadInTurn x [] x
  one_edit : (x y z : Labelled) (e : Edit) (es : List Edit) → Leads x e y → LeadInTurn y es z → LeadInTurn x (e ∷ es) z

-- an edit of an item, as an edit of its array, and an edit of an entry, as one of its model or map
abbrev pub moved_to_item : List Labelled → List Labelled → Edit → Edit
moved_to_item before after (whole old new) = within [] (at_item before (replace old new) after)
moved_to_item before after (within way change) = within (to_item (length before) ∷ way) change

abbrev pub moved_to_entry : List Entry → List ℕ → List Entry → Edit → Edit
moved_to_entry before key after (whole old new) = within [] (at_entry before key (replace old new) after)
moved_to_entry before key after (within way change) = within (to_entry (length before) key ∷ way) change
