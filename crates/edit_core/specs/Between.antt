-- The edits that lead from one labelled snapshot to another. A node stays where its label stands in both.
use Rattle.std.specs.Prelude.{ℕ, List, [], ◌∷◌, ◌++◌, map, Bool, true, false, ◌&&◌, Option, Some, None, unwrap_or, if◌then◌else◌}
use Rattle.std.specs.List.{find}
use Rattle.std.specs.declared.cmp.Ordering.{Ordering}
use Rattle.std.specs.declared.cmp.Ordering.TheVariants.{Less, Equal, Greater}
use Rattle.std.specs.Ordering.{nat_cmp}
use Rattle.std.specs.Cmp.Lexicographic.{slice_cmp}
use Rattle.snap_core.specs.Value.{Value}
use Rattle.edit_core.specs.Labelled.{Label, Labelled, Entry, Branches, Entries, leaf, many, keyed, no_branches, branch, no_entries, entry, items_in, entries_in}
use Rattle.edit_core.specs.Edit.{Edit, whole, within, at_item, at_entry, add, remove, moved_to_item, moved_to_entry}
use Rattle.edit_core.specs.Comparing.{is_equal, same_label}

-- an old part, and for each new value the edits that lead from the part to it
pub record OldPart : Type 0 where
  pub value : Labelled
  pub edits : Labelled → List Edit

abbrev pub values : List OldPart → List Labelled
values olds = map (λ old. old.value) olds

abbrev pub entries_of : List (List ℕ × OldPart) → List Entry
entries_of olds = map (λ e. (e.0, e.1.value)) olds

-- an item of the old array stays as this item of the new one: the same node, or an equal leaf
abbrev pub stays : Labelled → Labelled → Bool
stays (leaf v) (leaf w) = is_equal v w
stays (many l bs) (many k cs) = same_label l k
stays (keyed l es) (keyed k fs) = same_label l k
stays _ _ = false

-- there are as many items, and each stays at its index
abbrev pub all_stay : List OldPart → List Labelled → Bool
all_stay [] [] = true
all_stay (o ∷ os) (n ∷ ns) = stays o.value n && all_stay os ns
all_stay _ _ = false

-- Each item becomes the new one at its index, by rising index. Those before are done already.
abbrev pub one_by_one : List Labelled → List OldPart → List Labelled → List Edit
one_by_one done (o ∷ os) (n ∷ ns) =
    map (moved_to_item done (values os)) (o.edits n) ++ one_by_one (done ++ n ∷ []) os ns
one_by_one done _ _ = []

-- the new item that is the old one, if there is one, and what the old one becomes before it is moved
abbrev pub match_of : OldPart → List Labelled → Option Labelled
match_of o news = find (stays o.value) news

abbrev pub edits_to : OldPart → Option Labelled → List Edit
edits_to o (Some n) = o.edits n
edits_to o None = []

abbrev pub becomes : OldPart → List Labelled → Labelled
becomes o news = unwrap_or (match_of o news) o.value

-- the items that stay are after_edit at their old indexes, by rising index
abbrev pub edits_in_place : List Labelled → List OldPart → List Labelled → List Edit
edits_in_place done [] news = []
edits_in_place done (o ∷ os) news =
    map (moved_to_item done (values os)) (edits_to o (match_of o news))
    ++ edits_in_place (done ++ becomes o news ∷ []) os news

-- items are removed from the last to the first
abbrev pub removals : List Labelled → List Labelled → List Edit
removals before [] = []
removals before (x ∷ xs) = removals (before ++ x ∷ []) xs ++ within [] (at_item before (remove x) []) ∷ []

-- items are added from the first to the last
abbrev pub additions : List Labelled → List Labelled → List Edit
additions before [] = []
additions before (x ∷ xs) = within [] (at_item before (add x) []) ∷ additions (before ++ x ∷ []) xs

-- where items don't stay at their indexes, all are removed once they are after_edit, and added in their new order
abbrev pub moved : List OldPart → List Labelled → List Edit
moved olds news =
    edits_in_place [] olds news ++ (removals [] (map (λ o. becomes o news) olds) ++ additions [] news)

-- the array rule
abbrev pub item_edits : List OldPart → List Labelled → List Edit
item_edits olds news = if all_stay olds news then one_by_one [] olds news else moved olds news

-- ascending entries about a key: those below it, the one that it holds, if any, and those above
pub record Parting : Type 0 where
  pub below : List (List ℕ × OldPart)
  pub held : Option OldPart
  pub above : List (List ℕ × OldPart)

abbrev pub parted_after : List ℕ × OldPart → List (List ℕ × OldPart) → Parting → Ordering → Parting
parted_after e es rest Less = record { below = e ∷ rest.below; held = rest.held; above = rest.above }
parted_after e es rest Equal = record { below = []; held = Some e.1; above = es }
parted_after e es rest Greater = record { below = []; held = None; above = e ∷ es }

abbrev pub parted : List ℕ → List (List ℕ × OldPart) → Parting
parted key [] = record { below = []; held = None; above = [] }
parted key (e ∷ es) = parted_after e es (parted key es) (slice_cmp nat_cmp e.0 key)

-- a key of the new record: the edits of its value where it is held, and an addition where it isn't
abbrev pub edits_at : List Entry → List ℕ → Option OldPart → Labelled → List Entry → List Edit
edits_at before key (Some old) new after = map (moved_to_entry before key after) (old.edits new)
edits_at before key None new after = within [] (at_entry before key (add new) after) ∷ []

-- the keys of the new record, ascending; those before are done already
abbrev pub settings : List Entry → List (List ℕ × OldPart) → List Entry → List Edit
settings done olds [] = []
settings done olds (n ∷ ns) =
    let p : Parting = parted n.0 olds in
    let before : List Entry = done ++ entries_of p.below in
    edits_at before n.0 p.held n.1 (entries_of p.above) ++ settings (before ++ n ∷ []) p.above ns

-- the old entries and the new ones together, where the new ones count at keys that both hold
abbrev pub united : List (List ℕ × OldPart) → List Entry → List Entry
united olds [] = entries_of olds
united olds (n ∷ ns) =
    let p : Parting = parted n.0 olds in
    entries_of p.below ++ n ∷ united p.above ns

-- entries are removed from the first to the last
abbrev pub cuts : List Entry → List Entry → List Entry → List Edit
cuts before [] after = []
cuts before (e ∷ es) after = within [] (at_entry before e.0 (remove e.1) (es ++ after)) ∷ cuts before es after

-- the keys that only the old record has, ascending
abbrev pub cleared : List Entry → List (List ℕ × OldPart) → List Entry → List Edit
cleared done olds [] = cuts done (entries_of olds) []
cleared done olds (n ∷ ns) =
    let p : Parting = parted n.0 olds in
    cuts done (entries_of p.below) (n ∷ united p.above ns) ++ cleared (done ++ n ∷ []) p.above ns

-- the rule of maps, and of models, whose keys are the same before and after
abbrev pub entry_edits : List (List ℕ × OldPart) → List Entry → List Edit
entry_edits olds news = settings [] olds news ++ cleared [] olds news

-- another value in the place of the whole, unless nothing changes
abbrev pub leaf_edits : Value → Labelled → List Edit
leaf_edits v (leaf w) = if is_equal v w then [] else whole (leaf v) (leaf w) ∷ []
leaf_edits v new = whole (leaf v) new ∷ []

abbrev pub array_edits : Label → Labelled → List OldPart → Labelled → List Edit
array_edits l old olds (many k bs) = if same_label l k then item_edits olds (items_in bs) else whole old (many k bs) ∷ []
array_edits l old olds new = whole old new ∷ []

abbrev pub record_edits : Label → Labelled → List (List ℕ × OldPart) → Labelled → List Edit
record_edits l old olds (keyed k es) = if same_label l k then entry_edits olds (entries_in es) else whole old (keyed k es) ∷ []
record_edits l old olds new = whole old new ∷ []

abbrev mutual
  pub edits_between : Labelled → Labelled → List Edit
  edits_between (leaf v) new = leaf_edits v new
  edits_between (many l bs) new = array_edits l (many l bs) (olds_in bs) new
  edits_between (keyed l es) new = record_edits l (keyed l es) (old_entries_in es) new

  pub olds_in : Branches Label → List OldPart
  olds_in no_branches = []
  olds_in (branch x bs) = record { value = x; edits = edits_between x } ∷ olds_in bs

  pub old_entries_in : Entries Label → List (List ℕ × OldPart)
  old_entries_in no_entries = []
  old_entries_in (entry k x es) = (k, record { value = x; edits = edits_between x }) ∷ old_entries_in es
