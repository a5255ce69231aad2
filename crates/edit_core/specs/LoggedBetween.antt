-- The edits that lead from one labelled snapshot to another, as a log keeps them: places are told by index alone.
use Rattle.std.specs.Prelude.{ℕ, suc, ◌+◌, List, [], ◌∷◌, ◌++◌, map, take, drop, Bool, true, false, ◌&&◌, Option, Some, None, unwrap_or, if◌then◌else◌}
use Rattle.std.specs.List.{find}
use Rattle.std.specs.Ordering.{nat_cmp, is_lt, is_eq}
use Rattle.std.specs.Cmp.Lexicographic.{slice_cmp}
use Rattle.snap_core.specs.Value.{Value}
use Rattle.edit_core.specs.Labelled.{Label, Labelled, Entry, Branches, Entries, leaf, many, keyed, no_branches, branch, no_entries, entry, items_in, entries_in}
use Rattle.edit_core.specs.Edit.{Operation, Turn, add, remove, replace, to_item, to_entry}
use Rattle.edit_core.specs.Logged.{LoggedEdit, behind}
use Rattle.edit_core.specs.Comparing.{is_equal, same_label}
use Rattle.edit_core.specs.Between.{stays}

-- an old part, and for each new value the logged edits that lead from the part to it
pub record LoggedPart : Type 0 where
  pub value : Labelled
  pub edits : Labelled → List LoggedEdit

-- the edits of a part, as edits of its node
abbrev pub all_behind : Turn → List LoggedEdit → List LoggedEdit
all_behind turn es = map (behind turn) es

-- an operation at a turn
abbrev pub at_turn : Turn → Operation → LoggedEdit
at_turn turn op = record { way = turn ∷ []; operation = op }

-- another value in the place of the whole
abbrev pub of_whole : Labelled → Labelled → LoggedEdit
of_whole old new = record { way = []; operation = replace old new }

-- there are as many items, and each stays at its index
abbrev pub each_stays : List LoggedPart → List Labelled → Bool
each_stays [] [] = true
each_stays (o ∷ os) (n ∷ ns) = stays o.value n && each_stays os ns
each_stays _ _ = false

-- each item becomes the new one at its index, by rising index from i on
abbrev pub logged_one_by_one : ℕ → List LoggedPart → List Labelled → List LoggedEdit
logged_one_by_one i (o ∷ os) (n ∷ ns) = all_behind (to_item i) (o.edits n) ++ logged_one_by_one (suc i) os ns
logged_one_by_one i _ _ = []

-- the edits to the new item that an old one stays as, if there is one, and what it then is
abbrev pub logged_edits_to : LoggedPart → Option Labelled → List LoggedEdit
logged_edits_to o (Some n) = o.edits n
logged_edits_to o None = []

abbrev pub remains : Labelled → List Labelled → Labelled
remains old news = unwrap_or (find (stays old) news) old

-- the items that stay, at their old indexes, by rising index from i on
abbrev pub logged_in_place : ℕ → List LoggedPart → List Labelled → List LoggedEdit
logged_in_place i [] news = []
logged_in_place i (o ∷ os) news = all_behind (to_item i) (logged_edits_to o (find (stays o.value) news)) ++ logged_in_place (suc i) os news

-- items from i on are removed from the last to the first
abbrev pub logged_removals : ℕ → List Labelled → List LoggedEdit
logged_removals i [] = []
logged_removals i (x ∷ xs) = logged_removals (suc i) xs ++ at_turn (to_item i) (remove x) ∷ []

-- items are added from i on, from the first to the last
abbrev pub logged_additions : ℕ → List Labelled → List LoggedEdit
logged_additions i [] = []
logged_additions i (x ∷ xs) = at_turn (to_item i) (add x) ∷ logged_additions (suc i) xs

-- where items don't stay at their indexes, all are removed once they are edited, and added in their new order
abbrev pub logged_moved : List LoggedPart → List Labelled → List LoggedEdit
logged_moved olds news =
    logged_in_place 0 olds news ++ (logged_removals 0 (map (λ o. remains o.value news) olds) ++ logged_additions 0 news)

-- the array rule
abbrev pub logged_items : List LoggedPart → List Labelled → List LoggedEdit
logged_items olds news = if each_stays olds news then logged_one_by_one 0 olds news else logged_moved olds news

-- how many of ascending entries come before a key
abbrev pub count_below : {A : Type 0} → List ℕ → List (List ℕ × A) → ℕ
count_below key [] = 0
count_below key (e ∷ es) = if is_lt (slice_cmp nat_cmp e.0 key) then suc (count_below key es) else 0

-- what the first of entries holds, where it stands under a key, and the entries behind that
abbrev pub held_first : {A : Type 0} → List ℕ → List (List ℕ × A) → Option A
held_first key [] = None
held_first key (e ∷ es) = if is_eq (slice_cmp nat_cmp e.0 key) then Some e.1 else None

abbrev pub past : {A : Type 0} → Option A → List (List ℕ × A) → List (List ℕ × A)
past (Some held) es = drop 1 es
past None es = es

-- a key of the new record: the edits of its value where it is held, and an addition where it isn't
abbrev pub logged_at : ℕ → List ℕ → Option LoggedPart → Labelled → List LoggedEdit
logged_at i key (Some old) new = all_behind (to_entry i key) (old.edits new)
logged_at i key None new = at_turn (to_entry i key) (add new) ∷ []

-- the keys of the new record, ascending, where i entries are done already
abbrev pub logged_settings : ℕ → List (List ℕ × LoggedPart) → List Entry → List LoggedEdit
logged_settings i olds [] = []
logged_settings i olds (n ∷ ns) =
    let at : ℕ = i + count_below n.0 olds in
    let rest : List (List ℕ × LoggedPart) = drop (count_below n.0 olds) olds in
    logged_at at n.0 (held_first n.0 rest) n.1 ++ logged_settings (suc at) (past (held_first n.0 rest) rest) ns

-- entries at i are removed from the first to the last
abbrev pub logged_cuts : ℕ → List (List ℕ × LoggedPart) → List LoggedEdit
logged_cuts i [] = []
logged_cuts i (e ∷ es) = at_turn (to_entry i e.0) (remove e.1.value) ∷ logged_cuts i es

-- the keys that only the old record has, ascending, where i entries are done already
abbrev pub logged_cleared : ℕ → List (List ℕ × LoggedPart) → List Entry → List LoggedEdit
logged_cleared i olds [] = logged_cuts i olds
logged_cleared i olds (n ∷ ns) =
    let rest : List (List ℕ × LoggedPart) = drop (count_below n.0 olds) olds in
    logged_cuts i (take (count_below n.0 olds) olds) ++ logged_cleared (suc i) (past (held_first n.0 rest) rest) ns

-- the rule of maps and models
abbrev pub logged_entries : List (List ℕ × LoggedPart) → List Entry → List LoggedEdit
logged_entries olds news = logged_settings 0 olds news ++ logged_cleared 0 olds news

abbrev pub logged_leaf : Value → Labelled → List LoggedEdit
logged_leaf v (leaf w) = if is_equal v w then [] else of_whole (leaf v) (leaf w) ∷ []
logged_leaf v new = of_whole (leaf v) new ∷ []

abbrev pub logged_array : Label → Labelled → List LoggedPart → Labelled → List LoggedEdit
logged_array l old olds (many k bs) = if same_label l k then logged_items olds (items_in bs) else of_whole old (many k bs) ∷ []
logged_array l old olds new = of_whole old new ∷ []

abbrev pub logged_record : Label → Labelled → List (List ℕ × LoggedPart) → Labelled → List LoggedEdit
logged_record l old olds (keyed k es) = if same_label l k then logged_entries olds (entries_in es) else of_whole old (keyed k es) ∷ []
logged_record l old olds new = of_whole old new ∷ []

abbrev mutual
  -- the edits between two labelled snapshots, as a log keeps them
  pub logged_between : Labelled → Labelled → List LoggedEdit
  logged_between (leaf v) new = logged_leaf v new
  logged_between (many l bs) new = logged_array l (many l bs) (logged_olds bs) new
  logged_between (keyed l es) new = logged_record l (keyed l es) (logged_fields es) new

  pub logged_olds : Branches Label → List LoggedPart
  logged_olds no_branches = []
  logged_olds (branch x bs) = record { value = x; edits = logged_between x } ∷ logged_olds bs

  pub logged_fields : Entries Label → List (List ℕ × LoggedPart)
  logged_fields no_entries = []
  logged_fields (entry k x es) = (k, record { value = x; edits = logged_between x }) ∷ logged_fields es

-- a labelled value as an old part
abbrev pub part_of : Labelled → LoggedPart
part_of x = record { value = x; edits = logged_between x }

abbrev pub entry_part : Entry → List ℕ × LoggedPart
entry_part e = (e.0, part_of e.1)
