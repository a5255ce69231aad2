-- The edits between two plain values put in and take out plain values.
use Rattle.std.proofs.Common.{ℕ, List, [], ◌∷◌, ◌++◌, map, Bool, true, false, Option, Some, None, if◌then◌else◌}
use Rattle.std.specs.Prelude.{unwrap_or}
use Rattle.std.specs.List.{find}
use Rattle.std.specs.declared.cmp.Ordering.{Ordering}
use Rattle.std.specs.declared.cmp.Ordering.TheVariants.{Less, Equal, Greater}
use Rattle.std.specs.Ordering.{nat_cmp}
use Rattle.std.specs.Cmp.Lexicographic.{slice_cmp}
use Rattle.snap_core.specs.Value.{Value, IsPlain, ArePlain, ArePlainMembers}
use Rattle.edit_core.specs.Labelled.{Label, Labelled, Entry, Branches, Entries, leaf, many, keyed, no_branches, branch, no_entries, entry, items_in, entries_in, bare, bare_items, bare_fields}
use Rattle.edit_core.specs.Edit.{Edit, Operation, add, remove, replace, whole, within, at_item, moved_to_item, moved_to_entry}
use Rattle.edit_core.specs.Plain.{operation_in}
use Rattle.edit_core.specs.Comparing.{is_equal, same_label}
use Rattle.edit_core.specs.Logged.{LoggedEdit, logged}
use Rattle.edit_core.specs.Between.{OldPart, values, entries_of, stays, all_stay, one_by_one, match_of, edits_to, becomes, edits_in_place, removals, additions, moved, item_edits, Parting, parted_after, parted, edits_at, settings, united, cuts, cleared, entry_edits, leaf_edits, array_edits, record_edits, edits_between, olds_in, old_entries_in}

-- what is put in, and what is taken out
abbrev pub PlainOp : Operation → Type 0
PlainOp (add new) = IsPlain (bare new)
PlainOp (remove old) = IsPlain (bare old)
PlainOp (replace old new) = IsPlain (bare old) × IsPlain (bare new)

abbrev pub PlainEdit : Edit → Type 0
PlainEdit (whole old new) = IsPlain (bare old) × IsPlain (bare new)
PlainEdit (within way change) = PlainOp (operation_in change)

abbrev pub PlainEdits : List Edit → Type 0
PlainEdits [] = Unit {0}
PlainEdits (e ∷ es) = PlainEdit e × PlainEdits es

-- what a log keeps of them
abbrev pub PlainLog : List LoggedEdit → Type 0
PlainLog [] = Unit {0}
PlainLog (e ∷ es) = PlainOp e.operation × PlainLog es

log-one : (e : Edit) → PlainEdit e → PlainOp (logged e).operation
log-one (whole old new) h = h
log-one (within way change) h = h

pub log-plain : (es : List Edit) → PlainEdits es → PlainLog (map logged es)
log-plain [] h = tt
log-plain (e ∷ es) h = (log-one e h.0, log-plain es h.1)

pub logs-joined : (es fs : List LoggedEdit) → PlainLog es → PlainLog fs → PlainLog (es ++ fs)
logs-joined [] fs h g = g
logs-joined (e ∷ es) fs h g = (h.0, logs-joined es fs h.1 g)

joined : (es fs : List Edit) → PlainEdits es → PlainEdits fs → PlainEdits (es ++ fs)
joined [] fs h g = g
joined (e ∷ es) fs h g = (h.0, joined es fs h.1 g)

-- edits of a part, as edits of its node
item-one : (before after : List Labelled) (e : Edit) → PlainEdit e → PlainEdit (moved_to_item before after e)
item-one before after (whole old new) h = h
item-one before after (within way change) h = h

item-all : (before after : List Labelled) (es : List Edit) → PlainEdits es → PlainEdits (map (moved_to_item before after) es)
item-all before after [] h = tt
item-all before after (e ∷ es) h = (item-one before after e h.0, item-all before after es h.1)

entry-one : (before : List Entry) (key : List ℕ) (after : List Entry) (e : Edit) → PlainEdit e → PlainEdit (moved_to_entry before key after e)
entry-one before key after (whole old new) h = h
entry-one before key after (within way change) h = h

entry-all : (before : List Entry) (key : List ℕ) (after : List Entry) (es : List Edit) → PlainEdits es → PlainEdits (map (moved_to_entry before key after) es)
entry-all before key after [] h = tt
entry-all before key after (e ∷ es) h = (entry-one before key after e h.0, entry-all before key after es h.1)

-- plain parts, old and new
abbrev pub PlainItems : List Labelled → Type 0
PlainItems [] = Unit {0}
PlainItems (x ∷ xs) = IsPlain (bare x) × PlainItems xs

abbrev pub PlainEntries : List Entry → Type 0
PlainEntries [] = Unit {0}
PlainEntries (e ∷ es) = IsPlain (bare e.1) × PlainEntries es

record Good (o : OldPart) : Type 0 where
  plain : IsPlain (bare o.value)
  edits : (n : Labelled) → IsPlain (bare n) → PlainEdits (o.edits n)

abbrev AllGood : List OldPart → Type 0
AllGood [] = Unit {0}
AllGood (o ∷ os) = Good o × AllGood os

abbrev EachGood : List (List ℕ × OldPart) → Type 0
EachGood [] = Unit {0}
EachGood (e ∷ es) = Good e.1 × EachGood es

pub items-plain : (bs : Branches Label) → ArePlain (bare_items bs) → PlainItems (items_in bs)
items-plain no_branches h = tt
items-plain (branch x bs) h = (h.0, items-plain bs h.1)

pub entries-plain : (es : Entries Label) → ArePlainMembers (bare_fields es) → PlainEntries (entries_in es)
entries-plain no_entries h = tt
entries-plain (entry k x es) h = (h.0, entries-plain es h.2)

-- items

one_by_one-plain : (done : List Labelled) (olds : List OldPart) (news : List Labelled) → AllGood olds → PlainItems news → PlainEdits (one_by_one done olds news)
one_by_one-plain done [] news good plain = tt
one_by_one-plain done (o ∷ os) [] good plain = tt
one_by_one-plain done (o ∷ os) (n ∷ ns) good plain =
    joined (map (moved_to_item done (values os)) (o.edits n)) (one_by_one (done ++ n ∷ []) os ns)
    (item-all done (values os) (o.edits n) (good.0.edits n plain.0)) (one_by_one-plain (done ++ n ∷ []) os ns good.1 plain.1)

abbrev IfPlain : Option Labelled → Type 0
IfPlain None = Unit {0}
IfPlain (Some x) = IsPlain (bare x)

found-plain : (test : Labelled → Bool) (news : List Labelled) → PlainItems news → IfPlain (find test news)
found-plain test [] plain = tt
found-plain test (n ∷ ns) plain = by (test n) (found-plain test ns plain.1) where
  by : (b : Bool) → IfPlain (find test ns) → IfPlain (if b then Some n else find test ns)
  by true rest = plain.0
  by false rest = rest

edits_to-plain : (o : OldPart) (m : Option Labelled) → Good o → IfPlain m → PlainEdits (edits_to o m)
edits_to-plain o None good plain = tt
edits_to-plain o (Some n) good plain = good.edits n plain

becomes-plain : (o : OldPart) (m : Option Labelled) → Good o → IfPlain m → IsPlain (bare (unwrap_or m o.value))
becomes-plain o None good plain = good.plain
becomes-plain o (Some n) good plain = plain

in_place-plain : (done : List Labelled) (olds : List OldPart) (news : List Labelled) → AllGood olds → PlainItems news → PlainEdits (edits_in_place done olds news)
in_place-plain done [] news good plain = tt
in_place-plain done (o ∷ os) news good plain =
    joined (map (moved_to_item done (values os)) (edits_to o (match_of o news))) (edits_in_place (done ++ becomes o news ∷ []) os news)
    (item-all done (values os) (edits_to o (match_of o news)) (edits_to-plain o (match_of o news) good.0 (found-plain (stays o.value) news plain)))
    (in_place-plain (done ++ becomes o news ∷ []) os news good.1 plain)

all-become : (olds : List OldPart) (news : List Labelled) → AllGood olds → PlainItems news → PlainItems (map (λ o. becomes o news) olds)
all-become [] news good plain = tt
all-become (o ∷ os) news good plain = (becomes-plain o (match_of o news) good.0 (found-plain (stays o.value) news plain), all-become os news good.1 plain)

removals-plain : (before xs : List Labelled) → PlainItems xs → PlainEdits (removals before xs)
removals-plain before [] plain = tt
removals-plain before (x ∷ xs) plain = joined (removals (before ++ x ∷ []) xs) (within [] (at_item before (remove x) []) ∷ []) (removals-plain (before ++ x ∷ []) xs plain.1) (plain.0, tt)

additions-plain : (before xs : List Labelled) → PlainItems xs → PlainEdits (additions before xs)
additions-plain before [] plain = tt
additions-plain before (x ∷ xs) plain = (plain.0, additions-plain (before ++ x ∷ []) xs plain.1)

moved-plain : (olds : List OldPart) (news : List Labelled) → AllGood olds → PlainItems news → PlainEdits (moved olds news)
moved-plain olds news good plain =
    joined (edits_in_place [] olds news) (removals [] (map (λ o. becomes o news) olds) ++ additions [] news) (in_place-plain [] olds news good plain)
    (joined (removals [] (map (λ o. becomes o news) olds)) (additions [] news) (removals-plain [] (map (λ o. becomes o news) olds) (all-become olds news good plain)) (additions-plain [] news plain))

item_edits-plain : (olds : List OldPart) (news : List Labelled) → AllGood olds → PlainItems news → PlainEdits (item_edits olds news)
item_edits-plain olds news good plain =
    elim (all_stay olds news) as (λ b. PlainEdits (if b then one_by_one [] olds news else moved olds news)) [ true ↦ one_by_one-plain [] olds news good plain | false ↦ moved-plain olds news good plain ]

-- entries

abbrev IfGood : Option OldPart → Type 0
IfGood None = Unit {0}
IfGood (Some o) = Good o

record GoodParting (p : Parting) : Type 0 where
  below : EachGood p.below
  held : IfGood p.held
  above : EachGood p.above

parted-good : (key : List ℕ) (olds : List (List ℕ × OldPart)) → EachGood olds → GoodParting (parted key olds)
parted-good key [] good = record { below = tt; held = tt; above = tt }
parted-good key (e ∷ es) good = by (slice_cmp nat_cmp e.0 key) (parted-good key es good.1) where
  by : (o : Ordering) → GoodParting (parted key es) → GoodParting (parted_after e es (parted key es) o)
  by Less rest = record { below = (good.0, rest.below); held = rest.held; above = rest.above }
  by Equal rest = record { below = tt; held = good.0; above = good.1 }
  by Greater rest = record { below = tt; held = tt; above = good }

olds-plain : (olds : List (List ℕ × OldPart)) → EachGood olds → PlainEntries (entries_of olds)
olds-plain [] good = tt
olds-plain (e ∷ es) good = (good.0.plain, olds-plain es good.1)

at-plain : (before : List Entry) (key : List ℕ) (held : Option OldPart) (new : Labelled) (after : List Entry) → IfGood held → IsPlain (bare new) → PlainEdits (edits_at before key held new after)
at-plain before key (Some old) new after good plain = entry-all before key after (old.edits new) (good.edits new plain)
at-plain before key None new after good plain = (plain, tt)

settings-plain : (done : List Entry) (olds : List (List ℕ × OldPart)) (news : List Entry) → EachGood olds → PlainEntries news → PlainEdits (settings done olds news)
settings-plain done olds [] good plain = tt
settings-plain done olds (n ∷ ns) good plain =
    let p : Parting = parted n.0 olds in
    let before : List Entry = done ++ entries_of p.below in
    let parts : GoodParting p = parted-good n.0 olds good in
    joined (edits_at before n.0 p.held n.1 (entries_of p.above)) (settings (before ++ n ∷ []) p.above ns)
    (at-plain before n.0 p.held n.1 (entries_of p.above) parts.held plain.0) (settings-plain (before ++ n ∷ []) p.above ns parts.above plain.1)

cuts-plain : (before es after : List Entry) → PlainEntries es → PlainEdits (cuts before es after)
cuts-plain before [] after plain = tt
cuts-plain before (e ∷ es) after plain = (plain.0, cuts-plain before es after plain.1)

cleared-plain : (done : List Entry) (olds : List (List ℕ × OldPart)) (news : List Entry) → EachGood olds → PlainEdits (cleared done olds news)
cleared-plain done olds [] good = cuts-plain done (entries_of olds) [] (olds-plain olds good)
cleared-plain done olds (n ∷ ns) good =
    let p : Parting = parted n.0 olds in
    let parts : GoodParting p = parted-good n.0 olds good in
    joined (cuts done (entries_of p.below) (n ∷ united p.above ns)) (cleared (done ++ n ∷ []) p.above ns)
    (cuts-plain done (entries_of p.below) (n ∷ united p.above ns) (olds-plain p.below parts.below)) (cleared-plain (done ++ n ∷ []) p.above ns parts.above)

entry_edits-plain : (olds : List (List ℕ × OldPart)) (news : List Entry) → EachGood olds → PlainEntries news → PlainEdits (entry_edits olds news)
entry_edits-plain olds news good plain = joined (settings [] olds news) (cleared [] olds news) (settings-plain [] olds news good plain) (cleared-plain [] olds news good)

-- values

leaf-plain : (v : Value) (new : Labelled) → IsPlain v → IsPlain (bare new) → PlainEdits (leaf_edits v new)
leaf-plain v (leaf w) old plain = elim (is_equal v w) as (λ b. PlainEdits (if b then [] else whole (leaf v) (leaf w) ∷ [])) [ true ↦ tt | false ↦ ((old, plain), tt) ]
leaf-plain v (many k bs) old plain = ((old, plain), tt)
leaf-plain v (keyed k es) old plain = ((old, plain), tt)

array-plain : (l : Label) (bs : Branches Label) (new : Labelled) → ArePlain (bare_items bs) → AllGood (olds_in bs) → IsPlain (bare new) → PlainEdits (array_edits l (many l bs) (olds_in bs) new)
array-plain l bs (leaf w) old good plain = ((old, plain), tt)
array-plain l bs (keyed k es) old good plain = ((old, plain), tt)
array-plain l bs (many k cs) old good plain =
    elim (same_label l k) as (λ b. PlainEdits (if b then item_edits (olds_in bs) (items_in cs) else whole (many l bs) (many k cs) ∷ [])) [ true ↦ item_edits-plain (olds_in bs) (items_in cs) good (items-plain cs plain) | false ↦ ((old, plain), tt) ]

record-plain : (l : Label) (es : Entries Label) (new : Labelled) → ArePlainMembers (bare_fields es) → EachGood (old_entries_in es) → IsPlain (bare new) → PlainEdits (record_edits l (keyed l es) (old_entries_in es) new)
record-plain l es (leaf w) old good plain = ((old, plain), tt)
record-plain l es (many k cs) old good plain = ((old, plain), tt)
record-plain l es (keyed k fs) old good plain =
    elim (same_label l k) as (λ b. PlainEdits (if b then entry_edits (old_entries_in es) (entries_in fs) else whole (keyed l es) (keyed k fs) ∷ [])) [ true ↦ entry_edits-plain (old_entries_in es) (entries_in fs) good (entries-plain fs plain) | false ↦ ((old, plain), tt) ]

mutual
  pub between-plain : (old new : Labelled) → IsPlain (bare old) → IsPlain (bare new) → PlainEdits (edits_between old new)
  between-plain (leaf v) new old plain = leaf-plain v new old plain
  between-plain (many l bs) new old plain = array-plain l bs new old (olds-good bs old) plain
  between-plain (keyed l es) new old plain = record-plain l es new old (entries-good es old) plain

  olds-good : (bs : Branches Label) → ArePlain (bare_items bs) → AllGood (olds_in bs)
  olds-good no_branches old = tt
  olds-good (branch x bs) old = (record { plain = old.0; edits = λ n plain. between-plain x n old.0 plain }, olds-good bs old.1)

  entries-good : (es : Entries Label) → ArePlainMembers (bare_fields es) → EachGood (old_entries_in es)
  entries-good no_entries old = tt
  entries-good (entry k x es) old = (record { plain = old.0; edits = λ n plain. between-plain x n old.0 plain }, entries-good es old.2)
