-- Where a node stays, its edits are edits of its parts.
use Rattle.std.proofs.Common.{◌≡◌, ℕ, List, [], ◌∷◌, ◌++◌, map, true, false, Option, Some, None}
use Rattle.std.specs.Prelude.{if◌then◌else◌}
use Rattle.edit_core.specs.Labelled.{Labelled, Entry, leaf, many, keyed, items_in, entries_in}
use Rattle.edit_core.specs.Edit.{Edit, whole, within, moved_to_item, moved_to_entry}
use Rattle.edit_core.specs.Around.{Around, in_array, in_record, moved_out, seen_from}
use Rattle.edit_core.specs.Comparing.{is_equal, same_label}
use Rattle.edit_core.specs.Between.{OldPart, values, entries_of, stays, all_stay, one_by_one, match_of, edits_to, becomes, edits_in_place, removals, additions, moved, item_edits, Parting, parted, edits_at, settings, united, cuts, cleared, entry_edits, edits_between, olds_in, old_entries_in}
use Rattle.edit_core.proofs.Patches.{IsWithin, AllWithin}

within-joined : (es fs : List Edit) → AllWithin es → AllWithin fs → AllWithin (es ++ fs)
within-joined [] fs h g = g
within-joined (e ∷ es) fs h g = (h.0, within-joined es fs h.1 g)

within-item : (before after : List Labelled) (e : Edit) → IsWithin (moved_to_item before after e)
within-item before after (whole old new) = tt
within-item before after (within way change) = tt

within-entry : (before : List Entry) (key : List ℕ) (after : List Entry) (e : Edit) → IsWithin (moved_to_entry before key after e)
within-entry before key after (whole old new) = tt
within-entry before key after (within way change) = tt

within-items : (before after : List Labelled) (es : List Edit) → AllWithin (map (moved_to_item before after) es)
within-items before after [] = tt
within-items before after (e ∷ es) = (within-item before after e, within-items before after es)

within-entries : (before : List Entry) (key : List ℕ) (after : List Entry) (es : List Edit) → AllWithin (map (moved_to_entry before key after) es)
within-entries before key after [] = tt
within-entries before key after (e ∷ es) = (within-entry before key after e, within-entries before key after es)

within-one_by_one : (done : List Labelled) (olds : List OldPart) (news : List Labelled) → AllWithin (one_by_one done olds news)
within-one_by_one done [] news = tt
within-one_by_one done (o ∷ os) [] = tt
within-one_by_one done (o ∷ os) (n ∷ ns) =
    within-joined (map (moved_to_item done (values os)) (o.edits n)) (one_by_one (done ++ n ∷ []) os ns)
    (within-items done (values os) (o.edits n)) (within-one_by_one (done ++ n ∷ []) os ns)

within-in_place : (done : List Labelled) (olds : List OldPart) (news : List Labelled) → AllWithin (edits_in_place done olds news)
within-in_place done [] news = tt
within-in_place done (o ∷ os) news =
    within-joined (map (moved_to_item done (values os)) (edits_to o (match_of o news))) (edits_in_place (done ++ becomes o news ∷ []) os news)
    (within-items done (values os) (edits_to o (match_of o news))) (within-in_place (done ++ becomes o news ∷ []) os news)

within-removals : (before xs : List Labelled) → AllWithin (removals before xs)
within-removals before [] = tt
within-removals before (x ∷ xs) = within-joined (removals (before ++ x ∷ []) xs) _ (within-removals (before ++ x ∷ []) xs) (tt, tt)

within-additions : (before xs : List Labelled) → AllWithin (additions before xs)
within-additions before [] = tt
within-additions before (x ∷ xs) = (tt, within-additions (before ++ x ∷ []) xs)

within-moved : (olds : List OldPart) (news : List Labelled) → AllWithin (moved olds news)
within-moved olds news =
    within-joined (edits_in_place [] olds news) (removals [] (map (λ o. becomes o news) olds) ++ additions [] news) (within-in_place [] olds news)
    (within-joined (removals [] (map (λ o. becomes o news) olds)) (additions [] news) (within-removals [] (map (λ o. becomes o news) olds)) (within-additions [] news))

within-item_edits : (olds : List OldPart) (news : List Labelled) → AllWithin (item_edits olds news)
within-item_edits olds news =
    elim (all_stay olds news) as (λ b. AllWithin (if b then one_by_one [] olds news else moved olds news)) [ true ↦ within-one_by_one [] olds news | false ↦ within-moved olds news ]

within-at : (before : List Entry) (key : List ℕ) (held : Option OldPart) (new : Labelled) (after : List Entry) → AllWithin (edits_at before key held new after)
within-at before key (Some old) new after = within-entries before key after (old.edits new)
within-at before key None new after = (tt, tt)

within-settings : (done : List Entry) (olds : List (List ℕ × OldPart)) (news : List Entry) → AllWithin (settings done olds news)
within-settings done olds [] = tt
within-settings done olds (n ∷ ns) =
    let p : Parting = parted n.0 olds in
    let before : List Entry = done ++ entries_of p.below in
    within-joined (edits_at before n.0 p.held n.1 (entries_of p.above)) (settings (before ++ n ∷ []) p.above ns)
    (within-at before n.0 p.held n.1 (entries_of p.above)) (within-settings (before ++ n ∷ []) p.above ns)

within-cuts : (before es after : List Entry) → AllWithin (cuts before es after)
within-cuts before [] after = tt
within-cuts before (e ∷ es) after = (tt, within-cuts before es after)

within-cleared : (done : List Entry) (olds : List (List ℕ × OldPart)) (news : List Entry) → AllWithin (cleared done olds news)
within-cleared done olds [] = within-cuts done (entries_of olds) []
within-cleared done olds (n ∷ ns) =
    let p : Parting = parted n.0 olds in
    within-joined (cuts done (entries_of p.below) (n ∷ united p.above ns)) (cleared (done ++ n ∷ []) p.above ns)
    (within-cuts done (entries_of p.below) (n ∷ united p.above ns)) (within-cleared (done ++ n ∷ []) p.above ns)

within-entry_edits : (olds : List (List ℕ × OldPart)) (news : List Entry) → AllWithin (entry_edits olds news)
within-entry_edits olds news = within-joined (settings [] olds news) (cleared [] olds news) (within-settings [] olds news) (within-cleared [] olds news)

-- where the node stays
pub within-stays : (old new : Labelled) → stays old new ≡ true → AllWithin (edits_between old new)
within-stays (leaf v) (leaf w) same = elim (is_equal v w) as (λ b. b ≡ true → AllWithin (if b then [] else whole (leaf v) (leaf w) ∷ [])) [ true ↦ λ e. tt | false ↦ λ e. absurd (cc e) ] same
within-stays (many l bs) (many k cs) same =
    elim (same_label l k) as (λ b. b ≡ true → AllWithin (if b then item_edits (olds_in bs) (items_in cs) else whole (many l bs) (many k cs) ∷ [])) [ true ↦ λ e. within-item_edits (olds_in bs) (items_in cs) | false ↦ λ e. absurd (cc e) ] same
within-stays (keyed l es) (keyed k fs) same =
    elim (same_label l k) as (λ b. b ≡ true → AllWithin (if b then entry_edits (old_entries_in es) (entries_in fs) else whole (keyed l es) (keyed k fs) ∷ [])) [ true ↦ λ e. within-entry_edits (old_entries_in es) (entries_in fs) | false ↦ λ e. absurd (cc e) ] same
within-stays _ _ same = cc

-- an edit that is seen from outside is an edit of a part
within-seen : (around : List Around) (e : Edit) → IsWithin e → IsWithin (seen_from around e)
within-seen [] e h = h
within-seen (in_array l before after ∷ around) e h = within-seen around (moved_to_item before after e) (within-item before after e)
within-seen (in_record l before key after ∷ around) e h = within-seen around (moved_to_entry before key after e) (within-entry before key after e)

within-out : (a : Around) (e : Edit) → IsWithin (moved_out a e)
within-out (in_array l before after) e = within-item before after e
within-out (in_record l before key after) e = within-entry before key after e

pub within-outside : (a : Around) (around : List Around) (es : List Edit) → AllWithin (map (λ e. seen_from (a ∷ around) e) es)
within-outside a around [] = tt
within-outside a around (e ∷ es) = (within-seen around (moved_out a e) (within-out a e), within-outside a around es)
