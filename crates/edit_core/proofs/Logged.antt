-- A logged edit says all that its edit says of the snapshots before and after it.
use Rattle.std.proofs.Common.{◌≡◌, ℕ, suc, List, [], ◌∷◌, ◌++◌, length, map, refl, sym, ◌∙◌, ap}
use Rattle.std.proofs.Math.Seq.{take-append_seam, drop-append_seam, drop-append-add}
use Rattle.edit_core.specs.Labelled.{Label, Labelled, Entry, Branches, Entries, many, keyed, branches, entries, items_in, entries_in}
use Rattle.edit_core.specs.Edit.{Edit, Turn, Change, Operation, whole, within, at_item, at_entry, to_item, to_entry, old_in, new_in, entries_at, Leads, replaced, one_item, one_entry, in_item, in_entry, LeadInTurn, no_edits, one_edit, inverse_of}
use Rattle.edit_core.specs.Application.{item_changed, entry_changed}
use Rattle.edit_core.specs.Plain.{token_of, path_to, operation_in, patch_at, patch_of}
use Rattle.edit_core.specs.Logged.{place_of, logged, spliced, after_way, after_logged, inverse_logged, before_logged, patch_of_logged, after_log, before_log}
use Rattle.edit_core.proofs.Applying.{item-changed, entry-changed}
use Rattle.edit_core.proofs.TakenBack.{back-one}

pub items-in : (xs : List Labelled) → items_in (branches xs) ≡ xs
items-in [] = refl
items-in (x ∷ xs) = ap (λ ys. x ∷ ys) (items-in xs)

pub entries-in : (es : List Entry) → entries_in (entries es) ≡ es
entries-in [] = refl
entries-in (e ∷ es) = ap (λ fs. e ∷ fs) (entries-in es)

-- others in the place of some between two lists
splice : {A : Type 0} (before old new after : List A) → spliced (length before) (length old) new (before ++ (old ++ after)) ≡ before ++ (new ++ after)
splice before old new after = rw (take-append_seam before (old ++ after), drop-append-add before (old ++ after) (length old), drop-append_seam old after) refl

length-at : (key : List ℕ) (xs : List Labelled) → length (entries_at key xs) ≡ length xs
length-at key [] = refl
length-at key (x ∷ xs) = ap suc (length-at key xs)

-- a way with a turn behind it leads further where it is not at its end
further-item : (i : ℕ) (way : List Turn) (last : Turn) (op : Operation) (l : Label) (bs : Branches Label)
    → after_way (to_item i ∷ (way ++ last ∷ [])) op (many l bs) ≡ many l (item_changed i (after_way (way ++ last ∷ []) op) bs)
further-item i [] last op l bs = refl
further-item i (turn ∷ way) last op l bs = refl

further-entry : (i : ℕ) (key : List ℕ) (way : List Turn) (last : Turn) (op : Operation) (l : Label) (es : Entries Label)
    → after_way (to_entry i key ∷ (way ++ last ∷ [])) op (keyed l es) ≡ keyed l (entry_changed i (after_way (way ++ last ∷ []) op) es)
further-entry i key [] last op l es = refl
further-entry i key (turn ∷ way) last op l es = refl

pub logged-after : (x y : Labelled) (e : Edit) → Leads x e y → after_logged (logged e) x ≡ y
logged-after x y e (replaced old new) = refl
logged-after x y e (one_item l before after op) =
    rw (items-in (before ++ (old_in op ++ after)), splice before (old_in op) (new_in op) after) refl
logged-after x y e (one_entry l before after key op) =
    rw (entries-in (before ++ (entries_at key (old_in op) ++ after)), ← length-at key (old_in op), splice before (entries_at key (old_in op)) (entries_at key (new_in op)) after) refl
logged-after x y e (in_item l before after v w way change lead) =
    let inner : after_way (way ++ place_of change ∷ []) (operation_in change) v ≡ w = logged-after v w (within way change) lead in
    further-item (length before) way (place_of change) (operation_in change) l (branches (before ++ v ∷ after))
    ∙ ap (many l) (item-changed (after_way (way ++ place_of change ∷ []) (operation_in change)) before after v)
    ∙ ap (λ u. many l (branches (before ++ u ∷ after))) inner
logged-after x y e (in_entry l before after key v w way change lead) =
    let inner : after_way (way ++ place_of change ∷ []) (operation_in change) v ≡ w = logged-after v w (within way change) lead in
    further-entry (length before) key way (place_of change) (operation_in change) l (entries (before ++ (key, v) ∷ after))
    ∙ ap (keyed l) (entry-changed (after_way (way ++ place_of change ∷ []) (operation_in change)) before after key v)
    ∙ ap (λ u. keyed l (entries (before ++ (key, u) ∷ after))) inner

logged-inverse : (e : Edit) → logged (inverse_of e) ≡ inverse_logged (logged e)
logged-inverse (whole old new) = refl
logged-inverse (within way (at_item before op after)) = refl
logged-inverse (within way (at_entry before key op after)) = refl

pub logged-before : (x y : Labelled) (e : Edit) → Leads x e y → before_logged (logged e) y ≡ x
logged-before x y e lead = ap (λ f. after_logged f y) (sym (logged-inverse e)) ∙ logged-after y x (inverse_of e) (back-one x y e lead)

path-of : (way : List Turn) (change : Change) → map token_of (way ++ place_of change ∷ []) ≡ path_to way change
path-of [] (at_item before op after) = refl
path-of [] (at_entry before key op after) = refl
path-of (turn ∷ way) change = ap (λ path. token_of turn ∷ path) (path-of way change)

pub logged-patch : (e : Edit) → patch_of_logged (logged e) ≡ patch_of e
logged-patch (whole old new) = refl
logged-patch (within way change) = ap (λ path. patch_at path (operation_in change)) (path-of way change)

pub log-after : (x y : Labelled) (es : List Edit) → LeadInTurn x es y → after_log (map logged es) x ≡ y
log-after x y es (no_edits w) = refl
log-after x y es (one_edit a b c e rest lead run) = ap (after_log (map logged rest)) (logged-after a b e lead) ∙ log-after b c rest run

pub log-before : (x y : Labelled) (es : List Edit) → LeadInTurn x es y → before_log (map logged es) y ≡ x
log-before x y es (no_edits w) = refl
log-before x y es (one_edit a b c e rest lead run) = ap (before_logged (logged e)) (log-before b c rest run) ∙ logged-before a b e lead
