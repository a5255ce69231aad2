-- One level of a node, without labels: what stands at a turn, and what a changed, a new and a missing part leave.
use Rattle.std.proofs.Common.{◌≡◌, ℕ, ◌≤◌, zero, suc, List, [], ◌∷◌, ◌++◌, length, take, drop, Bool, true, false, Some, None, refl, sym, ap, subst, ◌∙◌, if◌then◌else◌}
use Rattle.std.specs.Prelude.{slice_get}
use Rattle.std.specs.Option.{option_map}
use Rattle.std.specs.Str.{bytes_eq}
use Rattle.std.proofs.lemmas.List.{take-append-drop, length-take-le}
use Rattle.snap_core.specs.Value.{list, dict, part, value_at, IsPlain, ArePlainMembers}
use Rattle.snap_core.specs.Level.{count_of, item_at, set_item, insert_item, remove_item, set_field, insert_field, remove_field}
use Rattle.snap_core.proofs.PlainLevels.{IsOrdered-of}
use Rattle.edit_core.specs.Labelled.{Label, Labelled, Entry, Branches, Entries, many, keyed, no_branches, branch, no_entries, entry, branches, entries, items_in, entries_in, bare, bare_items, bare_fields}
use Rattle.edit_core.specs.Edit.{Operation, add, remove, within, at_item, at_entry, to_item, to_entry, one_item, one_entry}
use Rattle.edit_core.specs.Application.{item_changed, entry_changed}
use Rattle.edit_core.specs.Logged.{LoggedEdit, after_logged}
use Rattle.edit_core.specs.Template.{entry_at}
use Rattle.edit_core.proofs.Ascending.{Ascend}
use Rattle.edit_core.proofs.Logged.{logged-after, entries-in}
use Rattle.edit_core.proofs.Patching.{ascend-plain}
use Rattle.edit_core.proofs.Places.{item-added, item-removed, entry-set, entry-added, entry-removed}
use Rattle.tree_core.specs.Nodes.{place_in}
use Rattle.tree_core.proofs.Moving.{AboutItem, items-about, AboutEntry, entries-about}
use Rattle.tree_core.proofs.Keys.{Room, room, held}

-- items

pub count-bare : (bs : Branches Label) → count_of (bare_items bs) ≡ length (items_in bs)
count-bare no_branches = refl
count-bare (branch x bs) = ap suc (count-bare bs)

pub item-bare : (i : ℕ) (bs : Branches Label) (p : Labelled) → slice_get (items_in bs) i ≡ Some p → item_at i (bare_items bs) ≡ Some (bare p)
item-bare i no_branches p h = absurd (cc)
item-bare zero (branch x bs) p h = let same : x ≡ p = cc in ap (λ y. Some (bare y)) same
item-bare (suc i) (branch x bs) p h = item-bare i bs p h

-- another item in the place of one
pub item-changed : (i : ℕ) (bs : Branches Label) (p : Labelled) (f : Labelled → Labelled) → slice_get (items_in bs) i ≡ Some p
    → bare_items (item_changed i f bs) ≡ set_item i (bare (f p)) (bare_items bs)
item-changed i no_branches p f h = absurd (cc)
item-changed zero (branch x bs) p f h = let same : x ≡ p = cc in ap (λ y. part (bare (f y)) (bare_items bs)) same
item-changed (suc i) (branch x bs) p f h = ap (part (bare x)) (item-changed i bs p f h)

in-branches : (bs : Branches Label) → branches (items_in bs) ≡ bs
in-branches no_branches = refl
in-branches (branch x bs) = ap (branch x) (in-branches bs)

-- an edit of a node's parts at a turn
abbrev pub item_edit : ℕ → Operation → LoggedEdit
item_edit i op = record { way = to_item i ∷ []; operation = op }

abbrev pub entry_edit : ℕ → List ℕ → Operation → LoggedEdit
entry_edit i key op = record { way = to_entry i key ∷ []; operation = op }

-- one more item
pub item-put : (i : ℕ) (l : Label) (bs : Branches Label) (x : Labelled) → i ≤ length (items_in bs)
    → bare (after_logged (item_edit i (add x)) (many l bs)) ≡ list tt (insert_item i (bare x) (bare_items bs))
item-put i l bs x within-length =
    let before : List Labelled = take i (items_in bs) in
    let after : List Labelled = drop i (items_in bs) in
    let all : branches (before ++ after) ≡ bs = ap branches (take-append-drop i (items_in bs)) ∙ in-branches bs in
    let led : after_logged (item_edit (length before) (add x)) (many l (branches (before ++ after))) ≡ many l (branches (before ++ x ∷ after)) =
    logged-after (many l (branches (before ++ after))) (many l (branches (before ++ x ∷ after))) (within [] (at_item before (add x) after)) (one_item l before after (add x)) in
    let At : ℕ → Branches Label → Type 0 = λ n cs. bare (after_logged (item_edit n (add x)) (many l cs)) ≡ list tt (insert_item n (bare x) (bare_items cs)) in
    let Index : ℕ → Type 0 = λ n. At n bs in
    let Parts : Branches Label → Type 0 = λ cs. At (length before) cs in
    subst Index (length-take-le i (items_in bs) within-length) (subst Parts all (ap bare led ∙ sym (ap (list tt) (item-added before after x))))

-- one item less
pub item-cut : (i : ℕ) (l : Label) (bs : Branches Label) (old : Labelled) → slice_get (items_in bs) i ≡ Some old
    → bare (after_logged (item_edit i (remove old)) (many l bs)) ≡ list tt (remove_item i (bare_items bs))
item-cut i l bs old found =
    let about : AboutItem i bs old = items-about i bs old found in
    let whole : Labelled = many l (branches (about.before ++ old ∷ about.after)) in
    let rest : Labelled = many l (branches (about.before ++ about.after)) in
    let led : after_logged (item_edit (length about.before) (remove old)) whole ≡ rest =
    logged-after whole rest (within [] (at_item about.before (remove old) about.after)) (one_item l about.before about.after (remove old)) in
    let At : ℕ → Branches Label → Type 0 = λ n cs. bare (after_logged (item_edit n (remove old)) (many l cs)) ≡ list tt (remove_item n (bare_items cs)) in
    let Index : ℕ → Type 0 = λ n. At n bs in
    let Parts : Branches Label → Type 0 = λ cs. At (length about.before) cs in
    subst Index about.count (subst Parts about.all (ap bare led ∙ sym (ap (list tt) (item-removed about.before about.after old))))

-- entries

pub value-bare : (key : List ℕ) (es : Entries Label) → value_at key (bare_fields es) ≡ option_map bare (entry_at key (entries_in es))
value-bare key no_entries = refl
value-bare key (entry k x es) = by (bytes_eq key k) (value-bare key es) where
  by : (b : Bool) → value_at key (bare_fields es) ≡ option_map bare (entry_at key (entries_in es))
      → (if b then Some (bare x) else value_at key (bare_fields es)) ≡ option_map bare (if b then Some x else entry_at key (entries_in es))
  by true rest = refl
  by false rest = rest

-- the entries of a plain record ascend
ascending : (es : Entries Label) → ArePlainMembers (bare_fields es) → Ascend (entries_in es)
ascending es plain = ascend-plain es (IsOrdered-of (dict tt (bare_fields es)) plain)

ascending-of : (fs : List Entry) → ArePlainMembers (bare_fields (entries fs)) → Ascend fs
ascending-of fs plain = subst Ascend (entries-in fs) (ascending (entries fs) plain)

module _ (key : List ℕ) (l : Label) (es : Entries Label) (plain : ArePlainMembers (bare_fields es)) where
  abbrev at : ℕ
  at = place_in key (entries_in es)

  -- another value under a key that is held
  pub entry-changed : (old : Labelled) (f : Labelled → Labelled) → entry_at key (entries_in es) ≡ Some old
      → bare_fields (entry_changed (place_in key (entries_in es)) f es) ≡ set_field key (bare (f old)) (bare_fields es)
  entry-changed old f found =
      let about : AboutEntry at key es old = entries-about at key es old (held key es old plain found) in
      let Plain : Entries Label → Type 0 = λ fs. ArePlainMembers (bare_fields fs) in
      let ascends : Ascend (about.before ++ (key, old) ∷ about.after) = ascending-of (about.before ++ (key, old) ∷ about.after) (subst Plain (sym about.all) plain) in
      ap bare_fields (about.changed f) ∙ sym (entry-set about.before about.after key old (f old) ascends)
      ∙ ap (λ fs. set_field key (bare (f old)) (bare_fields fs)) about.all

  -- one more entry
  pub entry-put : (x : Labelled) → IsPlain (bare x) → entry_at key (entries_in es) ≡ None
      → bare (after_logged (entry_edit (place_in key (entries_in es)) key (add x)) (keyed l es)) ≡ dict tt (insert_field key (bare x) (bare_fields es))
  entry-put x plain-new none =
      let r : Room key es = room key es plain none in
      let old : Labelled = keyed l (entries (r.before ++ r.after)) in
      let new : Labelled = keyed l (entries (r.before ++ (key, x) ∷ r.after)) in
      let led : after_logged (entry_edit (length r.before) key (add x)) old ≡ new =
      logged-after old new (within [] (at_entry r.before key (add x) r.after)) (one_entry l r.before r.after key (add x)) in
      let ascends : Ascend (r.before ++ (key, x) ∷ r.after) = ascending-of (r.before ++ (key, x) ∷ r.after) (r.plain x plain-new) in
      let At : ℕ → Entries Label → Type 0 = λ n fs. bare (after_logged (entry_edit n key (add x)) (keyed l fs)) ≡ dict tt (insert_field key (bare x) (bare_fields fs)) in
      let Index : ℕ → Type 0 = λ n. At n es in
      let Parts : Entries Label → Type 0 = λ fs. At (length r.before) fs in
      subst Index r.count (subst Parts r.all (ap bare led ∙ sym (ap (dict tt) (entry-added r.before r.after key x ascends))))

  -- one entry less
  pub entry-cut : (old : Labelled) → entry_at key (entries_in es) ≡ Some old
      → bare (after_logged (entry_edit (place_in key (entries_in es)) key (remove old)) (keyed l es)) ≡ dict tt (remove_field key (bare_fields es))
  entry-cut old found =
      let about : AboutEntry at key es old = entries-about at key es old (held key es old plain found) in
      let Plain : Entries Label → Type 0 = λ fs. ArePlainMembers (bare_fields fs) in
      let ascends : Ascend (about.before ++ (key, old) ∷ about.after) = ascending-of (about.before ++ (key, old) ∷ about.after) (subst Plain (sym about.all) plain) in
      let whole : Labelled = keyed l (entries (about.before ++ (key, old) ∷ about.after)) in
      let rest : Labelled = keyed l (entries (about.before ++ about.after)) in
      let led : after_logged (entry_edit (length about.before) key (remove old)) whole ≡ rest =
      logged-after whole rest (within [] (at_entry about.before key (remove old) about.after)) (one_entry l about.before about.after key (remove old)) in
      let At : ℕ → Entries Label → Type 0 = λ n fs. bare (after_logged (entry_edit n key (remove old)) (keyed l fs)) ≡ dict tt (remove_field key (bare_fields fs)) in
      let Index : ℕ → Type 0 = λ n. At n es in
      let Parts : Entries Label → Type 0 = λ fs. At (length about.before) fs in
      subst Index about.count (subst Parts about.all (ap bare led ∙ sym (ap (dict tt) (entry-removed about.before about.after key old ascends))))
