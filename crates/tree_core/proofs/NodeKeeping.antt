-- Parts put in and taken out keep what changes keep.
use Rattle.std.proofs.Common.{◌≡◌, ℕ, ◌+◌, ◌<◌, ◌≤◌, List, [], ◌∷◌, ◌++◌, length, take, drop, Some, None, refl, sym, ap, subst, ◌∙◌, arith, ⊎_elim}
use Rattle.std.specs.Prelude.{slice_get}
use Rattle.std.proofs.lemmas.Bool.{cases_lt}
use Rattle.std.proofs.lemmas.List.{take-append-drop, length-take-le}
use Rattle.snap_core.specs.Value.{Value, IsPlain, ArePlain, ArePlainMembers, ComesBefore, keys_of}
use Rattle.edit_core.specs.Labelled.{Label, Labelled, Entry, many, keyed, Branches, Entries, no_branches, branch, branches, entries, items_in, entries_in, bare, bare_items, bare_fields}
use Rattle.edit_core.specs.Edit.{Edit, add, remove, to_item, to_entry, within, at_item, at_entry}
use Rattle.edit_core.specs.Template.{Template, numbered as numbered_as, new_count, entry_at}
use Rattle.edit_core.specs.Numbers.{times, times_in_items, times_in_entries, AreNumbered}
use Rattle.edit_core.specs.Logged.{LoggedEdit, logged, after_logged}
use Rattle.edit_core.proofs.Leading.{LeadsIn, one_item, one_entry, one_edit, no_edits, free, leads-in}
use Rattle.edit_core.proofs.Logged.{logged-after}
use Rattle.tree_core.specs.Nodes.{to_key}
use Rattle.tree_core.specs.Changed.{by_edit, part_added, part_removed}
use Rattle.tree_core.proofs.Moving.{AboutItem, items-about, AboutEntry, entries-about}
use Rattle.tree_core.proofs.Keys.{key_before, Room, room}
use Rattle.tree_core.proofs.Keeping.{Keeps, IsFresh}

-- What a value is to be after an edit.
record Leaves (next after : ℕ) (x y : Labelled) : Type 0 where
  later : next ≤ after
  kept : (n : ℕ) → n < next → times n y ≤ times n x
  drawn : (n : ℕ) → next ≤ n → times n y ≤ 1
  none : (n : ℕ) → after ≤ n → times n y ≡ 0
  plain : IsPlain (bare y)

keeps-by_edit : (next after : ℕ) (x y : Labelled) (e : Edit) (l : LoggedEdit) → logged e ≡ l → LeadsIn free x e y → Leaves next after x y → Keeps next x (by_edit l after x)
keeps-by_edit next after x y e l same lead leaves =
    let value : after_logged l x ≡ y = ap (λ k. after_logged k x) (sym same) ∙ logged-after x y e (leads-in free x y e lead) in
    let To : Labelled → Type 0 = λ z. LeadsIn free x e z in
    let Plain : Labelled → Type 0 = λ z. IsPlain (bare z) in
    record {
      runs = record {
        edits = e ∷ [];
        logs = ap (λ k. k ∷ []) same;
        run = one_edit x (after_logged l x) (after_logged l x) e [] (subst To (sym value) lead) (no_edits (after_logged l x));
      };
      later = leaves.later;
      kept = λ n h. omega (arith, ap (times n) value, leaves.kept n h);
      drawn = λ n h. omega (arith, ap (times n) value, leaves.drawn n h);
      none = λ n h. ap (times n) value ∙ leaves.none n h;
      plain = subst Plain (sym value) leaves.plain;
    }

in-branches : (bs : Branches Label) → branches (items_in bs) ≡ bs
in-branches no_branches = refl
in-branches (branch x bs) = ap (branch x) (in-branches bs)

-- Items.

times-joined : (n : ℕ) (before after : List Labelled) → times_in_items n (branches (before ++ after)) ≡ times_in_items n (branches before) + times_in_items n (branches after)
times-joined n [] after = omega arith
times-joined n (x ∷ before) after = omega (arith, times-joined n before after)

plain-joined : (before after : List Labelled) → ArePlain (bare_items (branches before)) → ArePlain (bare_items (branches after)) → ArePlain (bare_items (branches (before ++ after)))
plain-joined [] after p q = q
plain-joined (x ∷ before) after p q = (p.0, plain-joined before after p.1 q)

plain-front : (before after : List Labelled) → ArePlain (bare_items (branches (before ++ after))) → ArePlain (bare_items (branches before))
plain-front [] after p = tt
plain-front (x ∷ before) after p = (p.0, plain-front before after p.1)

plain-back : (before after : List Labelled) → ArePlain (bare_items (branches (before ++ after))) → ArePlain (bare_items (branches after))
plain-back [] after p = p
plain-back (x ∷ before) after p = plain-back before after p.1

-- an item put in
pub keeps-item_added : (next i : ℕ) (l : Label) (bs : Branches Label) (new : Template) (v : Value)
    → i ≤ length (items_in bs) → AreNumbered next (many l bs) → IsPlain (bare (many l bs)) → IsPlain v → IsFresh next new v
    → Keeps next (many l bs) (part_added (to_item i) new next (many l bs))
keeps-item_added next i l bs new v room numbered plain plain-new f =
    let xs : List Labelled = items_in bs in
    let x : Labelled = numbered_as next new in
    let before : List Labelled = take i xs in
    let after : List Labelled = drop i xs in
    let same : branches (before ++ after) ≡ bs = ap branches (take-append-drop i xs) ∙ in-branches bs in
    let y : Labelled = many l (branches (before ++ x ∷ after)) in
    let e : Edit = within [] (at_item before (add x) after) in
    let From : Branches Label → Type 0 = λ cs. LeadsIn free (many l cs) e y in
    let PlainItems : Branches Label → Type 0 = λ cs. ArePlain (bare_items cs) in
    let parts = subst PlainItems (sym same) plain in
    let count : (n : ℕ) → times n y ≡ times n (many l bs) + times n x =
    λ n. omega (arith, ap (times_in_items n) same, times-joined n before after, times-joined n before (x ∷ after)) in
    keeps-by_edit next (next + new_count new) (many l bs) y e (record { way = to_item i ∷ []; operation = add x })
    (ap (λ n. record { way = to_item n ∷ []; operation = add x }) (length-take-le i xs room))
    (subst From same (one_item l before after (add x) tt))
    (record {
      later = omega arith;
      kept = λ n h. omega (arith, count n, f.kept n h);
      drawn = λ n h. ⊎_elim (λ k. omega (arith, count n, numbered.below n h, f.drawn n h k)) (λ k. omega (arith, count n, numbered.below n h, f.none n k)) (cases_lt n (next + new_count new));
      none = λ n h. omega (arith, count n, numbered.below n (omega (arith, h)), f.none n h);
      plain = plain-joined before (x ∷ after) (plain-front before after parts) (subst IsPlain (sym f.given) plain-new, plain-back before after parts);
    })

-- an item taken out
pub keeps-item_removed : (next i : ℕ) (l : Label) (bs : Branches Label) (old : Labelled)
    → slice_get (items_in bs) i ≡ Some old → AreNumbered next (many l bs) → IsPlain (bare (many l bs))
    → Keeps next (many l bs) (part_removed (to_item i) old next (many l bs))
keeps-item_removed next i l bs old found numbered plain =
    let about : AboutItem i bs old = items-about i bs old found in
    let y : Labelled = many l (branches (about.before ++ about.after)) in
    let From : Branches Label → Type 0 = λ cs. LeadsIn free (many l cs) (within [] (at_item about.before (remove old) about.after)) y in
    let PlainItems : Branches Label → Type 0 = λ cs. ArePlain (bare_items cs) in
    let parts = subst PlainItems (sym about.all) plain in
    let count : (n : ℕ) → times n y + times n old ≡ times n (many l bs) =
    λ n. omega (arith, ap (times_in_items n) about.all, times-joined n about.before about.after, times-joined n about.before (old ∷ about.after)) in
    keeps-by_edit next next (many l bs) y (within [] (at_item about.before (remove old) about.after)) (record { way = to_item i ∷ []; operation = remove old })
    (ap (λ n. record { way = to_item n ∷ []; operation = remove old }) about.count)
    (subst From about.all (one_item l about.before about.after (remove old) tt))
    (record {
      later = omega arith;
      kept = λ n h. omega (arith, count n);
      drawn = λ n h. omega (arith, count n, numbered.below n h);
      none = λ n h. omega (arith, count n, numbered.below n h);
      plain = plain-joined about.before about.after (plain-front about.before (old ∷ about.after) parts) (plain-back about.before (old ∷ about.after) parts).1;
    })

-- Entries.

times-entries : (n : ℕ) (before after : List Entry) → times_in_entries n (entries (before ++ after)) ≡ times_in_entries n (entries before) + times_in_entries n (entries after)
times-entries n [] after = omega arith
times-entries n (e ∷ before) after = omega (arith, times-entries n before after)

-- a text comes before all keys behind those that it comes before
keys-gone : (k j : List ℕ) (before after : List Entry) (old : Labelled) → ComesBefore k (keys_of (bare_fields (entries (before ++ (j, old) ∷ after))))
    → ArePlainMembers (bare_fields (entries (before ++ (j, old) ∷ after))) → ComesBefore k (keys_of (bare_fields (entries (before ++ after))))
keys-gone k j [] [] old first plain = tt
keys-gone k j [] (e ∷ after) old first plain = key_before k j e.0 first plain.1
keys-gone k j (e ∷ before) after old first plain = first

plain-gone : (before after : List Entry) (j : List ℕ) (old : Labelled) → ArePlainMembers (bare_fields (entries (before ++ (j, old) ∷ after)))
    → ArePlainMembers (bare_fields (entries (before ++ after)))
plain-gone [] after j old plain = plain.2
plain-gone (e ∷ before) after j old plain = (plain.0, keys-gone e.0 j before after old plain.1 plain.2, plain-gone before after j old plain.2)

-- an entry taken out
pub keeps-entry_removed : (next i : ℕ) (key : List ℕ) (l : Label) (es : Entries Label) (old : Labelled)
    → slice_get (entries_in es) i ≡ Some (key, old) → AreNumbered next (keyed l es) → IsPlain (bare (keyed l es))
    → Keeps next (keyed l es) (part_removed (to_entry i key) old next (keyed l es))
keeps-entry_removed next i key l es old found numbered plain =
    let about : AboutEntry i key es old = entries-about i key es old found in
    let y : Labelled = keyed l (entries (about.before ++ about.after)) in
    let e : Edit = within [] (at_entry about.before key (remove old) about.after) in
    let From : Entries Label → Type 0 = λ cs. LeadsIn free (keyed l cs) e y in
    let PlainFields : Entries Label → Type 0 = λ cs. ArePlainMembers (bare_fields cs) in
    let count : (n : ℕ) → times n y + times n old ≡ times n (keyed l es) =
    λ n. omega (arith, ap (times_in_entries n) about.all, times-entries n about.before about.after, times-entries n about.before ((key, old) ∷ about.after)) in
    keeps-by_edit next next (keyed l es) y e (record { way = to_entry i key ∷ []; operation = remove old })
    (ap (λ n. record { way = to_entry n key ∷ []; operation = remove old }) about.count)
    (subst From about.all (one_entry l about.before about.after key (remove old) tt tt))
    (record {
      later = omega arith;
      kept = λ n h. omega (arith, count n);
      drawn = λ n h. omega (arith, count n, numbered.below n h);
      none = λ n h. omega (arith, count n, numbered.below n h);
      plain = plain-gone about.before about.after key old (subst PlainFields (sym about.all) plain);
    })

-- an entry put in
pub keeps-entry_added : (next : ℕ) (key : List ℕ) (l : Label) (es : Entries Label) (new : Template) (v : Value)
    → entry_at key (entries_in es) ≡ None → AreNumbered next (keyed l es) → IsPlain (bare (keyed l es)) → IsPlain v → IsFresh next new v
    → Keeps next (keyed l es) (part_added (to_key key (entries_in es)) new next (keyed l es))
keeps-entry_added next key l es new v none numbered plain plain-new f =
    let r : Room key es = room key es plain none in
    let x : Labelled = numbered_as next new in
    let y : Labelled = keyed l (entries (r.before ++ (key, x) ∷ r.after)) in
    let e : Edit = within [] (at_entry r.before key (add x) r.after) in
    let From : Entries Label → Type 0 = λ cs. LeadsIn free (keyed l cs) e y in
    let count : (n : ℕ) → times n y ≡ times n (keyed l es) + times n x =
    λ n. omega (arith, ap (times_in_entries n) r.all, times-entries n r.before r.after, times-entries n r.before ((key, x) ∷ r.after)) in
    keeps-by_edit next (next + new_count new) (keyed l es) y e (record { way = to_key key (entries_in es) ∷ []; operation = add x })
    (ap (λ n. record { way = to_entry n key ∷ []; operation = add x }) r.count)
    (subst From r.all (one_entry l r.before r.after key (add x) tt tt))
    (record {
      later = omega arith;
      kept = λ n h. omega (arith, count n, f.kept n h);
      drawn = λ n h. ⊎_elim (λ k. omega (arith, count n, numbered.below n h, f.drawn n h k)) (λ k. omega (arith, count n, numbered.below n h, f.none n k)) (cases_lt n (next + new_count new));
      none = λ n h. omega (arith, count n, numbered.below n (omega (arith, h)), f.none n h);
      plain = r.plain x (subst IsPlain (sym f.given) plain-new);
    })
