-- Values that are set, and parts that are put in and taken out, go: their edits lead where each place has a path.
use Rattle.std.proofs.Common.{◌≡◌, ℕ, ◌+◌, ◌<◌, ◌≤◌, ◌^◌, suc, List, [], ◌∷◌, ◌++◌, length, take, drop, Bool, true, false, Some, None, refl, sym, ap, subst, ◌∙◌, arith, length-append, if◌then◌else◌}
use Rattle.std.specs.Prelude.{slice_get, IsTrue}
use Rattle.std.proofs.lemmas.List.{take-append-drop, length-take-le}
use Rattle.snap_core.specs.Value.{Value, IsPlain, IsOrdered, ArePlainMembers}
use Rattle.snap_core.proofs.PlainLevels.{IsOrdered-of, AreOrderedMembers-of}
use Rattle.type_core.specs.Making.{is_within}
use Rattle.edit_core.specs.Labelled.{Label, Labelled, many, keyed, Branches, Entries, no_branches, branch, branches, entries, items_in, entries_in, bare, bare_fields}
use Rattle.edit_core.specs.Edit.{Edit, Turn, add, remove, to_item, to_entry, within, at_item, at_entry}
use Rattle.edit_core.specs.Typing.{Typing, seen}
use Rattle.edit_core.specs.Matching.{by_first, same_item}
use Rattle.edit_core.specs.Template.{Template, template, numbered as numbered_as, new_count, entry_at}
use Rattle.edit_core.specs.Between.{edits_between}
use Rattle.edit_core.specs.Reconciling.{Setting, written_as, reconciled}
use Rattle.edit_core.specs.Logged.{LoggedEdit, logged, after_logged}
use Rattle.edit_core.proofs.Ascending.{Ascend, ascend-fewer, spelled}
use Rattle.edit_core.proofs.Bare.{bare-numbered, bare-template}
use Rattle.edit_core.proofs.Between.{between-runs_in}
use Rattle.edit_core.proofs.Leading.{FineIn, FineItems, FineEntries, LeadsIn, one_item, one_entry, one_edit, no_edits, leads-in}
use Rattle.edit_core.proofs.Logged.{items-in, entries-in, logged-after}
use Rattle.edit_core.proofs.Patching.{ascend-plain}
use Rattle.tree_core.specs.Nodes.{to_key}
use Rattle.tree_core.specs.Changed.{Changed, placed, as_changed, value_set, one_item_set, by_edit, part_added, part_removed}
use Rattle.tree_core.proofs.Moving.{Stands, Runs, runs-placed, AboutItem, items-about, AboutEntry, entries-about}
use Rattle.tree_core.proofs.Keys.{Room, room}
use Rattle.tree_laws.proofs.Bounds.{bounded, fine-more, fine-spelled, fine-within}
use Rattle.tree_laws.proofs.PartFine.{fine-front, fine-back, fine-both, fine-front_entries, fine-back_entries, fine-both_entries, fine-with_part}

-- A change of a value whose arrays have no more than so many items: its edits run, and arrays have one more at most.
pub record Goes (n : ℕ) (x : Labelled) (c : Changed) : Type 0 where
  pub runs : Runs spelled x c
  pub fine : FineIn (bounded (suc n)) c.value

-- a bound that leaves room for what is made, and for one more
pub record IsBound (n : ℕ) : Type 0 where
  pub least : 1048576 ≤ n
  pub most : suc n < 2 ^ 32

module _ (n : ℕ) (bound : IsBound n) where
  spelled-of : (x : Labelled) → FineIn (bounded n) x → FineIn spelled x
  spelled-of x fine = fine-spelled n (omega (arith, bound.most)) x fine

  one-more : (x : Labelled) → FineIn (bounded n) x → FineIn (bounded (suc n)) x
  one-more x fine = fine-more n (suc n) (omega arith) x fine

  -- what is made is fine
  pub fine-made : (x : Labelled) (v : Value) → bare x ≡ v → IsPlain v → IsTrue (is_within v) → FineIn (bounded n) x
  fine-made x v same plain light =
      let Ordered : Value → Type 0 = λ w. IsOrdered w in
      let Within : Value → Type 0 = λ w. IsTrue (is_within w) in
      fine-more 1048576 n bound.least x (fine-within x (subst Ordered (sym same) (IsOrdered-of v plain)) (subst Within (sym same) light))

  -- a value in the place of another
  goes-written : (next : ℕ) (x : Labelled) (new : Template) (v : Value) → bare new ≡ v → FineIn (bounded n) x → IsPlain v → IsTrue (is_within v)
      → Goes n x (as_changed (written_as next x new))
  goes-written next x new v same fine plain light =
      let y : Labelled = numbered_as next new in
      let fine-new : FineIn (bounded n) y = fine-made y v (bare-numbered next new ∙ same) plain light in
      record {
        runs = record { edits = edits_between x y; logs = refl; run = between-runs_in spelled x y (spelled-of x fine) (spelled-of y fine-new) };
        fine = one-more y fine-new;
      }

  pub goes-set : (typing : Typing) (s : Setting) → FineIn (bounded n) s.old → IsPlain s.new → IsTrue (is_within s.new) → Goes n s.old (value_set typing s)
  goes-set typing s fine plain light =
      goes-written s.next s.old (template (by_first typing) s.type (Some s.old) s.new) s.new
      (bare-template (by_first typing) s.type (Some s.old) s.new) fine plain light

  pub goes-item_set : (typing : Typing) (s : Setting) → FineIn (bounded n) s.old → IsPlain s.new → IsTrue (is_within s.new) → Goes n s.old (one_item_set typing s)
  goes-item_set typing s fine plain light = by (same_item typing s.type (seen s.old) s.new) where
    new : Template
    new = template (by_first typing) s.type None s.new

    by : (b : Bool) → Goes n s.old (as_changed (if b then reconciled (by_first typing) s else written_as s.next s.old new))
    by true = goes-set typing s fine plain light
    by false = goes-written s.next s.old new s.new (bare-template (by_first typing) s.type None s.new) fine plain light

  -- a changed part, seen as a change of the whole
  pub goes-placed : (way : List Turn) (x part : Labelled) (c : Changed) → Stands way x part → FineIn (bounded n) x → Goes n part c → Goes n x (placed way x c)
  goes-placed way x part c stands fine goes =
      record {
        runs = runs-placed spelled way x part c stands (spelled-of x fine) goes.runs;
        fine = fine-with_part (bounded (suc n)) way x part c.value stands (one-more x fine) goes.fine;
      }

  -- one edit
  goes-by_edit : (after : ℕ) (x y : Labelled) (e : Edit) (l : LoggedEdit) → logged e ≡ l → LeadsIn spelled x e y → FineIn (bounded (suc n)) y → Goes n x (by_edit l after x)
  goes-by_edit after x y e l same lead fine =
      let value : after_logged l x ≡ y = ap (λ k. after_logged k x) (sym same) ∙ logged-after x y e (leads-in spelled x y e lead) in
      let To : Labelled → Type 0 = λ z. LeadsIn spelled x e z in
      let Fine : Labelled → Type 0 = λ z. FineIn (bounded (suc n)) z in
      record {
        runs = record {
          edits = e ∷ [];
          logs = ap (λ k. k ∷ []) same;
          run = one_edit x (after_logged l x) (after_logged l x) e [] (subst To (sym value) lead) (no_edits (after_logged l x));
        };
        fine = subst Fine (sym value) fine;
      }

  in-branches : (bs : Branches Label) → branches (items_in bs) ≡ bs
  in-branches no_branches = refl
  in-branches (branch x bs) = ap (branch x) (in-branches bs)

  -- an item put in
  pub goes-item_added : (next i : ℕ) (l : Label) (bs : Branches Label) (new : Template) (v : Value) → i ≤ length (items_in bs) → bare new ≡ v
      → FineIn (bounded n) (many l bs) → IsPlain v → IsTrue (is_within v) → Goes n (many l bs) (part_added (to_item i) new next (many l bs))
  goes-item_added next i l bs new v place given fine plain light =
      let xs : List Labelled = items_in bs in
      let x : Labelled = numbered_as next new in
      let before : List Labelled = take i xs in
      let after : List Labelled = drop i xs in
      let same : branches (before ++ after) ≡ bs = ap branches (take-append-drop i xs) ∙ in-branches bs in
      let count : length before ≡ i = length-take-le i xs place in
      let all : length (before ++ after) ≡ length xs = ap length (take-append-drop i xs) in
      let From : Branches Label → Type 0 = λ cs. LeadsIn spelled (many l cs) (within [] (at_item before (add x) after)) (many l (branches (before ++ x ∷ after))) in
      let Items : Branches Label → Type 0 = λ cs. FineItems (bounded (suc n)) cs in
      let parts = subst Items (sym same) (one-more (many l bs) fine).1 in
      let Counted : List Labelled → Type 0 = λ ys. length ys ≤ suc n in
      let few : length (before ++ x ∷ after) ≤ suc n = omega (arith, length-append before (x ∷ after), length-append before after, all, fine.0) in
      let start : length before < 2 ^ 32 = omega (arith, count, place, fine.0, bound.most) in
      goes-by_edit (next + new_count new) (many l bs) (many l (branches (before ++ x ∷ after))) (within [] (at_item before (add x) after)) (record { way = to_item i ∷ []; operation = add x })
      (ap (λ m. record { way = to_item m ∷ []; operation = add x }) count)
      (subst From same (one_item l before after (add x) start)) (
        subst Counted (sym (items-in (before ++ x ∷ after))) few,
        fine-both (bounded (suc n)) before (x ∷ after) (fine-front (bounded (suc n)) before after parts)
            (one-more x (fine-made x v (bare-numbered next new ∙ given) plain light), fine-back (bounded (suc n)) before after parts),
      )

  -- an item taken out
  pub goes-item_removed : (next i : ℕ) (l : Label) (bs : Branches Label) (old : Labelled) → slice_get (items_in bs) i ≡ Some old
      → FineIn (bounded n) (many l bs) → Goes n (many l bs) (part_removed (to_item i) old next (many l bs))
  goes-item_removed next i l bs old found fine =
      let about : AboutItem i bs old = items-about i bs old found in
      let From : Branches Label → Type 0 = λ cs. LeadsIn spelled (many l cs) (within [] (at_item about.before (remove old) about.after)) (many l (branches (about.before ++ about.after))) in
      let Items : Branches Label → Type 0 = λ cs. FineItems (bounded (suc n)) cs in
      let parts = subst Items (sym about.all) (one-more (many l bs) fine).1 in
      let Counted : List Labelled → Type 0 = λ ys. length ys ≤ suc n in
      let all : length (about.before ++ old ∷ about.after) ≡ length (items_in bs) = ap length (sym (items-in (about.before ++ old ∷ about.after)) ∙ ap items_in about.all) in
      let few : length (about.before ++ about.after) ≤ suc n = omega (arith, length-append about.before (old ∷ about.after), length-append about.before about.after, all, fine.0) in
      let start : length about.before < 2 ^ 32 = omega (arith, length-append about.before (old ∷ about.after), all, fine.0, bound.most) in
      goes-by_edit next (many l bs) (many l (branches (about.before ++ about.after))) (within [] (at_item about.before (remove old) about.after)) (record { way = to_item i ∷ []; operation = remove old })
      (ap (λ m. record { way = to_item m ∷ []; operation = remove old }) about.count)
      (subst From about.all (one_item l about.before about.after (remove old) start)) (
        subst Counted (sym (items-in (about.before ++ about.after))) few,
        fine-both (bounded (suc n)) about.before about.after (fine-front (bounded (suc n)) about.before (old ∷ about.after) parts)
            (fine-back (bounded (suc n)) about.before (old ∷ about.after) parts).1,
      )

  -- an entry taken out
  pub goes-entry_removed : (next i : ℕ) (key : List ℕ) (l : Label) (es : Entries Label) (old : Labelled) → slice_get (entries_in es) i ≡ Some (key, old)
      → FineIn (bounded n) (keyed l es) → Goes n (keyed l es) (part_removed (to_entry i key) old next (keyed l es))
  goes-entry_removed next i key l es old found fine =
      let about : AboutEntry i key es old = entries-about i key es old found in
      let From : Entries Label → Type 0 = λ cs. LeadsIn spelled (keyed l cs) (within [] (at_entry about.before key (remove old) about.after)) (keyed l (entries (about.before ++ about.after))) in
      let Fields : Entries Label → Type 0 = λ cs. FineEntries (bounded (suc n)) cs in
      let parts = subst Fields (sym about.all) (one-more (keyed l es) fine).1 in
      let all : entries_in es ≡ about.before ++ (key, old) ∷ about.after = ap entries_in (sym about.all) ∙ entries-in (about.before ++ (key, old) ∷ about.after) in
      let keys : Ascend (about.before ++ (key, old) ∷ about.after) = subst Ascend all fine.0 in
      let left : Ascend (about.before ++ about.after) = ascend-fewer about.before ((key, old) ∷ []) about.after keys in
      goes-by_edit next (keyed l es) (keyed l (entries (about.before ++ about.after))) (within [] (at_entry about.before key (remove old) about.after)) (record { way = to_entry i key ∷ []; operation = remove old })
      (ap (λ m. record { way = to_entry m key ∷ []; operation = remove old }) about.count)
      (subst From about.all (one_entry l about.before about.after key (remove old) keys left)) (
        subst Ascend (sym (entries-in (about.before ++ about.after))) left,
        fine-both_entries (bounded (suc n)) about.before about.after (fine-front_entries (bounded (suc n)) about.before ((key, old) ∷ about.after) parts)
            (fine-back_entries (bounded (suc n)) about.before ((key, old) ∷ about.after) parts).1,
      )

  -- an entry put in
  pub goes-entry_added : (next : ℕ) (key : List ℕ) (l : Label) (es : Entries Label) (new : Template) (v : Value) → entry_at key (entries_in es) ≡ None → bare new ≡ v
      → IsPlain (bare (keyed l es)) → FineIn (bounded n) (keyed l es) → IsPlain v → IsTrue (is_within v)
      → Goes n (keyed l es) (part_added (to_key key (entries_in es)) new next (keyed l es))
  goes-entry_added next key l es new v none given plain-es fine plain light =
      let r : Room key es = room key es plain-es none in
      let x : Labelled = numbered_as next new in
      let From : Entries Label → Type 0 = λ cs. LeadsIn spelled (keyed l cs) (within [] (at_entry r.before key (add x) r.after)) (keyed l (entries (r.before ++ (key, x) ∷ r.after))) in
      let Fields : Entries Label → Type 0 = λ cs. FineEntries (bounded (suc n)) cs in
      let parts = subst Fields (sym r.all) (one-more (keyed l es) fine).1 in
      let bare-x : bare x ≡ v = bare-numbered next new ∙ given in
      let all-new : ArePlainMembers (bare_fields (entries (r.before ++ (key, x) ∷ r.after))) = r.plain x (subst IsPlain (sym bare-x) plain) in
      let keys : Ascend (r.before ++ (key, x) ∷ r.after) =
      subst Ascend (entries-in (r.before ++ (key, x) ∷ r.after)) (ascend-plain (entries (r.before ++ (key, x) ∷ r.after)) (AreOrderedMembers-of _ all-new)) in
      let left : Ascend (r.before ++ r.after) = ascend-fewer r.before ((key, x) ∷ []) r.after keys in
      goes-by_edit (next + new_count new) (keyed l es) (keyed l (entries (r.before ++ (key, x) ∷ r.after))) (within [] (at_entry r.before key (add x) r.after)) (record { way = to_key key (entries_in es) ∷ []; operation = add x })
      (ap (λ m. record { way = to_entry m key ∷ []; operation = add x }) r.count)
      (subst From r.all (one_entry l r.before r.after key (add x) left keys)) (
        subst Ascend (sym (entries-in (r.before ++ (key, x) ∷ r.after))) keys,
        fine-both_entries (bounded (suc n)) r.before ((key, x) ∷ r.after) (fine-front_entries (bounded (suc n)) r.before r.after parts)
            (one-more x (fine-made x v bare-x plain light), fine-back_entries (bounded (suc n)) r.before r.after parts),
      )
