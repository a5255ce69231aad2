-- A change of a part, as a change of the whole: the edits lead along.
use Rattle.std.proofs.Common.{◌≡◌, ℕ, zero, suc, List, [], ◌∷◌, ◌++◌, length, map, Some, refl, sym, ap, subst, ◌∙◌}
use Rattle.std.specs.Prelude.{slice_get}
use Rattle.edit_core.specs.Labelled.{Label, Labelled, Entry, Branches, Entries, leaf, many, keyed, no_branches, branch, no_entries, entry, branches, entries, items_in, entries_in}
use Rattle.edit_core.specs.Edit.{Edit, Turn, to_item, to_entry, whole, within}
use Rattle.edit_core.specs.Around.{Around, in_array, in_record, filled, moved_out, standing_in, seen_from}
use Rattle.edit_core.specs.Application.{item_changed, entry_changed}
use Rattle.edit_core.specs.Logged.{logged}
use Rattle.edit_core.specs.Ways.{with_part}
use Rattle.edit_core.proofs.Leading.{Conditions, FineIn, RunIn}
use Rattle.edit_core.proofs.Patching.{seen-run}
use Rattle.tree_core.specs.Changed.{Changed, outward, placed}

-- a part stands at the end of a way, whose turns have the keys of what they lead to
abbrev pub Stands : List Turn → Labelled → Labelled → Type 0
Stands [] x part = x ≡ part
Stands (to_item i ∷ way) (many l bs) part = (p : Labelled) × (slice_get (items_in bs) i ≡ Some p) × Stands way p part
Stands (to_entry i key ∷ way) (keyed l es) part = (p : Labelled) × (slice_get (entries_in es) i ≡ Some (key, p)) × Stands way p part
Stands (turn ∷ way) x part = ⊥

-- the items about one, and the entries about one

pub record AboutItem (i : ℕ) (bs : Branches Label) (p : Labelled) : Type 0 where
  pub before : List Labelled
  pub after : List Labelled
  pub count : length before ≡ i
  pub all : branches (before ++ p ∷ after) ≡ bs
  pub changed : (f : Labelled → Labelled) → item_changed i f bs ≡ branches (before ++ f p ∷ after)

pub items-about : (i : ℕ) (bs : Branches Label) (p : Labelled) → slice_get (items_in bs) i ≡ Some p → AboutItem i bs p
items-about i no_branches p h = absurd (cc)
items-about zero (branch x bs) p h =
    let same : x ≡ p = cc in
    record {
      before = [];
      after = items_in bs;
      count = refl;
      all = ap (λ y. branch y (branches (items_in bs))) (sym same) ∙ ap (branch x) (in-branches bs);
      changed = λ f. ap (λ y. branch (f y) bs) same ∙ ap (branch (f p)) (sym (in-branches bs));
    } where
      in-branches : (bs : Branches Label) → branches (items_in bs) ≡ bs
      in-branches no_branches = refl
      in-branches (branch x bs) = ap (branch x) (in-branches bs)
items-about (suc i) (branch x bs) p h =
    let rest : AboutItem i bs p = items-about i bs p h in
    record {
      before = x ∷ rest.before;
      after = rest.after;
      count = ap suc rest.count;
      all = ap (branch x) rest.all;
      changed = λ f. ap (branch x) (rest.changed f);
    }

pub record AboutEntry (i : ℕ) (key : List ℕ) (es : Entries Label) (p : Labelled) : Type 0 where
  pub before : List Entry
  pub after : List Entry
  pub count : length before ≡ i
  pub all : entries (before ++ (key, p) ∷ after) ≡ es
  pub changed : (f : Labelled → Labelled) → entry_changed i f es ≡ entries (before ++ (key, f p) ∷ after)

pub in-entries : (es : Entries Label) → entries (entries_in es) ≡ es
in-entries no_entries = refl
in-entries (entry k x es) = ap (entry k x) (in-entries es)

pub entries-about : (i : ℕ) (key : List ℕ) (es : Entries Label) (p : Labelled) → slice_get (entries_in es) i ≡ Some (key, p) → AboutEntry i key es p
entries-about i key no_entries p h = absurd (cc)
entries-about zero key (entry k x es) p h =
    let pair : ◌≡◌ {A = Entry} (k, x) (key, p) = cc in
    let same_key : k ≡ key = ap (λ e. e.0) pair in
    let same : x ≡ p = ap (λ e. e.1) pair in
    record {
      before = [];
      after = entries_in es;
      count = refl;
      all = ap (λ j. entry j p (entries (entries_in es))) (sym same_key) ∙ ap (λ y. entry k y (entries (entries_in es))) (sym same) ∙ ap (entry k x) (in-entries es);
      changed = λ f. ap (λ j. entry j (f x) es) same_key ∙ ap (λ y. entry key (f y) es) same ∙ ap (entry key (f p)) (sym (in-entries es));
    }
entries-about (suc i) key (entry k x es) p h =
    let rest : AboutEntry i key es p = entries-about i key es p h in
    record {
      before = (k, x) ∷ rest.before;
      after = rest.after;
      count = ap suc rest.count;
      all = ap (entry k x) rest.all;
      changed = λ f. ap (entry k x) (rest.changed f);
    }

-- one more outside

standing-outer : (around : List Around) (a : Around) (x : Labelled) → standing_in (around ++ a ∷ []) x ≡ filled a (standing_in around x)
standing-outer [] a x = refl
standing-outer (b ∷ around) a x = standing-outer around a (filled b x)

seen-outer : (around : List Around) (a : Around) (e : Edit) → seen_from (around ++ a ∷ []) e ≡ moved_out a (seen_from around e)
seen-outer [] a e = refl
seen-outer (b ∷ around) a e = seen-outer around a (moved_out b e)

-- the turn into what is around
abbrev turn_in : Around → Turn
turn_in (in_array l before after) = to_item (length before)
turn_in (in_record l before key after) = to_entry (length before) key

logged-out : (a : Around) (e : Edit) → logged (moved_out a e) ≡ outward (turn_in a ∷ []) (logged e)
logged-out (in_array l before after) (whole old new) = refl
logged-out (in_array l before after) (within way change) = refl
logged-out (in_record l before key after) (whole old new) = refl
logged-out (in_record l before key after) (within way change) = refl

-- What is around the part at the end of a way.
pub record Standing (way : List Turn) (x part : Labelled) : Type 0 where
  pub around : List Around
  pub whole : standing_in around part ≡ x
  pub other : (y : Labelled) → with_part way y x ≡ standing_in around y
  pub moved : (e : Edit) → logged (seen_from around e) ≡ outward way (logged e)

-- one turn further out
further : (a : Around) (turn : Turn) (way : List Turn) (x p part : Labelled) → turn_in a ≡ turn → filled a p ≡ x
    → ((y : Labelled) → with_part (turn ∷ way) y x ≡ filled a (with_part way y p)) → Standing way p part → Standing (turn ∷ way) x part
further a turn way x p part same all changed inner =
    record {
      around = inner.around ++ a ∷ [];
      whole = standing-outer inner.around a part ∙ ap (filled a) inner.whole ∙ all;
      other = λ y. changed y ∙ ap (filled a) (inner.other y) ∙ sym (standing-outer inner.around a y);
      moved = λ e.
          ap logged (seen-outer inner.around a e) ∙ logged-out a (seen_from inner.around e)
          ∙ ap (outward (turn_in a ∷ [])) (inner.moved e)
          ∙ ap (λ (t : Turn). record { way = t ∷ (way ++ (logged e).way); operation = (logged e).operation }) same;
    }

pub standing : (way : List Turn) (x part : Labelled) → Stands way x part → Standing way x part
standing [] x part h = record { around = []; whole = sym h; other = λ y. refl; moved = λ e. refl }
standing (to_item i ∷ way) (many l bs) part (p, found, stands) =
    let about : AboutItem i bs p = items-about i bs p found in
    further (in_array l about.before about.after) (to_item i) way (many l bs) p part (ap to_item about.count) (ap (many l) about.all)
    (λ y. ap (many l) (about.changed (with_part way y))) (standing way p part stands)
standing (to_entry i key ∷ way) (keyed l es) part (p, found, stands) =
    let about : AboutEntry i key es p = entries-about i key es p found in
    further (in_record l about.before key about.after) (to_entry i key) way (keyed l es) p part (ap (λ n. to_entry n key) about.count) (ap (keyed l) about.all)
    (λ y. ap (keyed l) (about.changed (with_part way y))) (standing way p part stands)
standing (to_item i ∷ way) (leaf v) part h = absurd h
standing (to_item i ∷ way) (keyed l es) part h = absurd h
standing (to_entry i key ∷ way) (leaf v) part h = absurd h
standing (to_entry i key ∷ way) (many l bs) part h = absurd h

-- A change is a run of edits, where something is asked of each array and record on the way.
pub record Runs (C : Conditions) (x : Labelled) (c : Changed) : Type 0 where
  pub edits : List Edit
  pub logs : map logged edits ≡ c.edits
  pub run : RunIn C x edits c.value

map-moved : (way : List Turn) (around : List Around) (es : List Edit) → ((e : Edit) → logged (seen_from around e) ≡ outward way (logged e))
    → map logged (map (seen_from around) es) ≡ map (outward way) (map logged es)
map-moved way around [] h = refl
map-moved way around (e ∷ es) h = ap (λ l. l ∷ map logged (map (seen_from around) es)) (h e) ∙ ap (λ ls. outward way (logged e) ∷ ls) (map-moved way around es h)

pub runs-placed : (C : Conditions) (way : List Turn) (x part : Labelled) (c : Changed) → Stands way x part → FineIn C x → Runs C part c → Runs C x (placed way x c)
runs-placed C way x part c stands fine inner =
    let s : Standing way x part = standing way x part stands in
    let Fine : Labelled → Type 0 = λ y. FineIn C y in
    let From : Labelled → Type 0 = λ y. RunIn C y (map (seen_from s.around) inner.edits) (standing_in s.around c.value) in
    let To : Labelled → Type 0 = λ y. RunIn C x (map (seen_from s.around) inner.edits) y in
    record {
      edits = map (seen_from s.around) inner.edits;
      logs = map-moved way s.around inner.edits s.moved ∙ ap (map (outward way)) inner.logs;
      run = subst To (sym (s.other c.value)) (subst From s.whole (seen-run C s.around part c.value inner.edits (subst Fine (sym s.whole) fine) inner.run));
    }
