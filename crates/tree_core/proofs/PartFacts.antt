-- What another part leaves of the whole: how often each number stands, and that the value is plain.
use Rattle.std.proofs.Common.{◌≡◌, ℕ, ◌+◌, zero, suc, List, [], ◌∷◌, Some, refl, sym, ap, subst, arith}
use Rattle.std.specs.Prelude.{slice_get}
use Rattle.snap_core.specs.Value.{IsPlain, ArePlain, ArePlainMembers, ComesBefore, keys_of}
use Rattle.edit_core.specs.Labelled.{Label, Labelled, Entry, Branches, Entries, leaf, many, keyed, no_branches, branch, no_entries, entry, items_in, entries_in, bare, bare_items, bare_fields}
use Rattle.edit_core.specs.Edit.{Turn, to_item, to_entry}
use Rattle.edit_core.specs.Application.{item_changed, entry_changed}
use Rattle.edit_core.specs.Numbers.{times, times_in_items, times_in_entries}
use Rattle.edit_core.specs.Ways.{with_part}
use Rattle.tree_core.proofs.Moving.{Stands}

-- how often a number stands
item-times : (n i : ℕ) (bs : Branches Label) (p : Labelled) (f : Labelled → Labelled) → slice_get (items_in bs) i ≡ Some p
    → times_in_items n (item_changed i f bs) + times n p ≡ times_in_items n bs + times n (f p)
item-times n i no_branches p f h = absurd (cc)
item-times n zero (branch x bs) p f h =
    let same : x ≡ p = cc in
    omega (arith, ap (times n) same, ap (λ y. times n (f y)) same)
item-times n (suc i) (branch x bs) p f h = omega (arith, item-times n i bs p f h)

entry-times : (n i : ℕ) (key : List ℕ) (es : Entries Label) (p : Labelled) (f : Labelled → Labelled) → slice_get (entries_in es) i ≡ Some (key, p)
    → times_in_entries n (entry_changed i f es) + times n p ≡ times_in_entries n es + times n (f p)
entry-times n i key no_entries p f h = absurd (cc)
entry-times n zero key (entry k x es) p f h =
    let pair : ◌≡◌ {A = Entry} (k, x) (key, p) = cc in let same : x ≡ p = ap (λ e. e.1) pair in
    omega (arith, ap (times n) same, ap (λ y. times n (f y)) same)
entry-times n (suc i) key (entry k x es) p f h = omega (arith, entry-times n i key es p f h)

pub part-times : (n : ℕ) (way : List Turn) (x part y : Labelled) → Stands way x part
    → times n (with_part way y x) + times n part ≡ times n x + times n y
part-times n [] x part y h = omega (arith, ap (times n) h)
part-times n (to_item i ∷ way) (many l bs) part y (p, found, stands) =
    omega (arith, item-times n i bs p (with_part way y) found, part-times n way p part y stands)
part-times n (to_entry i key ∷ way) (keyed l es) part y (p, found, stands) =
    omega (arith, entry-times n i key es p (with_part way y) found, part-times n way p part y stands)
part-times n (to_item i ∷ way) (leaf v) part y h = absurd h
part-times n (to_item i ∷ way) (keyed l es) part y h = absurd h
part-times n (to_entry i key ∷ way) (leaf v) part y h = absurd h
part-times n (to_entry i key ∷ way) (many l bs) part y h = absurd h

-- plain values
item-plain : (i : ℕ) (bs : Branches Label) (p : Labelled) (f : Labelled → Labelled) → slice_get (items_in bs) i ≡ Some p
    → ArePlain (bare_items bs) → (IsPlain (bare p) → IsPlain (bare (f p))) → ArePlain (bare_items (item_changed i f bs))
item-plain i no_branches p f h plain other = absurd (cc)
item-plain zero (branch x bs) p f h plain other =
    let same : x ≡ p = cc in
    let P : Labelled → Type 0 = λ y. IsPlain (bare (f y)) in
    let Q : Labelled → Type 0 = λ y. IsPlain (bare y) in
    (subst P (sym same) (other (subst Q same plain.0)), plain.1)
item-plain (suc i) (branch x bs) p f h plain other = (plain.0, item-plain i bs p f h plain.1 other)

entry-keys : (i : ℕ) (es : Entries Label) (f : Labelled → Labelled) → keys_of (bare_fields (entry_changed i f es)) ≡ keys_of (bare_fields es)
entry-keys i no_entries f = refl
entry-keys zero (entry k x es) f = refl
entry-keys (suc i) (entry k x es) f = ap (λ ks. k ∷ ks) (entry-keys i es f)

entry-plain : (i : ℕ) (key : List ℕ) (es : Entries Label) (p : Labelled) (f : Labelled → Labelled) → slice_get (entries_in es) i ≡ Some (key, p)
    → ArePlainMembers (bare_fields es) → (IsPlain (bare p) → IsPlain (bare (f p))) → ArePlainMembers (bare_fields (entry_changed i f es))
entry-plain i key no_entries p f h plain other = absurd (cc)
entry-plain zero key (entry k x es) p f h plain other =
    let pair : ◌≡◌ {A = Entry} (k, x) (key, p) = cc in let same : x ≡ p = ap (λ e. e.1) pair in
    let P : Labelled → Type 0 = λ y. IsPlain (bare (f y)) in
    let Q : Labelled → Type 0 = λ y. IsPlain (bare y) in
    (subst P (sym same) (other (subst Q same plain.0)), plain.1, plain.2)
entry-plain (suc i) key (entry k x es) p f h plain other =
    let P : List (List ℕ) → Type 0 = λ ks. ComesBefore k ks in
    (plain.0, subst P (sym (entry-keys i es f)) plain.1, entry-plain i key es p f h plain.2 other)

pub part-plain : (way : List Turn) (x part y : Labelled) → Stands way x part → IsPlain (bare x) → IsPlain (bare y) → IsPlain (bare (with_part way y x))
part-plain [] x part y h plain other = other
part-plain (to_item i ∷ way) (many l bs) part y (p, found, stands) plain other =
    item-plain i bs p (with_part way y) found plain (λ inner. part-plain way p part y stands inner other)
part-plain (to_entry i key ∷ way) (keyed l es) part y (p, found, stands) plain other =
    entry-plain i key es p (with_part way y) found plain (λ inner. part-plain way p part y stands inner other)
part-plain (to_item i ∷ way) (leaf v) part y h plain other = absurd h
part-plain (to_item i ∷ way) (keyed l es) part y h plain other = absurd h
part-plain (to_entry i key ∷ way) (leaf v) part y h plain other = absurd h
part-plain (to_entry i key ∷ way) (many l bs) part y h plain other = absurd h

-- a part of a plain value
item-inner : (i : ℕ) (bs : Branches Label) (p : Labelled) → slice_get (items_in bs) i ≡ Some p → ArePlain (bare_items bs) → IsPlain (bare p)
item-inner i no_branches p h plain = absurd (cc)
item-inner zero (branch x bs) p h plain = let same : x ≡ p = cc in let P : Labelled → Type 0 = λ y. IsPlain (bare y) in subst P same plain.0
item-inner (suc i) (branch x bs) p h plain = item-inner i bs p h plain.1

entry-inner : (i : ℕ) (key : List ℕ) (es : Entries Label) (p : Labelled) → slice_get (entries_in es) i ≡ Some (key, p) → ArePlainMembers (bare_fields es) → IsPlain (bare p)
entry-inner i key no_entries p h plain = absurd (cc)
entry-inner zero key (entry k x es) p h plain = let pair : ◌≡◌ {A = Entry} (k, x) (key, p) = cc in let same : x ≡ p = ap (λ e. e.1) pair in let P : Labelled → Type 0 = λ y. IsPlain (bare y) in subst P same plain.0
entry-inner (suc i) key (entry k x es) p h plain = entry-inner i key es p h plain.2

pub plain-part : (way : List Turn) (x part : Labelled) → Stands way x part → IsPlain (bare x) → IsPlain (bare part)
plain-part [] x part h plain = let P : Labelled → Type 0 = λ y. IsPlain (bare y) in subst P h plain
plain-part (to_item i ∷ way) (many l bs) part (p, found, stands) plain = plain-part way p part stands (item-inner i bs p found plain)
plain-part (to_entry i key ∷ way) (keyed l es) part (p, found, stands) plain = plain-part way p part stands (entry-inner i key es p found plain)
plain-part (to_item i ∷ way) (leaf v) part h plain = absurd h
plain-part (to_item i ∷ way) (keyed l es) part h plain = absurd h
plain-part (to_entry i key ∷ way) (leaf v) part h plain = absurd h
plain-part (to_entry i key ∷ way) (many l bs) part h plain = absurd h
