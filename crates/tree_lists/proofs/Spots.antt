-- What is put back at a spot of a node keeps what changes keep, and ways along paths lead to what stands there.
use Rattle.std.proofs.Common.{◌≡◌, ℕ, ◌+◌, ◌<◌, ◌≤◌, suc, List, [], ◌∷◌, ◌++◌, length, Bool, true, false, All, Option, Some, None, option_and_then, refl, sym, ap, subst, ◌∙◌, arith, ⊎_elim, if◌then◌else◌}
use Rattle.std.specs.Prelude.{slice_get, unwrap_or, nat_lt, codes}
use Rattle.std.specs.Option.{option_map}
use Rattle.std.specs.Str.{bytes_eq}
use Rattle.std.proofs.lemmas.Bool.{cases_lt, ltb-true}
use Rattle.snap_core.specs.Value.{Value, IsPlain}
use Rattle.pointer_core.specs.Path.{Path}
use Rattle.pointer_core.specs.Index.{index_of}
use Rattle.patch_core.specs.Place.{index_below, new_index}
use Rattle.patch_core.specs.Application.{index_for}
use Rattle.patch_core.specs.declared.patch.PatchOp.{PatchOp}
use Rattle.patch_core.specs.declared.patch.PatchOp.TheVariants.{Add, Replace, Remove}
use Rattle.type_table.specs.Table.{Catalog}
use Rattle.edit_core.specs.Labelled.{Label, Labelled, Branches, Entries, leaf, many, keyed, items_in, entries_in, bare}
use Rattle.edit_core.specs.Edit.{Turn, whole, to_item, to_entry}
use Rattle.edit_core.specs.Numbers.{times, AreNumbered}
use Rattle.edit_core.specs.Template.{Template, numbered as numbered_as, new_count, entry_at}
use Rattle.edit_core.specs.Ways.{part_at}
use Rattle.edit_core.proofs.Leading.{free, replaced, no_edits, one_edit}
use Rattle.tree_core.specs.TypesTyping.{typing_of}
use Rattle.tree_core.specs.Nodes.{place_in, to_key}
use Rattle.tree_core.specs.Reading.{way_along}
use Rattle.tree_core.specs.Changed.{Changed, placed, part_removed}
use Rattle.tree_core.proofs.Moving.{Stands}
use Rattle.tree_core.proofs.PartFacts.{plain-part}
use Rattle.tree_core.proofs.Keys.{held}
use Rattle.tree_core.proofs.Keeping.{Keeps, IsFresh, fresh, keeps-placed}
use Rattle.tree_core.proofs.NodeKeeping.{keeps-item_added, keeps-item_removed, keeps-entry_added, keeps-entry_removed}
use Rattle.tree_lists.specs.Restoring.{Spot, item_spot, spot_in, Putting, new_at, replaced_by, put_in, spot_restored}

-- what is there, where something comes of it
pub record Came {A B : Type 0} (o : Option A) (f : A → Option B) (b : B) : Type 0 where
  pub of : A
  pub is : o ≡ Some of
  pub gives : f of ≡ Some b

pub came : {A B : Type 0} → (o : Option A) (f : A → Option B) (b : B) → option_and_then f o ≡ Some b → Came o f b
came (Some a) f b h = record { of = a; is = refl; gives = h }
came None f b h = absurd (cc)

pub came-map : {A B : Type 0} → (o : Option A) (f : A → B) (b : B) → option_map f o ≡ Some b → Came o (λ a. Some (f a)) b
came-map (Some a) f b h = record { of = a; is = refl; gives = h }
came-map None f b h = absurd (cc)

-- an index for an operation is at most the length
below : (bound : ℕ) (found : Option ℕ) (i : ℕ) → option_and_then (λ i. if nat_lt i bound then Some i else None) found ≡ Some i → i < bound
below bound None i h = absurd (cc)
below bound (Some j) i h = by (nat_lt j bound) refl h where
  by : (b : Bool) → nat_lt j bound ≡ b → (if b then Some j else None) ≡ Some i → i < bound
  by true e g = let same : j ≡ i = cc in omega (arith, ltb-true j bound e, same)
  by false e g = absurd (cc)

new-within : (n : ℕ) (token : List ℕ) (i : ℕ) → new_index n token ≡ Some i → i ≤ n
new-within n token i h = by (bytes_eq token (codes "-")) h where
  by : (b : Bool) → (if b then Some n else index_below (n + 1) token) ≡ Some i → i ≤ n
  by true g = let same : n ≡ i = cc in omega (arith, same)
  by false g = omega (arith, below (n + 1) (index_of token) i g)

-- another value in the place of a part
keeps-replaced : (next : ℕ) (old : Labelled) (new : Template) (v : Value) → IsPlain v → IsFresh next new v → Keeps next old (replaced_by new next old)
keeps-replaced next old new v plain f =
    let value : Labelled = numbered_as next new in
    record {
      runs = record { edits = whole old value ∷ []; logs = refl; run = one_edit old value value (whole old value) [] (replaced old value) (no_edits value) };
      later = omega arith;
      kept = λ n h. omega (arith, f.kept n h);
      drawn = λ n h. ⊎_elim (λ k. omega (arith, f.drawn n h k)) (λ k. omega (arith, f.none n k)) (cases_lt n (next + new_count new));
      none = λ n h. f.none n h;
      plain = subst IsPlain (sym f.given) plain;
    }

pub some-one : {A : Type 0} → (d e : A) → Some d ≡ Some e → d ≡ e
some-one d e g = cc

module _ (types : Catalog) (next : ℕ) (v : Value) (plain-new : IsPlain v) where
  abbrev pub by : Labelled → Putting
  by node = record { types = types; node = node; next = next }

  abbrev new : Labelled → Turn → Template
  new node turn = new_at (by node) turn v

  fresh-new : (node : Labelled) (turn : Turn) → IsFresh next (new node turn) v
  fresh-new node turn = fresh (typing_of types.table) next _ v plain-new

  -- in the place of a part that is held
  in-place : (node old : Labelled) (turn : Turn) → Stands (turn ∷ []) node old → AreNumbered next node → IsPlain (bare node)
      → Keeps next node (placed (turn ∷ []) node (replaced_by (new node turn) next old))
  in-place node old turn stands numbered plain =
      keeps-placed (turn ∷ []) next node old (replaced_by (new node turn) next old) stands numbered plain
      (keeps-replaced next old (new node turn) v plain-new (fresh-new node turn))

  -- an item
  at-item : (op : PatchOp) (l : Label) (bs : Branches Label) (i : ℕ) (token : List ℕ) → index_for op (length (items_in bs)) token ≡ Some i
      → AreNumbered next (many l bs) → IsPlain (bare (many l bs))
      → (c : Changed) → spot_restored (by (many l bs)) v op (item_spot op (items_in bs) i) ≡ Some c → Keeps next (many l bs) c
  at-item Add l bs i token index numbered plain c h =
      subst (Keeps next (many l bs)) (some-one _ c h)
      (keeps-item_added next i l bs (new (many l bs) (to_item i)) v (new-within (length (items_in bs)) token i index) numbered plain plain-new (fresh-new (many l bs) (to_item i)))
  at-item Replace l bs i token index numbered plain c h = held-item (slice_get (items_in bs) i) refl h where
    held-item : (o : Option Labelled) → slice_get (items_in bs) i ≡ o
        → option_map (λ old. put_in (by (many l bs)) (new (many l bs) (to_item i)) (to_item i) o) o ≡ Some c → Keeps next (many l bs) c
    held-item (Some old) e g = subst (Keeps next (many l bs)) (some-one _ c g) (in-place (many l bs) old (to_item i) (old, e, refl) numbered plain)
    held-item None e g = absurd (cc)
  at-item Remove l bs i token index numbered plain c h = held-item (slice_get (items_in bs) i) refl h where
    held-item : (o : Option Labelled) → slice_get (items_in bs) i ≡ o
        → option_map (λ old. part_removed (to_item i) old next (many l bs)) o ≡ Some c → Keeps next (many l bs) c
    held-item (Some old) e g = subst (Keeps next (many l bs)) (some-one _ c g) (keeps-item_removed next i l bs old e numbered plain)
    held-item None e g = absurd (cc)

  -- an entry
  at-entry : (op : PatchOp) (l : Label) (es : Entries Label) (key : List ℕ) → AreNumbered next (keyed l es) → IsPlain (bare (keyed l es))
      → (c : Changed) → spot_restored (by (keyed l es)) v op (record { turn = to_key key (entries_in es); held = entry_at key (entries_in es) }) ≡ Some c
      → Keeps next (keyed l es) c
  at-entry op l es key numbered plain c h = held-entry op (entry_at key (entries_in es)) refl h where
    turn : Turn
    turn = to_entry (place_in key (entries_in es)) key

    put : (o : Option Labelled) → entry_at key (entries_in es) ≡ o → Keeps next (keyed l es) (put_in (by (keyed l es)) (new (keyed l es) turn) turn o)
    put (Some old) e = in-place (keyed l es) old turn (old, held key es old plain e, refl) numbered plain
    put None e = keeps-entry_added next key l es (new (keyed l es) turn) v e numbered plain plain-new (fresh-new (keyed l es) turn)

    held-entry : (op : PatchOp) (o : Option Labelled) → entry_at key (entries_in es) ≡ o
        → spot_restored (by (keyed l es)) v op (record { turn = turn; held = o }) ≡ Some c → Keeps next (keyed l es) c
    held-entry Add o e g = subst (Keeps next (keyed l es)) (some-one _ c g) (put o e)
    held-entry Replace (Some old) e g = subst (Keeps next (keyed l es)) (some-one _ c g) (put (Some old) e)
    held-entry Replace None e g = absurd (cc)
    held-entry Remove (Some old) e g =
        subst (Keeps next (keyed l es)) (some-one _ c g) (keeps-entry_removed next (place_in key (entries_in es)) key l es old (held key es old plain e) numbered plain)
    held-entry Remove None e g = absurd (cc)

  -- any node
  pub at-node : (op : PatchOp) (token : List ℕ) (node : Labelled) → AreNumbered next node → IsPlain (bare node)
      → (c : Changed) → option_and_then (spot_restored (by node) v op) (spot_in op token node) ≡ Some c → Keeps next node c
  at-node op token (leaf w) numbered plain c h = absurd (cc)
  at-node op token (many l bs) numbered plain c h =
      let spot = came (option_map (item_spot op (items_in bs)) (index_for op (length (items_in bs)) token)) (spot_restored (by (many l bs)) v op) c h in
      let at = came-map (index_for op (length (items_in bs)) token) (item_spot op (items_in bs)) spot.of spot.is in
      let From : Spot → Type 0 = λ s. spot_restored (by (many l bs)) v op s ≡ Some c in
      at-item op l bs at.of token at.is numbered plain c (subst From (sym (some-one _ spot.of at.gives)) spot.gives)
  at-node op token (keyed l es) numbered plain c h = at-entry op l es token numbered plain c h

-- a way along a path leads to what stands there
pub along-stands : (path : Path) (x : Labelled) (way : List Turn) (end : Labelled) → IsPlain (bare x) → way_along path x ≡ Some way → part_at way x ≡ Some end
    → Stands way x end
along-stands [] x way end plain h g =
    let none : [] ≡ way = some-one [] way h in
    let At : List Turn → Type 0 = λ w. part_at w x ≡ Some end in
    let To : List Turn → Type 0 = λ w. Stands w x end in
    subst To none (some-one x end (subst At (sym none) g))
along-stands (token ∷ path) (leaf v) way end plain h g = absurd (cc)
along-stands (token ∷ path) (many l bs) way end plain h g =
    let at = came (index_below (length (items_in bs)) token) (λ i. option_and_then (λ part. option_map (λ way. to_item i ∷ way) (way_along path part)) (slice_get (items_in bs) i)) way h in
    let part = came (slice_get (items_in bs) at.of) (λ part. option_map (λ way. to_item at.of ∷ way) (way_along path part)) way at.gives in
    let rest = came-map (way_along path part.of) (λ way. to_item at.of ∷ way) way part.gives in
    let is : to_item at.of ∷ rest.of ≡ way = some-one _ way rest.gives in
    let At : List Turn → Type 0 = λ w. part_at w (many l bs) ≡ Some end in
    let To : List Turn → Type 0 = λ w. Stands w (many l bs) end in
    let ends : part_at rest.of part.of ≡ Some end = sym (ap (option_and_then (part_at rest.of)) part.is) ∙ subst At (sym is) g in
    subst To is (part.of, part.is, along-stands path part.of rest.of end (plain-part (to_item at.of ∷ []) (many l bs) part.of (part.of, part.is, refl) plain) rest.is ends)
along-stands (token ∷ path) (keyed l es) way end plain h g =
    let turn : Turn = to_key token (entries_in es) in
    let part = came (entry_at token (entries_in es)) (λ part. option_map (λ way. turn ∷ way) (way_along path part)) way h in
    let rest = came-map (way_along path part.of) (λ way. turn ∷ way) way part.gives in
    let is : turn ∷ rest.of ≡ way = some-one _ way rest.gives in
    let found = held token es part.of plain part.is in
    let At : List Turn → Type 0 = λ w. part_at w (keyed l es) ≡ Some end in
    let To : List Turn → Type 0 = λ w. Stands w (keyed l es) end in
    let ends : part_at rest.of part.of ≡ Some end = sym (ap (λ o. option_and_then (part_at rest.of) (option_map (λ e. e.1) o)) found) ∙ subst At (sym is) g in
    subst To is (part.of, found, along-stands path part.of rest.of end (plain-part (turn ∷ []) (keyed l es) part.of (part.of, found, refl) plain) rest.is ends)
