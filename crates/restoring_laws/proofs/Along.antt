-- What stands along a path: the way says it again, and a change at its end is a change of the whole, without labels too.
use Rattle.std.proofs.Common.{◌≡◌, ℕ, ◌<◌, List, [], ◌∷◌, ◌++◌, length, map, Bool, true, false, Option, Some, None, Result, Ok, refl, sym, ap, subst, ◌∙◌, if◌then◌else◌}
use Rattle.std.specs.Prelude.{slice_get, option_and_then, nat_lt}
use Rattle.std.specs.Option.{option_map}
use Rattle.std.proofs.lemmas.Bool.{ltb-true}
use Rattle.snap_core.specs.Value.{Value, list, dict, IsPlain}
use Rattle.snap_core.specs.Level.{Step, at_index, at_key, child, set_child}
use Rattle.pointer_core.specs.Path.{Path}
use Rattle.pointer_core.specs.Index.{index_of}
use Rattle.pointer_core.proofs.Indices.{decimal_of_index}
use Rattle.patch_core.specs.Place.{step_of, part_under, index_below}
use Rattle.patch_core.specs.Application.{edited, inside_at, changed}
use Rattle.patch_core.specs.Fits.{FitsPart, FitsAt}
use Rattle.patch_core.specs.declared.error.PatchError.{PatchError}
use Rattle.patch_core.specs.declared.patch.PatchOp.{PatchOp}
use Rattle.patch_core.proofs.Steps.{part_under-at}
use Rattle.edit_core.specs.Labelled.{Label, Labelled, Branches, Entries, leaf, many, keyed, items_in, entries_in, bare, bare_items, bare_fields}
use Rattle.edit_core.specs.Edit.{Turn, to_item}
use Rattle.edit_core.specs.Plain.{token_of}
use Rattle.edit_core.specs.Template.{entry_at}
use Rattle.edit_core.specs.Ways.{part_at, with_part}
use Rattle.tree_core.specs.Nodes.{to_key}
use Rattle.tree_core.specs.Reading.{way_along}
use Rattle.tree_core.proofs.Keys.{held}
use Rattle.tree_core.proofs.PartFacts.{plain-part}
use Rattle.tree_lists.proofs.Spots.{came, came-map, some-one}
use Rattle.restoring_laws.proofs.Levels.{item-bare, item-changed, value-bare, entry-changed}

-- an index below a bound is the token's
pub record IsIndex (bound : ℕ) (token : List ℕ) (i : ℕ) : Type 0 where
  pub is : index_of token ≡ Some i
  pub below : i < bound

pub is-index : (bound : ℕ) (token : List ℕ) (i : ℕ) → index_below bound token ≡ Some i → IsIndex bound token i
is-index bound token i h = by (index_of token) refl h where
  found : (j : ℕ) → index_of token ≡ Some j → (b : Bool) → nat_lt j bound ≡ b → (if b then Some j else None) ≡ Some i → IsIndex bound token i
  found j e true below g =
      let same : j ≡ i = some-one j i g in
      let Is : ℕ → Type 0 = λ n. IsIndex bound token n in
      subst Is same (record { is = e; below = ltb-true j bound below })
  found j e false below g = absurd (cc)

  by : (o : Option ℕ) → index_of token ≡ o → option_and_then (λ j. if nat_lt j bound then Some j else None) o ≡ Some i → IsIndex bound token i
  by (Some j) e g = found j e (nat_lt j bound) refl g
  by None e g = absurd (cc)

-- the part that a token names, without labels
pub item-under : (token : List ℕ) (i : ℕ) (bs : Branches Label) (p : Labelled) → index_of token ≡ Some i → slice_get (items_in bs) i ≡ Some p
    → part_under token (list tt (bare_items bs)) ≡ Some (bare p)
item-under token i bs p is found =
    part_under-at token (at_index i) (list tt (bare_items bs)) (bare p) (ap (option_map at_index) is) (item-bare i bs p found)

pub entry-under : (token : List ℕ) (es : Entries Label) (p : Labelled) → entry_at token (entries_in es) ≡ Some p
    → part_under token (dict tt (bare_fields es)) ≡ Some (bare p)
entry-under token es p found =
    part_under-at token (at_key token) (dict tt (bare_fields es)) (bare p) refl (value-bare token es ∙ ap (option_map bare) found)

-- one token further in
further : (op : PatchOp) (first : List ℕ) (path : Path) (token : List ℕ) (v s : Value)
    → changed op (first ∷ (path ++ token ∷ [])) v s ≡ inside_at first (changed op (path ++ token ∷ []) v) s
further op first [] token v s = refl
further op first (next ∷ path) token v s = refl

changed-in : (change : Value → Result Value PatchError) (token : List ℕ) (step : Step) (s c d : Value) → step_of token s ≡ Some step → child step s ≡ Some c
    → change c ≡ Ok d → inside_at token change s ≡ Ok (set_child step d s)
changed-in change token step s c d is found inner = rw (is, found, inner) refl

-- what fits the whole fits the part that the first token names
record FitsIn (op : PatchOp) (path : Path) (old : Option Value) (token : List ℕ) (s : Value) : Type 0 where
  part : Value
  under : part_under token s ≡ Some part
  fits : FitsAt op path old part

fits-in : (op : PatchOp) (first : List ℕ) (path : Path) (token : List ℕ) (old : Option Value) (s : Value) → FitsAt op (first ∷ (path ++ token ∷ [])) old s
    → FitsIn op (path ++ token ∷ []) old first s
fits-in op first [] token old s h = record { part = h.0; under = h.1; fits = h.2 }
fits-in op first (next ∷ path) token old s h = record { part = h.0; under = h.1; fits = h.2 }

fits-under : (op : PatchOp) (first : List ℕ) (path : Path) (token : List ℕ) (old : Option Value) (s c : Value) → part_under first s ≡ Some c
    → FitsAt op (first ∷ (path ++ token ∷ [])) old s → FitsAt op (path ++ token ∷ []) old c
fits-under op first path token old s c under h =
    let inner = fits-in op first path token old s h in
    let Fit : Value → Type 0 = λ d. FitsAt op (path ++ token ∷ []) old d in
    subst Fit (some-one inner.part c (sym inner.under ∙ under)) inner.fits

-- What holds of a way along a path, from a labelled value to the part at its end.
pub record Along (path : Path) (x : Labelled) (way : List Turn) (end : Labelled) : Type 0 where
  pub tokens : map token_of way ≡ path
  pub changes : (op : PatchOp) (token : List ℕ) (v : Value) (y : Labelled) → edited op token v (bare end) ≡ Ok (bare y)
      → changed op (path ++ token ∷ []) v (bare x) ≡ Ok (bare (with_part way y x))
  pub fits : (op : PatchOp) (token : List ℕ) (old : Option Value) → FitsAt op (path ++ token ∷ []) old (bare x) → FitsPart op token old (bare end)

along-none : (x end : Labelled) → x ≡ end → Along [] x [] end
along-none x end same =
    let At : Labelled → Type 0 = λ y. Along [] x [] y in
    subst At same (record { tokens = refl; changes = λ op token v y h. h; fits = λ op token old h. h })

along-item : (token : List ℕ) (path : Path) (l : Label) (bs : Branches Label) (i : ℕ) (p : Labelled) (way : List Turn) (end : Labelled)
    → index_of token ≡ Some i → slice_get (items_in bs) i ≡ Some p → Along path p way end → Along (token ∷ path) (many l bs) (to_item i ∷ way) end
along-item token path l bs i p way end is found inner =
    record {
      tokens = ap (λ t. t ∷ map token_of way) (sym (decimal_of_index token i is)) ∙ ap (λ ts. token ∷ ts) inner.tokens;
      changes = λ op last v y h.
          further op token path last v (list tt (bare_items bs))
          ∙ changed-in (changed op (path ++ last ∷ []) v) token (at_index i) (list tt (bare_items bs)) (bare p) (bare (with_part way y p)) (ap (option_map at_index) is) (item-bare i bs p found) (inner.changes op last v y h)
          ∙ ap (λ ps. Ok (list tt ps)) (sym (item-changed i bs p (with_part way y) found));
      fits = λ op last old h. inner.fits op last old (fits-under op token path last old (list tt (bare_items bs)) (bare p) (item-under token i bs p is found) h);
    }

along-entry : (token : List ℕ) (path : Path) (l : Label) (es : Entries Label) (p : Labelled) (way : List Turn) (end : Labelled)
    → IsPlain (bare (keyed l es)) → entry_at token (entries_in es) ≡ Some p → Along path p way end
    → Along (token ∷ path) (keyed l es) (to_key token (entries_in es) ∷ way) end
along-entry token path l es p way end plain found inner =
    record {
      tokens = ap (λ ts. token ∷ ts) inner.tokens;
      changes = λ op last v y h.
          further op token path last v (dict tt (bare_fields es))
          ∙ changed-in (changed op (path ++ last ∷ []) v) token (at_key token) (dict tt (bare_fields es)) (bare p) (bare (with_part way y p)) refl (value-bare token es ∙ ap (option_map bare) found) (inner.changes op last v y h)
          ∙ ap (λ ms. Ok (dict tt ms)) (sym (entry-changed token l es plain p (with_part way y) found));
      fits = λ op last old h. inner.fits op last old (fits-under op token path last old (dict tt (bare_fields es)) (bare p) (entry-under token es p found) h);
    }

pub along : (path : Path) (x : Labelled) (way : List Turn) (end : Labelled) → IsPlain (bare x) → way_along path x ≡ Some way → part_at way x ≡ Some end
    → Along path x way end
along [] x way end plain h g =
    let none : [] ≡ way = some-one [] way h in
    let At : List Turn → Type 0 = λ w. part_at w x ≡ Some end in
    let To : List Turn → Type 0 = λ w. Along [] x w end in
    subst To none (along-none x end (some-one x end (subst At (sym none) g)))
along (token ∷ path) (leaf v) way end plain h g = absurd (cc)
along (token ∷ path) (many l bs) way end plain h g =
    let at = came (index_below (length (items_in bs)) token) (λ i. option_and_then (λ part. option_map (λ way. to_item i ∷ way) (way_along path part)) (slice_get (items_in bs) i)) way h in
    let part = came (slice_get (items_in bs) at.of) (λ part. option_map (λ way. to_item at.of ∷ way) (way_along path part)) way at.gives in
    let rest = came-map (way_along path part.of) (λ way. to_item at.of ∷ way) way part.gives in
    let is : to_item at.of ∷ rest.of ≡ way = some-one _ way rest.gives in
    let At : List Turn → Type 0 = λ w. part_at w (many l bs) ≡ Some end in
    let To : List Turn → Type 0 = λ w. Along (token ∷ path) (many l bs) w end in
    let ends : part_at rest.of part.of ≡ Some end = sym (ap (option_and_then (part_at rest.of)) part.is) ∙ subst At (sym is) g in
    subst To is
    (along-item token path l bs at.of part.of rest.of end (is-index (length (items_in bs)) token at.of at.is).is part.is
    (along path part.of rest.of end (plain-part (to_item at.of ∷ []) (many l bs) part.of (part.of, part.is, refl) plain) rest.is ends))
along (token ∷ path) (keyed l es) way end plain h g =
    let turn : Turn = to_key token (entries_in es) in
    let part = came (entry_at token (entries_in es)) (λ part. option_map (λ way. turn ∷ way) (way_along path part)) way h in
    let rest = came-map (way_along path part.of) (λ way. turn ∷ way) way part.gives in
    let is : turn ∷ rest.of ≡ way = some-one _ way rest.gives in
    let found = held token es part.of plain part.is in
    let At : List Turn → Type 0 = λ w. part_at w (keyed l es) ≡ Some end in
    let To : List Turn → Type 0 = λ w. Along (token ∷ path) (keyed l es) w end in
    let ends : part_at rest.of part.of ≡ Some end = sym (ap (λ o. option_and_then (part_at rest.of) (option_map (λ e. e.1) o)) found) ∙ subst At (sym is) g in
    subst To is
    (along-entry token path l es part.of rest.of end plain part.is
    (along path part.of rest.of end (plain-part (turn ∷ []) (keyed l es) part.of (part.of, found, refl) plain) rest.is ends))
