-- What a patch that is put back makes of an array.
use Rattle.std.proofs.Common.{◌≡◌, ℕ, List, [], ◌∷◌, length, Option, Some, None, Result, Ok, decimal, refl, sym, ap, subst, ◌∙◌}
use Rattle.std.specs.Prelude.{slice_get, option_and_then}
use Rattle.std.specs.Option.{option_map}
use Rattle.snap_core.specs.Value.{Value, list, Items, IsPlain}
use Rattle.snap_core.specs.Level.{at_index, set_item, insert_item}
use Rattle.snap_core.specs.Unview.{snap_of}
use Rattle.pointer_core.specs.Path.{Path}
use Rattle.pointer_core.specs.Index.{index_of}
use Rattle.pointer_core.proofs.Indices.{decimal_of_index}
use Rattle.patch_core.specs.Application.{outcome_map, index_for, with_index, items_changed, edited}
use Rattle.patch_core.specs.declared.error.PatchError.{PatchError}
use Rattle.patch_core.specs.declared.patch.PatchOp.{PatchOp}
use Rattle.patch_core.specs.declared.patch.PatchOp.TheVariants.{Add, Replace, Remove}
use Rattle.patch_core.specs.declared.patch.Patch.{Patch}
use Rattle.patch_core.specs.Fits.{FitsPart}
use Rattle.type_table.specs.Table.{Catalog}
use Rattle.edit_core.specs.Labelled.{Label, Labelled, Branches, many, items_in, bare, bare_items}
use Rattle.edit_core.specs.Edit.{add, remove, replace, to_item}
use Rattle.edit_core.specs.Template.{numbered}
use Rattle.edit_core.specs.Ways.{with_part}
use Rattle.tree_core.specs.Changed.{Changed, placed, part_added, part_removed}
use Rattle.tree_lists.specs.Restoring.{Putting, item_spot, spot_in, new_at, replaced_by, put_in, spot_restored}
use Rattle.tree_lists.proofs.Spots.{came, came-map, some-one}
use Rattle.restoring_laws.proofs.Levels.{count-bare, item-changed, item-put, item-cut}
use Rattle.restoring_laws.proofs.Along.{is-index, item-under}
use Rattle.restoring_laws.proofs.Told.{IsTold, Makes}
use Rattle.restoring_laws.proofs.NewParts.{given, IsNewIndex, new-index}

module _ (types : Catalog) (next : ℕ) (v : Value) (plain : IsPlain v) (l : Label) (bs : Branches Label) where
  abbrev by : Putting
  by = record { types = types; node = many l bs; next = next }

  abbrev new : ℕ → Labelled
  new i = numbered next (new_at by (to_item i) v)

  given-new : (i : ℕ) → bare (new i) ≡ v
  given-new i = given by (to_item i) v plain

  edited-at : (op : PatchOp) (token : List ℕ) (i : ℕ) → index_for op (length (items_in bs)) token ≡ Some i
      → edited op token v (bare (many l bs)) ≡ Ok (list tt (items_changed op i v (bare_items bs)))
  edited-at op token i index =
      let After : Option ℕ → Result Value PatchError = λ o. outcome_map (list tt) (with_index (λ j. items_changed op j v (bare_items bs)) o) in
      ap (λ n. After (index_for op n token)) (count-bare bs) ∙ ap After index

  added : (token : List ℕ) (i : ℕ) → index_for Add (length (items_in bs)) token ≡ Some i
      → Makes Add token v (many l bs) (part_added (to_item i) (new_at by (to_item i) v) next (many l bs))
  added token i index =
      let at : IsNewIndex (length (items_in bs)) token i = new-index (length (items_in bs)) token i index in
      let After : Value → Result Value PatchError = λ w. Ok (list tt (insert_item i w (bare_items bs))) in
      record {
        value = edited-at Add token i index ∙ ap After (sym (given-new i)) ∙ ap Ok (sym (item-put i l bs (new i) at.within));
        single = refl;
        logged = λ old fits.
            let named = came-map (index_of token) at_index fits.0 fits.1 in
            let With : Path → Value → Patch = λ path w. record { op = Add; path = path; value = Some (snap_of w); old = None } in
            record {
              turn = to_item i;
              operation = add (new i);
              edits = refl;
              leads = sym (decimal_of_index token i (at.is named.of named.is));
              patch = λ path. ap (With path) (given-new i);
            };
      }

  replaced : (token : List ℕ) (i : ℕ) (held : Labelled) → index_for Replace (length (items_in bs)) token ≡ Some i → slice_get (items_in bs) i ≡ Some held
      → Makes Replace token v (many l bs) (placed (to_item i ∷ []) (many l bs) (replaced_by (new_at by (to_item i) v) next held))
  replaced token i held index found =
      let at = is-index (length (items_in bs)) token i index in
      let After : Value → Result Value PatchError = λ w. Ok (list tt (set_item i w (bare_items bs))) in
      let Whole : Items → Result Value PatchError = λ ps. Ok (list tt ps) in
      record {
        value = edited-at Replace token i index ∙ ap After (sym (given-new i)) ∙ ap Whole (sym (item-changed i bs held (with_part [] (new i)) found));
        single = refl;
        logged = λ old fits. is-told old fits (item-under token i bs held at.is found) (sym (decimal_of_index token i at.is));
      } where
        is-told : (old : Option Value) → FitsPart Replace token old (list tt (bare_items bs)) → FitsPart Replace token (Some (bare held)) (list tt (bare_items bs))
            → decimal i ≡ token → IsTold Replace token v old (placed (to_item i ∷ []) (many l bs) (replaced_by (new_at by (to_item i) v) next held))
        is-told None fits stands leads = absurd fits
        is-told (Some o) fits stands leads =
            let same : bare held ≡ o = some-one (bare held) o (sym stands ∙ fits) in
            let New : Path → Value → Patch = λ path w. record { op = Replace; path = path; value = Some (snap_of w); old = Some (snap_of (bare held)) } in
            let Old : Path → Value → Patch = λ path w. record { op = Replace; path = path; value = Some (snap_of v); old = Some (snap_of w) } in
            record { turn = to_item i; operation = replace held (new i); edits = refl; leads = leads; patch = λ path. ap (New path) (given-new i) ∙ ap (Old path) same }

  removed : (token : List ℕ) (i : ℕ) (held : Labelled) → index_for Remove (length (items_in bs)) token ≡ Some i → slice_get (items_in bs) i ≡ Some held
      → Makes Remove token v (many l bs) (part_removed (to_item i) held next (many l bs))
  removed token i held index found =
      let at = is-index (length (items_in bs)) token i index in
      record {
        value = edited-at Remove token i index ∙ ap Ok (sym (item-cut i l bs held found));
        single = refl;
        logged = λ old fits. is-told old fits (item-under token i bs held at.is found) (sym (decimal_of_index token i at.is));
      } where
        is-told : (old : Option Value) → FitsPart Remove token old (list tt (bare_items bs)) → FitsPart Remove token (Some (bare held)) (list tt (bare_items bs))
            → decimal i ≡ token → IsTold Remove token v old (part_removed (to_item i) held next (many l bs))
        is-told None fits stands leads = absurd fits
        is-told (Some o) fits stands leads =
            let same : bare held ≡ o = some-one (bare held) o (sym stands ∙ fits) in
            let Old : Path → Value → Patch = λ path w. record { op = Remove; path = path; value = None; old = Some (snap_of w) } in
            record { turn = to_item i; operation = remove held; edits = refl; leads = leads; patch = λ path. ap (Old path) same }

  at-spot : (op : PatchOp) (token : List ℕ) (i : ℕ) → index_for op (length (items_in bs)) token ≡ Some i
      → (c : Changed) → spot_restored by v op (item_spot op (items_in bs) i) ≡ Some c → Makes op token v (many l bs) c
  at-spot Add token i index c h = subst (Makes Add token v (many l bs)) (some-one _ c h) (added token i index)
  at-spot Replace token i index c h = held-item (slice_get (items_in bs) i) refl h where
    held-item : (o : Option Labelled) → slice_get (items_in bs) i ≡ o
        → option_map (λ old. put_in by (new_at by (to_item i) v) (to_item i) o) o ≡ Some c → Makes Replace token v (many l bs) c
    held-item (Some old) e g = subst (Makes Replace token v (many l bs)) (some-one _ c g) (replaced token i old index e)
    held-item None e g = absurd (cc)
  at-spot Remove token i index c h = held-item (slice_get (items_in bs) i) refl h where
    held-item : (o : Option Labelled) → slice_get (items_in bs) i ≡ o → option_map (λ old. part_removed (to_item i) old next (many l bs)) o ≡ Some c → Makes Remove token v (many l bs) c
    held-item (Some old) e g = subst (Makes Remove token v (many l bs)) (some-one _ c g) (removed token i old index e)
    held-item None e g = absurd (cc)

  pub array-made : (op : PatchOp) (token : List ℕ) (c : Changed)
      → option_and_then (spot_restored (record { types = types; node = many l bs; next = next }) v op) (spot_in op token (many l bs)) ≡ Some c → Makes op token v (many l bs) c
  array-made op token c h =
      let spot = came (option_map (item_spot op (items_in bs)) (index_for op (length (items_in bs)) token)) (spot_restored by v op) c h in
      let at = came-map (index_for op (length (items_in bs)) token) (item_spot op (items_in bs)) spot.of spot.is in
      at-spot op token at.of at.is c (ap (spot_restored by v op) (some-one _ spot.of at.gives) ∙ spot.gives)
