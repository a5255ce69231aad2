-- What a patch that is put back makes of a model or a map.
use Rattle.std.proofs.Common.{◌≡◌, ℕ, List, [], ◌∷◌, Option, Some, None, Result, Ok, Err, refl, sym, ap, subst, ◌∙◌}
use Rattle.std.specs.Prelude.{option_and_then, is_some, if◌then◌else◌}
use Rattle.std.specs.Option.{option_map}
use Rattle.snap_core.specs.Value.{Value, dict, Fields, value_at, IsPlain}
use Rattle.snap_core.specs.Level.{Step, at_key, CanInsert, set_field, insert_field, remove_field}
use Rattle.snap_core.specs.Unview.{snap_of}
use Rattle.pointer_core.specs.Path.{Path}
use Rattle.patch_core.specs.Application.{outcome_map}
use Rattle.patch_core.specs.Fits.{FitsPart}
use Rattle.patch_core.specs.declared.error.PatchError.{PatchError}
use Rattle.patch_core.specs.declared.error.PatchError.TheVariants as error
use Rattle.patch_core.specs.declared.patch.PatchOp.{PatchOp}
use Rattle.patch_core.specs.declared.patch.PatchOp.TheVariants.{Add, Replace, Remove}
use Rattle.patch_core.specs.declared.patch.Patch.{Patch}
use Rattle.type_table.specs.Table.{Catalog}
use Rattle.edit_core.specs.Labelled.{Label, Labelled, Entries, keyed, entries_in, bare, bare_fields}
use Rattle.edit_core.specs.Edit.{Turn, add, remove, replace, to_entry}
use Rattle.edit_core.specs.Template.{numbered, entry_at}
use Rattle.edit_core.specs.Ways.{with_part}
use Rattle.tree_core.specs.Nodes.{place_in}
use Rattle.tree_core.specs.Changed.{Changed, placed, part_added, part_removed}
use Rattle.tree_lists.specs.Restoring.{Putting, spot_in, new_at, replaced_by, put_in, spot_restored}
use Rattle.tree_lists.proofs.Spots.{some-one}
use Rattle.restoring_laws.proofs.Levels.{value-bare, entry-changed, entry-put, entry-cut}
use Rattle.restoring_laws.proofs.Along.{entry-under}
use Rattle.restoring_laws.proofs.Told.{IsTold, Makes}
use Rattle.restoring_laws.proofs.NewParts.{given}

module _ (types : Catalog) (next : ℕ) (v : Value) (plain : IsPlain v) (l : Label) (es : Entries Label) (plain-node : IsPlain (bare (keyed l es))) (key : List ℕ) where
  abbrev by : Putting
  by = record { types = types; node = keyed l es; next = next }

  abbrev turn : Turn
  turn = to_entry (place_in key (entries_in es)) key

  abbrev new : Labelled
  new = numbered next (new_at by turn v)

  given-new : bare new ≡ v
  given-new = given by turn v plain

  -- the fields with a value under a key, and without it, by whether the key is held
  abbrev put : Option Value → Value → Result Value PatchError
  put o w = Ok (dict tt (if is_some o then set_field key w (bare_fields es) else insert_field key w (bare_fields es)))

  abbrev where_some : Fields → Option Value → Result Value PatchError
  where_some ms o = outcome_map (dict tt) (if is_some o then Ok ms else Err error.Path)

  held-bare : (o : Option Labelled) → entry_at key (entries_in es) ≡ o → value_at key (bare_fields es) ≡ option_map bare o
  held-bare o e = value-bare key es ∙ ap (option_map bare) e

  -- in the place of an old value
  abbrev in_place : Labelled → Changed
  in_place held = placed (turn ∷ []) (keyed l es) (replaced_by (new_at by turn v) next held)

  set-value : (held : Labelled) → entry_at key (entries_in es) ≡ Some held → bare (in_place held).value ≡ dict tt (set_field key v (bare_fields es))
  set-value held found =
      let With : Value → Value = λ w. dict tt (set_field key w (bare_fields es)) in
      ap (dict tt) (entry-changed key l es plain-node held (with_part [] new) found) ∙ ap With given-new

  put-held : (held : Labelled) → entry_at key (entries_in es) ≡ Some held → Makes Add key v (keyed l es) (in_place held)
  put-held held found =
      record {
        value = ap (λ o. put o v) (held-bare (Some held) found) ∙ ap Ok (sym (set-value held found));
        single = refl;
        logged = λ old fits. absurd (held-twice fits.0 fits.1 fits.2 (held-bare (Some held) found));
      } where
        held-twice : (step : Step) → Some (at_key key) ≡ Some step → CanInsert step (dict tt (bare_fields es)) → value_at key (bare_fields es) ≡ Some (bare held) → ⊥
        held-twice step is room there =
            let Room : Step → Type 0 = λ s. CanInsert s (dict tt (bare_fields es)) in
            let none : value_at key (bare_fields es) ≡ None = subst Room (sym (some-one (at_key key) step is)) room in
            absurd (cc)

  put-new : entry_at key (entries_in es) ≡ None → Makes Add key v (keyed l es) (part_added turn (new_at by turn v) next (keyed l es))
  put-new none =
      let With : Path → Value → Patch = λ path w. record { op = Add; path = path; value = Some (snap_of w); old = None } in
      record {
        value = ap (λ o. put o v) (held-bare None none) ∙ ap (put None) (sym given-new) ∙ ap Ok (sym (entry-put key l es plain-node new (subst IsPlain (sym given-new) plain) none));
        single = refl;
        logged = λ old fits. record { turn = turn; operation = add new; edits = refl; leads = refl; patch = λ path. ap (With path) given-new };
      }

  replaced : (held : Labelled) → entry_at key (entries_in es) ≡ Some held → Makes Replace key v (keyed l es) (in_place held)
  replaced held found =
      record {
        value = ap (where_some (set_field key v (bare_fields es))) (held-bare (Some held) found) ∙ ap Ok (sym (set-value held found));
        single = refl;
        logged = λ old fits. is-told old fits (entry-under key es held found);
      } where
        is-told : (old : Option Value) → FitsPart Replace key old (dict tt (bare_fields es)) → FitsPart Replace key (Some (bare held)) (dict tt (bare_fields es))
            → IsTold Replace key v old (in_place held)
        is-told None fits stands = absurd fits
        is-told (Some o) fits stands =
            let same : bare held ≡ o = some-one (bare held) o (sym stands ∙ fits) in
            let New : Path → Value → Patch = λ path w. record { op = Replace; path = path; value = Some (snap_of w); old = Some (snap_of (bare held)) } in
            let Old : Path → Value → Patch = λ path w. record { op = Replace; path = path; value = Some (snap_of v); old = Some (snap_of w) } in
            record { turn = turn; operation = replace held new; edits = refl; leads = refl; patch = λ path. ap (New path) given-new ∙ ap (Old path) same }

  removed : (held : Labelled) → entry_at key (entries_in es) ≡ Some held → Makes Remove key v (keyed l es) (part_removed turn held next (keyed l es))
  removed held found =
      record {
        value = ap (where_some (remove_field key (bare_fields es))) (held-bare (Some held) found) ∙ ap Ok (sym (entry-cut key l es plain-node held found));
        single = refl;
        logged = λ old fits. is-told old fits (entry-under key es held found);
      } where
        is-told : (old : Option Value) → FitsPart Remove key old (dict tt (bare_fields es)) → FitsPart Remove key (Some (bare held)) (dict tt (bare_fields es))
            → IsTold Remove key v old (part_removed turn held next (keyed l es))
        is-told None fits stands = absurd fits
        is-told (Some o) fits stands =
            let same : bare held ≡ o = some-one (bare held) o (sym stands ∙ fits) in
            let Old : Path → Value → Patch = λ path w. record { op = Remove; path = path; value = None; old = Some (snap_of w) } in
            record { turn = turn; operation = remove held; edits = refl; leads = refl; patch = λ path. ap (Old path) same }

  put-any : (o : Option Labelled) → entry_at key (entries_in es) ≡ o → Makes Add key v (keyed l es) (put_in by (new_at by turn v) turn o)
  put-any (Some held) e = put-held held e
  put-any None e = put-new e

  at-spot : (op : PatchOp) (c : Changed) (o : Option Labelled) → entry_at key (entries_in es) ≡ o
      → spot_restored by v op (record { turn = turn; held = o }) ≡ Some c → Makes op key v (keyed l es) c
  at-spot Add c o e h = subst (Makes Add key v (keyed l es)) (some-one _ c h) (put-any o e)
  at-spot Replace c (Some held) e h = subst (Makes Replace key v (keyed l es)) (some-one _ c h) (replaced held e)
  at-spot Replace c None e h = absurd (cc)
  at-spot Remove c (Some held) e h = subst (Makes Remove key v (keyed l es)) (some-one _ c h) (removed held e)
  at-spot Remove c None e h = absurd (cc)

  pub record-made : (op : PatchOp) (c : Changed)
      → option_and_then (spot_restored (record { types = types; node = keyed l es; next = next }) v op) (spot_in op key (keyed l es)) ≡ Some c → Makes op key v (keyed l es) c
  record-made op c h = at-spot op c (entry_at key (entries_in es)) refl h
