-- Edits are patches without labels: each fits the plain value, and makes of it what the edit leads to.
use Rattle.std.proofs.Common.{◌≡◌, ℕ, ◌<◌, ◌^◌, List, [], ◌∷◌, ◌++◌, length, map, Option, Some, None, Ok, decimal, refl, ◌∙◌, ap, subst}
use Rattle.std.specs.Option.{option_map}
use Rattle.snap_core.specs.Value.{Value, null, list, dict}
use Rattle.snap_core.specs.Level.{Step, at_index, at_key, child, set_child}
use Rattle.snap_core.proofs.Views.{view-snap_of}
use Rattle.pointer_core.specs.Path.{Path}
use Rattle.pointer_core.proofs.Indices.{index_of_decimal}
use Rattle.patch_core.specs.Place.{step_of}
use Rattle.patch_core.specs.Application.{changed, applied}
use Rattle.patch_core.specs.Fits.{FitsAt, Fits, LeadsTo}
use Rattle.patch_core.specs.declared.patch.PatchOp.{PatchOp}
use Rattle.patch_core.specs.declared.patch.PatchOp.TheVariants.{Add, Replace, Remove}
use Rattle.patch_core.proofs.Steps.{part_under-at, edited-add, edited-replace, edited-remove}
use Rattle.edit_core.specs.Labelled.{Labelled, Entry, bare}
use Rattle.edit_core.specs.Edit.{Edit, Change, Operation, add, remove, replace, at_item, at_entry, whole, within, old_in, new_in, entries_at}
use Rattle.edit_core.specs.Edit as edit
use Rattle.edit_core.specs.Plain.{token_of, path_to, place_token, operation_in, patch_at, patch_of}
use Rattle.edit_core.proofs.Leading.{LeadsIn, replaced, one_item, one_entry, in_item, in_entry, RunIn, no_edits, one_edit}
use Rattle.edit_core.proofs.Ascending.{Ascend, spelled}
use Rattle.edit_core.proofs.Places.{plain_items, plain_fields, item-stands, item-set, item-removed, item-added, item-room, entry-stands, entry-set, entry-removed, entry-absent, entry-added}

abbrev op_of : Operation → PatchOp
op_of (add new) = Add
op_of (remove old) = Remove
op_of (replace old new) = Replace

abbrev old_of : Operation → Option Value
old_of (add new) = None
old_of (remove old) = Some (bare old)
old_of (replace old new) = Some (bare old)

abbrev written_of : Operation → Value
written_of (add new) = bare new
written_of (remove old) = null
written_of (replace old new) = bare new

-- an operation at a path fits a value, and makes another of it
record PatchLeads (path : Path) (op : Operation) (s t : Value) : Type 0 where
  fits : FitsAt (op_of op) path (old_of op) s
  leads : changed (op_of op) path (written_of op) s ≡ Ok t

at-item : (before after : List Labelled) (op : Operation) → length before < 2 ^ 32
    → PatchLeads (decimal (length before) ∷ []) op (list tt (plain_items (before ++ (old_in op ++ after)))) (list tt (plain_items (before ++ (new_in op ++ after))))
at-item before after (add new) i =
    let is : step_of (decimal (length before)) (list tt (plain_items (before ++ after))) ≡ Some (at_index (length before)) = ap (option_map at_index) (index_of_decimal (length before) i) in
    record {
      fits = (at_index (length before), is, item-room before after);
      leads = edited-add (decimal (length before)) (at_index (length before)) (bare new) (list tt (plain_items (before ++ after))) is (item-room before after) ∙ ap (λ ps. Ok (list tt ps)) (item-added before after new);
    }
at-item before after (remove old) i =
    let s : Value = list tt (plain_items (before ++ old ∷ after)) in
    let is : step_of (decimal (length before)) s ≡ Some (at_index (length before)) = ap (option_map at_index) (index_of_decimal (length before) i) in
    record {
      fits = part_under-at (decimal (length before)) (at_index (length before)) s (bare old) is (item-stands before after old);
      leads = edited-remove (decimal (length before)) (at_index (length before)) null s (bare old) is (item-stands before after old) ∙ ap (λ ps. Ok (list tt ps)) (item-removed before after old);
    }
at-item before after (replace old new) i =
    let s : Value = list tt (plain_items (before ++ old ∷ after)) in
    let is : step_of (decimal (length before)) s ≡ Some (at_index (length before)) = ap (option_map at_index) (index_of_decimal (length before) i) in
    record {
      fits = part_under-at (decimal (length before)) (at_index (length before)) s (bare old) is (item-stands before after old);
      leads = edited-replace (decimal (length before)) (at_index (length before)) (bare new) s (bare old) is (item-stands before after old) ∙ ap (λ ps. Ok (list tt ps)) (item-set before after old new);
    }

at-entry : (before after : List Entry) (key : List ℕ) (op : Operation) → Ascend (before ++ (entries_at key (old_in op) ++ after)) → Ascend (before ++ (entries_at key (new_in op) ++ after))
    → PatchLeads (key ∷ []) op (dict tt (plain_fields (before ++ (entries_at key (old_in op) ++ after)))) (dict tt (plain_fields (before ++ (entries_at key (new_in op) ++ after))))
at-entry before after key (add new) p q =
    record {
      fits = (at_key key, refl, entry-absent before after key new q);
      leads = edited-add key (at_key key) (bare new) (dict tt (plain_fields (before ++ after))) refl (entry-absent before after key new q) ∙ ap (λ ms. Ok (dict tt ms)) (entry-added before after key new q);
    }
at-entry before after key (remove old) p q =
    let s : Value = dict tt (plain_fields (before ++ (key, old) ∷ after)) in
    record {
      fits = part_under-at key (at_key key) s (bare old) refl (entry-stands before after key old p);
      leads = edited-remove key (at_key key) null s (bare old) refl (entry-stands before after key old p) ∙ ap (λ ms. Ok (dict tt ms)) (entry-removed before after key old p);
    }
at-entry before after key (replace old new) p q =
    let s : Value = dict tt (plain_fields (before ++ (key, old) ∷ after)) in
    record {
      fits = part_under-at key (at_key key) s (bare old) refl (entry-stands before after key old p);
      leads = edited-replace key (at_key key) (bare new) s (bare old) refl (entry-stands before after key old p) ∙ ap (λ ms. Ok (dict tt ms)) (entry-set before after key old new p);
    }

-- one token further in
deeper : (token next : List ℕ) (rest : Path) (op : Operation) (s c d : Value) (step : Step) → step_of token s ≡ Some step → child step s ≡ Some c
    → PatchLeads (next ∷ rest) op c d → PatchLeads (token ∷ next ∷ rest) op s (set_child step d s)
deeper token next rest op s c d step is found inner = record {
  fits = (c, part_under-at token step s c is found, inner.fits);
  leads = rw (is, found, inner.leads) refl;
}

-- the same for the path of a change, which is never empty
deeper-path : (token : List ℕ) (way : List edit.Turn) (change : Change) (s c d : Value) (step : Step) → step_of token s ≡ Some step → child step s ≡ Some c
    → PatchLeads (path_to way change) (operation_in change) c d → PatchLeads (token ∷ path_to way change) (operation_in change) s (set_child step d s)
deeper-path token [] change s c d step is found inner = deeper token (place_token change) [] (operation_in change) s c d step is found inner
deeper-path token (next ∷ way) change s c d step is found inner = deeper token (token_of next) (path_to way change) (operation_in change) s c d step is found inner

reaches : (path : Path) (op : Operation) (s t u : Value) → t ≡ u → PatchLeads path op s t → PatchLeads path op s u
reaches path op s t u same lead = let P : Value → Type 0 = λ v. PatchLeads path op s v in subst P same lead

-- what an edit is as a patch; the whole is not reached by a patch
abbrev PatchOrWhole : Edit → Value → Value → Type 0
PatchOrWhole (whole old new) s t = Unit {0}
PatchOrWhole (within way change) s t = PatchLeads (path_to way change) (operation_in change) s t

patch-leads : (x y : Labelled) (e : Edit) → LeadsIn spelled x e y → PatchOrWhole e (bare x) (bare y)
patch-leads x y e (replaced old new) = tt
patch-leads x y e (one_item l before after op i) = at-item before after op i
patch-leads x y e (one_entry l before after key op p q) = at-entry before after key op p q
patch-leads x y e (in_item l before after v w way change i lead) =
    let s : Value = list tt (plain_items (before ++ v ∷ after)) in
    reaches (decimal (length before) ∷ path_to way change) (operation_in change) s (set_child (at_index (length before)) (bare w) s) (list tt (plain_items (before ++ w ∷ after)))
    (ap (list tt) (item-set before after v w))
    (deeper-path (decimal (length before)) way change s (bare v) (bare w) (at_index (length before)) (ap (option_map at_index) (index_of_decimal (length before) i)) (item-stands before after v)
    (patch-leads v w (within way change) lead))
patch-leads x y e (in_entry l before after key v w way change p lead) =
    let s : Value = dict tt (plain_fields (before ++ (key, v) ∷ after)) in
    reaches (key ∷ path_to way change) (operation_in change) s (set_child (at_key key) (bare w) s) (dict tt (plain_fields (before ++ (key, w) ∷ after)))
    (ap (dict tt) (entry-set before after key v w p))
    (deeper-path key way change s (bare v) (bare w) (at_key key) refl (entry-stands before after key v p)
    (patch-leads v w (within way change) lead))

-- as a patch of the public surface
patch-fits : (path : Path) (op : Operation) (s t : Value) → PatchLeads path op s t → Fits (patch_at path op) s × (applied (patch_at path op) s ≡ Ok t)
patch-fits path (add new) s t lead = ((tt, lead.fits), rw view-snap_of lead.leads)
patch-fits path (remove old) s t lead = ((tt, rw view-snap_of lead.fits), lead.leads)
patch-fits path (replace old new) s t lead = ((tt, rw (view-snap_of (bare old)) lead.fits), rw (view-snap_of (bare new)) lead.leads)

-- no edit is one of the whole
abbrev pub IsWithin : Edit → Type 0
IsWithin (whole old new) = ⊥
IsWithin (within way change) = Unit {0}

abbrev pub AllWithin : List Edit → Type 0
AllWithin [] = Unit {0}
AllWithin (e ∷ es) = IsWithin e × AllWithin es

patch-of : (x y : Labelled) (e : Edit) → IsWithin e → PatchOrWhole e (bare x) (bare y) → Fits (patch_of e) (bare x) × (applied (patch_of e) (bare x) ≡ Ok (bare y))
patch-of x y (whole old new) inner lead = absurd inner
patch-of x y (within way change) inner lead = patch-fits (path_to way change) (operation_in change) (bare x) (bare y) lead

pub patches-lead : (x y : Labelled) (es : List Edit) → AllWithin es → RunIn spelled x es y → LeadsTo (map patch_of es) (bare x) (bare y)
patches-lead x y es inner (no_edits w) = refl
patches-lead x y es inner (one_edit a b c e rest lead run) =
    let here = patch-of a b e inner.0 (patch-leads a b e lead) in
    (bare b, here.0, here.1, patches-lead b c rest inner.1 run)
