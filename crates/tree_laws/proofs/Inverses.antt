-- Where each place has a path, edits lead back too, and the patches of their inverses are the inverse patches.
use Rattle.std.proofs.Common.{◌≡◌, ℕ, List, [], ◌∷◌, ◌++◌, map, refl, sym, ap, subst, ◌∙◌}
use Rattle.std.proofs.lemmas.List.{reverse-append, map-append}
use Rattle.patch_core.specs.Inverse as patches
use Rattle.edit_core.specs.Labelled.{Labelled}
use Rattle.edit_core.specs.Edit.{Edit, Turn, Change, Operation, add, remove, replace, at_item, at_entry, whole, within, inverse_operation, inverse_change, inverse_of}
use Rattle.edit_core.specs.Application.{back}
use Rattle.edit_core.specs.Plain.{token_of, path_to, operation_in, patch_at, patch_of}
use Rattle.edit_core.proofs.Leading.{Conditions, LeadsIn, replaced, one_item, one_entry, in_item, in_entry, RunIn, no_edits, one_edit}
use Rattle.edit_core.proofs.Patches.{IsWithin, AllWithin}
use Rattle.edit_core.proofs.Runs.{joined_in, one}

module _ (C : Conditions) where
  back-one : (x y : Labelled) (e : Edit) → LeadsIn C x e y → LeadsIn C y (inverse_of e) x
  back-one x y e (replaced old new) = replaced new old
  back-one x y e (one_item l before after (add new) i) = one_item l before after (remove new) i
  back-one x y e (one_item l before after (remove old) i) = one_item l before after (add old) i
  back-one x y e (one_item l before after (replace old new) i) = one_item l before after (replace new old) i
  back-one x y e (one_entry l before after key (add new) p q) = one_entry l before after key (remove new) q p
  back-one x y e (one_entry l before after key (remove old) p q) = one_entry l before after key (add old) q p
  back-one x y e (one_entry l before after key (replace old new) p q) = one_entry l before after key (replace new old) q p
  back-one x y e (in_item l before after v w way change i lead) = in_item l before after w v way (inverse_change change) i (back-one v w (within way change) lead)
  back-one x y e (in_entry l before after key v w way change p lead) =
      in_entry l before after key w v way (inverse_change change) (C.other before after key v w p) (back-one v w (within way change) lead)

  pub back-run : (x y : Labelled) (es : List Edit) → RunIn C x es y → RunIn C y (back es) x
  back-run x y es (no_edits w) = no_edits w
  back-run x y es (one_edit a b c e rest lead run) =
      let P : List Edit → Type 0 = λ fs. RunIn C c fs a in
      subst P (sym (reverse-append (inverse_of e ∷ []) (map inverse_of rest)))
      (joined_in C c b a (back rest) (inverse_of e ∷ []) (back-run b c rest run) (one C b a (inverse_of e) (back-one a b e lead)))

-- inverses are patches of parts where the edits are

within-inverse : (e : Edit) → IsWithin e → IsWithin (inverse_of e)
within-inverse (whole old new) h = absurd h
within-inverse (within way change) h = tt

within-joined : (es fs : List Edit) → AllWithin es → AllWithin fs → AllWithin (es ++ fs)
within-joined [] fs h g = g
within-joined (e ∷ es) fs h g = (h.0, within-joined es fs h.1 g)

pub within-back : (es : List Edit) → AllWithin es → AllWithin (back es)
within-back [] h = tt
within-back (e ∷ es) h =
    subst AllWithin (sym (reverse-append (inverse_of e ∷ []) (map inverse_of es))) (within-joined (back es) (inverse_of e ∷ []) (within-back es h.1) (within-inverse e h.0, tt))

-- their patches

same-path : (way : List Turn) (change : Change) → path_to way (inverse_change change) ≡ path_to way change
same-path [] (at_item before op after) = refl
same-path [] (at_entry before key op after) = refl
same-path (turn ∷ way) change = ap (λ path. token_of turn ∷ path) (same-path way change)

inverse-at : (path : List (List ℕ)) (op : Operation) → patch_at path (inverse_operation op) ≡ patches.inverse_of (patch_at path op)
inverse-at path (add new) = refl
inverse-at path (remove old) = refl
inverse-at path (replace old new) = refl

inverse-change : (change : Change) → operation_in (inverse_change change) ≡ inverse_operation (operation_in change)
inverse-change (at_item before op after) = refl
inverse-change (at_entry before key op after) = refl

inverse-patch : (e : Edit) → patch_of (inverse_of e) ≡ patches.inverse_of (patch_of e)
inverse-patch (whole old new) = refl
inverse-patch (within way change) =
    ap (λ path. patch_at path (operation_in (inverse_change change))) (same-path way change)
    ∙ ap (patch_at (path_to way change)) (inverse-change change) ∙ inverse-at (path_to way change) (operation_in change)

pub back-patches : (es : List Edit) → map patch_of (back es) ≡ patches.back (map patch_of es)
back-patches [] = refl
back-patches (e ∷ es) =
    ap (map patch_of) (reverse-append (inverse_of e ∷ []) (map inverse_of es))
    ∙ map-append patch_of (back es) (inverse_of e ∷ [])
    ∙ ap (λ ps. ps ++ patch_of (inverse_of e) ∷ []) (back-patches es)
    ∙ ap (λ p. patches.back (map patch_of es) ++ p ∷ []) (inverse-patch e)
    ∙ sym (reverse-append (patches.inverse_of (patch_of e) ∷ []) (map patches.inverse_of (map patch_of es)))
