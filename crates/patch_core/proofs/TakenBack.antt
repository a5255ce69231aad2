-- The laws of inverses, for one patch and for a list.
use Rattle.std.proofs.Common.{◌≡◌, List, [], ◌∷◌, ◌++◌, map, Option, Some, None, Ok, refl, sym, ◌∙◌, ap, subst}
use Rattle.std.specs.Prelude.{reverse}
use Rattle.std.specs.Option.{option_map}
use Rattle.std.proofs.lemmas.List.{reverse-append, map-append}
use Rattle.std.proofs.lemmas.List.Elements.{All-head, All-tail}
use Rattle.snap_core.specs.Value.{Value, IsOrdered}
use Rattle.snap_core.specs.View.{view}
use Rattle.snap_core.specs.declared.snap.Snap.{Snap}
use Rattle.patch_core.specs.Application.{applied, written}
use Rattle.patch_core.specs.Fits.{HasValues, Fits, LeadsTo}
use Rattle.patch_core.specs.Inverse.{opposite, inverse_of, back}
use Rattle.patch_core.specs.Laws.{InverseLeadsBack, ChangesAreTakenBack}
use Rattle.patch_core.specs.declared.patch.PatchOp.{PatchOp}
use Rattle.patch_core.specs.declared.patch.PatchOp.TheVariants.{Add, Replace, Remove}
use Rattle.patch_core.specs.declared.patch.Patch.{Patch}
use Rattle.patch_core.proofs.Inverses.{path_back}
use Rattle.patch_core.proofs.Ordered.{IsOrdered-changed}

HasValues-view : (op : PatchOp) (value old : Option Snap) → HasValues op value old → HasValues op (option_map view value) (option_map view old)
HasValues-view Add (Some v) None has = tt
HasValues-view Replace (Some v) (Some o) has = tt
HasValues-view Remove None (Some o) has = tt
HasValues-view op value old has = absurd has

HasValues-opposite : (op : PatchOp) (value old : Option Snap) → HasValues op value old → HasValues (opposite op) old value
HasValues-opposite Add (Some v) None has = tt
HasValues-opposite Replace (Some v) (Some o) has = tt
HasValues-opposite Remove None (Some o) has = tt
HasValues-opposite op value old has = absurd has

pub inverse_leads_back : InverseLeadsBack
inverse_leads_back p s ordered fits =
    let b = path_back p.op p.path (option_map view p.value) (option_map view p.old) s ordered (HasValues-view p.op p.value p.old fits.0) fits.1 in
    (b.after, b.leads, (HasValues-opposite p.op p.value p.old fits.0, b.fits), b.leads_back)

LeadsTo-append : (ps qs : List Patch) (s t u : Value) → LeadsTo ps s t → LeadsTo qs t u → LeadsTo (ps ++ qs) s u
LeadsTo-append [] qs s t u first second = let P : Value → Type 0 = λ v. LeadsTo qs v u in subst P (sym first) second
LeadsTo-append (p ∷ ps) qs s t u first second = (first.0, first.1, first.2, LeadsTo-append ps qs first.0 t u first.3 second)

back-cons : (p : Patch) (ps : List Patch) → back (p ∷ ps) ≡ back ps ++ inverse_of p ∷ []
back-cons p ps = reverse-append (inverse_of p ∷ []) (map inverse_of ps)

pub back_push : (ps : List Patch) (p : Patch) → back (ps ++ p ∷ []) ≡ inverse_of p ∷ back ps
back_push ps p = ap reverse (map-append inverse_of ps (p ∷ [])) ∙ reverse-append (map inverse_of ps) (inverse_of p ∷ [])

pub changes_are_taken_back : ChangesAreTakenBack
changes_are_taken_back [] s t ordered writes leads = sym leads
changes_are_taken_back (p ∷ ps) s t ordered writes leads =
    let one = inverse_leads_back p s ordered leads.1 in
    let same : one.0 ≡ leads.0 = let both : Ok one.0 ≡ Ok leads.0 = sym one.1 ∙ leads.2 in cc in
    let next_ordered : IsOrdered leads.0 = IsOrdered-changed p.op p.path (written p) s leads.0 (All-head (λ q. IsOrdered (written q)) p ps writes) ordered leads.2 in
    let rest = changes_are_taken_back ps leads.0 t next_ordered (All-tail (λ q. IsOrdered (written q)) p ps writes) leads.3 in
    let FitsNext : Value → Type 0 = λ v. Fits (inverse_of p) v in
    let BackFrom : Value → Type 0 = λ v. applied (inverse_of p) v ≡ Ok s in
    let last : LeadsTo (inverse_of p ∷ []) leads.0 s = (s, subst FitsNext same one.2, subst BackFrom same one.3, refl) in
    let P : List Patch → Type 0 = λ qs. LeadsTo qs t s in
    subst P (sym (back-cons p ps)) (LeadsTo-append (back ps) (inverse_of p ∷ []) t leads.0 s rest last)
