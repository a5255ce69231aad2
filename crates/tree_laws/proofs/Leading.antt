-- What goes leads: its patches fit in turn, and their inverses lead back.
use Rattle.std.proofs.Common.{◌≡◌, ℕ, List, [], ◌∷◌, ◌++◌, map, append-nil, refl, sym, ap, subst, ◌∙◌}
use Rattle.std.proofs.lemmas.List.{map-append}
use Rattle.patch_core.specs.declared.patch.Patch.{Patch}
use Rattle.patch_core.specs.Fits.{LeadsTo}
use Rattle.patch_core.specs.Inverse as patches
use Rattle.edit_core.specs.Labelled.{Labelled, bare}
use Rattle.edit_core.specs.Edit.{Edit, Turn, whole, within}
use Rattle.edit_core.specs.Logged.{LoggedEdit, logged, place_of, patch_of_logged}
use Rattle.edit_core.specs.Plain.{patch_of}
use Rattle.edit_core.specs.Application.{back}
use Rattle.edit_core.proofs.Ascending.{spelled}
use Rattle.edit_core.proofs.Logged.{logged-patch}
use Rattle.edit_core.proofs.Patches.{IsWithin, AllWithin, patches-lead}
use Rattle.tree_core.specs.Changed.{Changed, outward}
use Rattle.tree_core.specs.State.{State, recorded, edits_of, patches_of}
use Rattle.tree_core.proofs.Moving.{Runs}
use Rattle.tree_laws.specs.Calls.{LeadsOn}
use Rattle.tree_laws.proofs.Inverses.{back-run, within-back, back-patches}

-- a logged edit of a part, and not of the whole
abbrev pub IsInside : List Turn → Type 0
IsInside [] = ⊥
IsInside (turn ∷ way) = Unit {0}

abbrev pub AllInside : List LoggedEdit → Type 0
AllInside [] = Unit {0}
AllInside (e ∷ es) = IsInside e.way × AllInside es

inside-behind : (way : List Turn) (last : Turn) → IsInside (way ++ last ∷ [])
inside-behind [] last = tt
inside-behind (turn ∷ way) last = tt

inside-one : (e : Edit) → IsWithin e → IsInside (logged e).way
inside-one (whole old new) h = absurd h
inside-one (within way change) h = inside-behind way (place_of change)

pub inside-within : (es : List Edit) → AllWithin es → AllInside (map logged es)
inside-within [] h = tt
inside-within (e ∷ es) h = (inside-one e h.0, inside-within es h.1)

within-one : (e : Edit) → IsInside (logged e).way → IsWithin e
within-one (whole old new) h = absurd h
within-one (within way change) h = tt

within-inside : (es : List Edit) → AllInside (map logged es) → AllWithin es
within-inside [] h = tt
within-inside (e ∷ es) h = (within-one e h.0, within-inside es h.1)

-- edits that are seen from a place below the root
pub inside-outward : (turn : Turn) (way : List Turn) (es : List LoggedEdit) → AllInside (map (outward (turn ∷ way)) es)
inside-outward turn way [] = tt
inside-outward turn way (e ∷ es) = (tt, inside-outward turn way es)

pub outward-none : (es : List LoggedEdit) → map (outward []) es ≡ es
outward-none [] = refl
outward-none (e ∷ es) = ap (λ fs. e ∷ fs) (outward-none es)

patches-logged : (es : List Edit) → map patch_of_logged (map logged es) ≡ map patch_of es
patches-logged [] = refl
patches-logged (e ∷ es) = ap (λ p. p ∷ map patch_of_logged (map logged es)) (logged-patch e) ∙ ap (λ ps. patch_of e ∷ ps) (patches-logged es)

-- its patches, there and back
pub record Leading (x : Labelled) (es : List LoggedEdit) (y : Labelled) : Type 0 where
  pub there : LeadsTo (map patch_of_logged es) (bare x) (bare y)
  pub back : LeadsTo (patches.back (map patch_of_logged es)) (bare y) (bare x)

pub leading : (x : Labelled) (c : Changed) → Runs spelled x c → AllInside c.edits → Leading x c.edits c.value
leading x c runs inside =
    let all : AllWithin runs.edits = within-inside runs.edits (subst AllInside (sym runs.logs) inside) in
    let same : map patch_of runs.edits ≡ map patch_of_logged c.edits = sym (patches-logged runs.edits) ∙ ap (map patch_of_logged) runs.logs in
    let There : List Patch → Type 0 = λ ps. LeadsTo ps (bare x) (bare c.value) in
    let Back : List Patch → Type 0 = λ ps. LeadsTo ps (bare c.value) (bare x) in
    record {
      there = subst There same (patches-lead x c.value runs.edits all runs.run);
      back = subst Back (back-patches runs.edits ∙ ap patches.back same)
          (patches-lead c.value x (back runs.edits) (within-back runs.edits all) (back-run spelled x c.value runs.edits runs.run));
    }

-- what is recorded leads on
pub recorded-leads : (s : State) (es : List LoggedEdit) (y : Labelled) (next : ℕ) → Leading s.tree es y → LeadsOn s (recorded y es next s)
recorded-leads s [] y next leads = record { on = record { more = []; logged = sym (append-nil (patches_of s)); leads = refl }; back = refl }
recorded-leads s (e ∷ es) y next leads =
    record {
      on = record { more = map patch_of_logged (e ∷ es); logged = map-append patch_of_logged (edits_of s.calls) (e ∷ es); leads = leads.there };
      back = leads.back;
    }
