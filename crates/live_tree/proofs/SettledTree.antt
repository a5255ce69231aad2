-- What settling leaves can be recorded.
use Rattle.std.proofs.Common.{◌≡◌, ℕ, List, [], ◌∷◌, map, append-nil, refl, sym, ap, ◌∙◌, subst}
use Rattle.std.proofs.lemmas.List.{map-append}
use Rattle.snap_core.specs.Value.{IsPlain}
use Rattle.snap_core.proofs.PlainLevels.{IsOrdered-of}
use Rattle.patch_core.specs.Fits.{LeadsTo}
use Rattle.type_table.specs.Table.{Catalog}
use Rattle.edit_core.specs.Labelled.{Labelled, bare}
use Rattle.edit_core.specs.Logged.{LoggedEdit, after_log, before_log, patch_of_logged}
use Rattle.edit_core.specs.Plain.{IsShort}
use Rattle.tree_core.specs.Changed.{Changed}
use Rattle.tree_core.specs.Settling.{Settling, settling_edits, settling_in, settled}
use Rattle.tree_core.specs.State.{State, recorded, edits_of, patches_of}
use Rattle.tree_core.specs.Recorded.{after_settling, GoesOn}
use Rattle.tree_reading.specs.Settled.{SettlingLeads}
use Rattle.tree_reading.proofs.SettlingLaws.{settling-leads}
use Rattle.live_tree.specs.Inside.{IsWell}

-- the edits, and the value that they lead to
pub settled_is : (types : Catalog) (x y : Labelled) (next : ℕ) (es : List LoggedEdit) → es ≡ settling_edits (settling_in types x) x → y ≡ after_log (settling_edits (settling_in types x) x) x
    → record { value = y; edits = es; next = next } ≡ settled types (record { root = x; next = next })
settled_is types x y next es edits value =
    let change : Labelled → List LoggedEdit → Changed = λ v fs. record { value = v; edits = fs; next = next } in
    ap (λ v. change v es) value ∙ ap (change (after_log (settling_edits (settling_in types x) x) x)) edits

pub settled_back : (types : Catalog) (x y : Labelled) (es : List LoggedEdit) → es ≡ settling_edits (settling_in types x) x → y ≡ after_log (settling_edits (settling_in types x) x) x
    → before_log es y ≡ x
settled_back types x y es edits value =
    let s : Settling = settling_in types x in
    let law : SettlingLeads s x = settling-leads s x in
    ap (λ fs. before_log fs y) edits ∙ ap (before_log (settling_edits s x)) (value ∙ law.after) ∙ law.before

pub settled_well : (types : Catalog) (next : ℕ) (x y : Labelled) → y ≡ after_log (settling_edits (settling_in types x) x) x → IsWell next x → IsWell next y
settled_well types next x y value well =
    let s : Settling = settling_in types x in
    let law : SettlingLeads s x = settling-leads s x in
    let Well : Labelled → Type 0 = λ z. IsWell next z in
    subst Well (sym (value ∙ law.after)) (law.numbered next well.0, law.plain well.1)

-- what is recorded goes on from what was there
recorded_goes : (s : State) (es : List LoggedEdit) (y : Labelled) (next : ℕ) → LeadsTo (map patch_of_logged es) (bare s.tree) (bare y) → GoesOn s (recorded y es next s)
recorded_goes s [] y next leads = record { more = []; logged = sym (append-nil (patches_of s)); leads = refl }
recorded_goes s (e ∷ es) y next leads =
    record { more = map patch_of_logged (e ∷ es); logged = map-append patch_of_logged (edits_of s.calls) (e ∷ es); leads = leads }

pub settled_goes : (types : Catalog) (s after : State) → after ≡ after_settling types s → IsPlain (bare s.tree) → IsShort (bare s.tree) → GoesOn s after
settled_goes types s after is plain short =
    let by : Settling = settling_in types s.tree in
    let law : SettlingLeads by s.tree = settling-leads by s.tree in
    let Leads : Labelled → Type 0 = λ y. LeadsTo (map patch_of_logged (settling_edits by s.tree)) (bare s.tree) (bare y) in
    let leads : Leads (after_log (settling_edits by s.tree) s.tree) =
    subst Leads (sym law.after) (law.patches (record { ordered = IsOrdered-of (bare s.tree) plain; short = short })) in
    let Goes : State → Type 0 = λ t. GoesOn s t in
    subst Goes (sym is) (recorded_goes s (settling_edits by s.tree) (after_log (settling_edits by s.tree) s.tree) s.next leads)
