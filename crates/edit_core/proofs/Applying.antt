-- What an edit leads to is what it makes.
use Rattle.std.proofs.Common.{◌≡◌, ℕ, List, [], ◌∷◌, ◌++◌, length, refl, sym, ap, subst}
use Rattle.edit_core.specs.Labelled.{Label, Labelled, Entry, Branches, Entries, many, keyed, branch, branches, entries}
use Rattle.edit_core.specs.Labelled as labelled
use Rattle.edit_core.specs.Edit.{Edit, within, Leads, replaced, one_item, one_entry, in_item, in_entry, LeadInTurn, no_edits, one_edit}
use Rattle.edit_core.specs.Application.{item_changed, entry_changed, after_within, Fits, after_edit, FitInTurn, after_edits}

pub item-changed : (change : Labelled → Labelled) (before after : List Labelled) (x : Labelled)
    → item_changed (length before) change (branches (before ++ x ∷ after)) ≡ branches (before ++ change x ∷ after)
item-changed change [] after x = refl
item-changed change (b ∷ before) after x = ap (branch b) (item-changed change before after x)

pub entry-changed : (change : Labelled → Labelled) (before after : List Entry) (k : List ℕ) (x : Labelled)
    → entry_changed (length before) change (entries (before ++ (k, x) ∷ after)) ≡ entries (before ++ (k, change x) ∷ after)
entry-changed change [] after k x = refl
entry-changed change (b ∷ before) after k x = ap (labelled.entry b.0 b.1) (entry-changed change before after k x)

pub edited-is : (x y : Labelled) (e : Edit) → Leads x e y → after_edit e x ≡ y
edited-is x y e (replaced old new) = refl
edited-is x y e (one_item l before after op) = refl
edited-is x y e (one_entry l before after key op) = refl
edited-is x y e (in_item l before after v w way change lead) =
    let same : after_within way change v ≡ w = edited-is v w (within way change) lead in
    let P : Labelled → Type 0 = λ u. many l (item_changed (length before) (after_within way change) (branches (before ++ v ∷ after))) ≡ many l (branches (before ++ u ∷ after)) in
    subst P same (ap (many l) (item-changed (after_within way change) before after v))
edited-is x y e (in_entry l before after key v w way change lead) =
    let same : after_within way change v ≡ w = edited-is v w (within way change) lead in
    let P : Labelled → Type 0 = λ u. keyed l (entry_changed (length before) (after_within way change) (entries (before ++ (key, v) ∷ after))) ≡ keyed l (entries (before ++ (key, u) ∷ after)) in
    subst P same (ap (keyed l) (entry-changed (after_within way change) before after key v))

pub fits : (x y : Labelled) (e : Edit) → Leads x e y → Fits e x × (after_edit e x ≡ y)
fits x y e lead = (let P : Labelled → Type 0 = λ u. Leads x e u in subst P (sym (edited-is x y e lead)) lead, edited-is x y e lead)

pub in_turn : (x y : Labelled) (es : List Edit) → LeadInTurn x es y → FitInTurn es x × (after_edits es x ≡ y)
in_turn x y es (no_edits w) = (tt, refl)
in_turn x y es (one_edit a b c e rest lead run) =
    let further : FitInTurn rest b × (after_edits rest b ≡ c) = in_turn b c rest run in
    let here : Fits e a × (after_edit e a ≡ b) = fits a b e lead in
    let P : Labelled → Type 0 = λ u. FitInTurn rest u × (after_edits rest u ≡ c) in
    let there : P (after_edit e a) = subst P (sym here.1) further in
    ((here.0, there.0), there.1)
