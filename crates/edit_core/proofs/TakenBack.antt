-- The inverse of an edit leads back, and the inverses of many, last first.
use Rattle.std.proofs.Common.{List, [], ◌∷◌, map, sym, subst}
use Rattle.std.proofs.lemmas.List.{reverse-append}
use Rattle.edit_core.specs.Labelled.{Labelled}
use Rattle.edit_core.specs.Edit.{Edit, add, remove, replace, within, Leads, replaced, one_item, one_entry, in_item, in_entry, LeadInTurn, no_edits, one_edit, inverse_change, inverse_of}
use Rattle.edit_core.specs.Application.{back}
use Rattle.edit_core.proofs.Runs.{joined}

pub back-one : (x y : Labelled) (e : Edit) → Leads x e y → Leads y (inverse_of e) x
back-one x y e (replaced old new) = replaced new old
back-one x y e (one_item l before after (add new)) = one_item l before after (remove new)
back-one x y e (one_item l before after (remove old)) = one_item l before after (add old)
back-one x y e (one_item l before after (replace old new)) = one_item l before after (replace new old)
back-one x y e (one_entry l before after key (add new)) = one_entry l before after key (remove new)
back-one x y e (one_entry l before after key (remove old)) = one_entry l before after key (add old)
back-one x y e (one_entry l before after key (replace old new)) = one_entry l before after key (replace new old)
back-one x y e (in_item l before after v w way change lead) = in_item l before after w v way (inverse_change change) (back-one v w (within way change) lead)
back-one x y e (in_entry l before after key v w way change lead) = in_entry l before after key w v way (inverse_change change) (back-one v w (within way change) lead)

pub back-all : (x y : Labelled) (es : List Edit) → LeadInTurn x es y → LeadInTurn y (back es) x
back-all x y es (no_edits w) = no_edits w
back-all x y es (one_edit a b c e rest lead run) =
    let P : List Edit → Type 0 = λ fs. LeadInTurn c fs a in
    subst P (sym (reverse-append (inverse_of e ∷ []) (map inverse_of rest)))
    (joined c b a (back rest) (inverse_of e ∷ []) (back-all b c rest run) (one_edit b a a (inverse_of e) [] (back-one a b e lead) (no_edits a)))
