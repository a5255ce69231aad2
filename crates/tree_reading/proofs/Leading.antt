-- Where tokens lead from nodes.
use Rattle.std.proofs.Common.{◌≡◌, ℕ, ◌+◌, ◌-◌, ◌≤◌, List, [], ◌∷◌, ◌++◌, length, get_or, take, refl, sym, ◌∙◌, ap, Some, arith}
use Rattle.std.proofs.lemmas.List.{take_all, take_more}
use Rattle.pointer_core.specs.Path.{Path}
use Rattle.edit_core.proofs.Logged.{items-in, entries-in}
use Rattle.node_core.specs.declared.labelled.Label.{Label}
use Rattle.node_core.specs.declared.labelled.Labelled.{Labelled}
use Rattle.node_core.specs.declared.labelled.Labelled
use Rattle.node_core.specs.declared.labelled.LabelledField.{LabelledField}
use Rattle.node_core.specs.View.{labelled, items, fields}
use Rattle.node_core.proofs.Views.{labelled-Array, labelled-Record}
use Rattle.tree_core.specs.Reading.{way_along}
use Rattle.tree_core.specs.Listing.{named_by, named_below}
use Rattle.tree_reading.specs.Leading.{along_item, along_entry}

pub along-array : (token : List ℕ) (path : Path) (l : Label) (xs : List Labelled)
    → along_item token path (items xs) ≡ way_along (token ∷ path) (labelled (Labelled.Array l xs))
along-array token path l xs = rw (labelled-Array l xs, items-in (items xs)) refl

pub along-record : (token : List ℕ) (path : Path) (l : Label) (fs : List LabelledField)
    → along_entry token path (fields fs) ≡ way_along (token ∷ path) (labelled (Labelled.Record l fs))
along-record token path l fs = rw (labelled-Record l fs, entries-in (fields fs)) refl

-- a path's last token is named in the node that the tokens before lead to
pub named_last : (holder : Path) (token : List ℕ) → named_by (holder ++ token ∷ []) ≡ Some (record { holder = holder; token = token })
named_last [] token = refl
named_last (first ∷ holder) token = ap (named_below first) (named_last holder token)

pub named_end : (tokens : List (List ℕ)) (x : List ℕ) → 1 ≤ length tokens → x ≡ get_or tokens (length tokens - 1) x
    → named_by tokens ≡ Some (record { holder = take (length tokens - 1) tokens; token = x })
named_end tokens x some is =
    let n : ℕ = length tokens - 1 in
    let all : tokens ≡ take n tokens ++ x ∷ [] =
    sym (take_all (n + 1) tokens (omega arith)) ∙ take_more tokens n x (omega arith) ∙ ap (λ y. take n tokens ++ y ∷ []) (sym is) in
    ap named_by all ∙ named_last (take n tokens) x
